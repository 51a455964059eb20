-- Everyone comes to rest: of all lists of moves none has more turns that are taken than there are
-- codes of worlds.
use Rattle.std.proofs.Common.{◌≡◌, ⊎_elim, ℕ, suc, ◌+◌, ◌<◌, ◌≤◌, Bool, true, false, not, List, [], ◌∷◌, ◌++◌, length, refl, sym, ◌∙◌, subst, arith}
use Rattle.std.specs.Prelude.{if◌then◌else◌, ◌==◌}
use Rattle.std.proofs.lemmas.Bool.{true≢false, false_from_ne_true, or_cases, eqb-true}
use Rattle.amo_sets.specs.Sets.{has, AreDistinct}
use Rattle.amo_sets.proofs.Numbers.{length_distinct, count_le_all}
use Rattle.amo_kk.specs.World.{process, world_after_move, world_after_moves, opening_world, world_of}
use Rattle.amo_kk.specs.Lawful.{IsLawful}
use Rattle.amo_params.specs.declared.givens.Givens.{Givens}
use Rattle.amo_kk.specs.declared.model.World.{World}
use Rattle.amo_params.specs.declared.moves.Move.{Move}
use Rattle.amo_params.specs.declared.moves.Move.TheVariants.{Turn, Halt, Leave}
use Rattle.amo_kk.proofs.Worlds.{move_lawful, opening_lawful}
use Rattle.amo_bounds.specs.Rest.{is_taken, turns_taken, turns_of}
use Rattle.amo_bounds.proofs.Return.{after_gone, no_return}
use Rattle.amo_bounds.proofs.Codes.{IsNeat, world_code, world_room, code_in_room, code_same}
use Rattle.amo_bounds.proofs.Neat.{move_neat, opening_neat}

-- the codes of the worlds in which a turn is taken
abbrev codes : Givens → World → List Move → List ℕ
codes g w [] = []
codes g w (m ∷ ms) = if is_taken w m then suc (world_code g w) ∷ codes g (world_after_move g w m) ms else codes g (world_after_move g w m) ms

codes_length : (g : Givens) (w : World) (ms : List Move) → length (codes g w ms) ≡ turns_taken g w ms
codes_length g w [] = refl
codes_length g w (m ∷ ms) = go (is_taken w m) (codes_length g (world_after_move g w m) ms)
  where
    left : List ℕ
    left = codes g (world_after_move g w m) ms

    go : (b : Bool) → length left ≡ turns_taken g (world_after_move g w m) ms
        → length (if b then suc (world_code g w) ∷ left else left) ≡ (if b then 1 else 0) + turns_taken g (world_after_move g w m) ms
    go true e = omega arith
    go false e = omega arith

-- a world in which a code is found: it is lawful, moves lead to it, and its code is k
record IsFound (g : Givens) (w : World) (k : ℕ) : Type 0 where
  moves : List Move
  law : IsLawful g (world_after_moves g w moves)
  neat : IsNeat (world_after_moves g w moves)
  code : suc (world_code g (world_after_moves g w moves)) ≡ k

found : (g : Givens) (w : World) (ms : List Move) (k : ℕ) → IsLawful g w → IsNeat w → has (codes g w ms) k ≡ true → IsFound g w k
found g w [] k law neat h = absurd (true≢false (sym h))
found g w (m ∷ ms) k law neat h = go (is_taken w m) h (λ t. found g (world_after_move g w m) ms k (move_lawful g w m g.limits law) (move_neat g w m law neat) t)
  where
    v : World
    v = world_after_move g w m

    later : IsFound g v k → IsFound g w k
    later f = record { moves = m ∷ f.moves; law = f.law; neat = f.neat; code = f.code }

    go : (b : Bool) → has (if b then suc (world_code g w) ∷ codes g v ms else codes g v ms) k ≡ true → (has (codes g v ms) k ≡ true → IsFound g v k) → IsFound g w k
    go true t next = ⊎_elim
        (λ (e : (suc (world_code g w) == k) ≡ true). record { moves = []; law = law; neat = neat; code = eqb-true (suc (world_code g w)) k e })
        (λ u. later (next u))
        (or_cases (suc (world_code g w) == k) (has (codes g v ms) k) t)
    go false t next = later (next t)

-- no code comes twice
once : (g : Givens) (w : World) (m : Move) (ms : List Move) → IsLawful g w → IsNeat w → is_taken w m ≡ true → has (codes g (world_after_move g w m) ms) (suc (world_code g w)) ≡ true → ⊥
once g w (Turn p) ms law neat taken h =
    let v = world_after_move g w (Turn p) in
    let f = found g v ms (suc (world_code g w)) (move_lawful g w (Turn p) g.limits law) (move_neat g w (Turn p) law neat) h in
    let e = f.code in
    no_return g w p f.moves law (here (process w p).gone taken) (code_same g (world_after_moves g v f.moves) w f.law f.neat law neat (omega arith))
  where
    here : (b : Bool) → not b ≡ true → b ≡ false
    here true t = absurd (true≢false (sym t))
    here false t = refl
once g w (Halt p) ms law neat taken h = absurd (true≢false (sym taken))
once g w (Leave p) ms law neat taken h = absurd (true≢false (sym taken))

codes_distinct : (g : Givens) (w : World) (ms : List Move) → IsLawful g w → IsNeat w → AreDistinct (codes g w ms)
codes_distinct g w [] law neat = tt
codes_distinct g w (m ∷ ms) law neat = go (is_taken w m) refl (codes_distinct g (world_after_move g w m) ms (move_lawful g w m g.limits law) (move_neat g w m law neat))
  where
    go : (b : Bool) → is_taken w m ≡ b → AreDistinct (codes g (world_after_move g w m) ms)
        → AreDistinct (if b then suc (world_code g w) ∷ codes g (world_after_move g w m) ms else codes g (world_after_move g w m) ms)
    go true taken d = (false_from_ne_true (has (codes g (world_after_move g w m) ms) (suc (world_code g w))) (λ t. once g w m ms law neat taken t), d)
    go false taken d = d

rests : (g : Givens) (w : World) (ms : List Move) → IsLawful g w → IsNeat w → turns_taken g w ms ≤ world_room g
rests g w ms law neat =
    let few = length_distinct (codes g w ms) (world_room g) (codes_distinct g w ms law neat) (λ j h.
    let f = found g w ms j law neat h in
    let e = f.code in
    let l = code_in_room g (world_after_moves g w f.moves) f.law f.neat in
    (omega arith, omega arith)) in
    let most = count_le_all (has (codes g w ms)) (world_room g) in
    let e = codes_length g w ms in
    omega arith

pub always_rests : (g : Givens) → (k : ℕ) × ((ms : List Move) → turns_taken g (opening_world g) ms ≤ k)
always_rests g = (world_room g, λ ms. rests g (opening_world g) ms (opening_lawful g g.limits) (opening_neat g))

-- one list of moves after another
pub turns-append : (p : ℕ) (ms ns : List Move) → turns_of p (ms ++ ns) ≡ turns_of p ms + turns_of p ns
turns-append p [] ns = omega arith
turns-append p (Turn q ∷ ms) ns = go (q == p) (turns-append p ms ns)
  where
    go : (b : Bool) → turns_of p (ms ++ ns) ≡ turns_of p ms + turns_of p ns
        → (if b then suc (turns_of p (ms ++ ns)) else turns_of p (ms ++ ns)) ≡ (if b then suc (turns_of p ms) else turns_of p ms) + turns_of p ns
    go true e = omega arith
    go false e = e
turns-append p (Halt q ∷ ms) ns = turns-append p ms ns
turns-append p (Leave q ∷ ms) ns = turns-append p ms ns

-- who isn't gone has taken all its turns
pub takes_all : (g : Givens) (w : World) (ms : List Move) (p : ℕ) → IsLawful g w → (process (world_after_moves g w ms) p).gone ≡ false → turns_of p ms ≤ turns_taken g w ms
takes_all g w [] p law here = omega arith
takes_all g w (Turn q ∷ ms) p law here = go (q == p) refl (takes_all g (world_after_move g w (Turn q)) ms p (move_lawful g w (Turn q) g.limits law) here)
  where
    left : ℕ
    left = turns_taken g (world_after_move g w (Turn q)) ms

    some : (b : Bool) (k : ℕ) → k ≤ (if b then 1 else 0) + k
    some true k = omega arith
    some false k = omega arith

    was : q ≡ p → (process w q).gone ≡ false
    was e = false_from_ne_true (process w q).gone (λ t. true≢false (sym (after_gone g w (Turn q ∷ ms) p law (subst (λ k. (process w k).gone ≡ true) e t)) ∙ here))

    go : (b : Bool) → (q == p) ≡ b → turns_of p ms ≤ left → (if b then suc (turns_of p ms) else turns_of p ms) ≤ (if not (process w q).gone then 1 else 0) + left
    go true e h = subst (λ c. suc (turns_of p ms) ≤ (if not c then 1 else 0) + left) (sym (was (eqb-true q p e))) (omega arith)
    go false e h = let l = some (not (process w q).gone) left in omega arith
takes_all g w (Halt q ∷ ms) p law here = let l = takes_all g (world_after_move g w (Halt q)) ms p (move_lawful g w (Halt q) g.limits law) here in omega arith
takes_all g w (Leave q ∷ ms) p law here = let l = takes_all g (world_after_move g w (Leave q)) ms p (move_lawful g w (Leave q) g.limits law) here in omega arith

pub always_gone : (g : Givens) → (k : ℕ) × ((ms : List Move) (p : ℕ) → k < turns_of p ms → (process (world_of g ms) p).gone ≡ true)
always_gone g = (world_room g, gone)
  where
    gone : (ms : List Move) (p : ℕ) → world_room g < turns_of p ms → (process (world_of g ms) p).gone ≡ true
    gone ms p many = go (process (world_of g ms) p).gone refl
      where
        go : (b : Bool) → (process (world_of g ms) p).gone ≡ b → (process (world_of g ms) p).gone ≡ true
        go true e = e
        go false e =
            let all = takes_all g (opening_world g) ms p (opening_lawful g g.limits) e in
            let few = rests g (opening_world g) ms (opening_lawful g g.limits) (opening_neat g) in
            absurd (omega arith)
