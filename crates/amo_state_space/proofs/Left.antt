-- How many more moves a search can make.
use Rattle.std.proofs.Common.{◌≡◌, ℕ, suc, ◌+◌, ◌-◌, ◌<◌, ◌≤◌, true, false, not, List, [], ◌∷◌, ◌++◌, length, refl, sym, ap, ◌∙◌, subst, length-append, add-one, arith}
use Rattle.std.specs.Prelude.{if◌then◌else◌, nat_lt}
use Rattle.std.proofs.lemmas.Bool.{and_parts, ltb-true, not-true, true≢false}
use Rattle.std.proofs.lemmas.List.{append-nil}
use Rattle.amo_params.specs.Moves.{is_halt}
use Rattle.amo_kk.specs.World.{process, world_of, world_after_move, world_after_moves, opening_world}
use Rattle.amo_params.specs.declared.givens.Givens.{Givens}
use Rattle.amo_params.specs.declared.moves.Move.{Move}
use Rattle.amo_params.specs.declared.moves.Move.TheVariants.{Turn, Halt, Leave}
use Rattle.amo_kk.specs.declared.model.World.{World}
use Rattle.amo_bounds.specs.Fewest.{stopped}
use Rattle.amo_bounds.specs.Rest.{is_taken, turns_taken}
use Rattle.amo_bounds.proofs.Ended.{stopped-append}
use Rattle.amo_bounds.proofs.Rest.{always_rests}
use Rattle.amo_state_space.specs.Search.{SearchView, is_allowed}

-- the turns taken in moves and one more
taken_more : (g : Givens) (w : World) (ms : List Move) (m : Move)
    → turns_taken g w (ms ++ m ∷ []) ≡ turns_taken g w ms + (if is_taken (world_after_moves g w ms) m then 1 else 0)
taken_more g w [] m = omega arith
taken_more g w (n ∷ ms) m = let more = taken_more g (world_after_move g w n) ms m in omega arith

-- one turn more of a worker that isn't gone
pub one_taken : (g : Givens) (ms : List Move) (p : ℕ) → (process (world_of g ms) p).gone ≡ false
    → turns_taken g (opening_world g) (ms ++ Turn p ∷ []) ≡ suc (turns_taken g (opening_world g) ms)
one_taken g ms p here =
    taken_more g (opening_world g) ms (Turn p) ∙ ap (λ b. turns_taken g (opening_world g) ms + (if not b then 1 else 0)) here ∙ add-one (turns_taken g (opening_world g) ms)

-- no more turns are taken
pub most_taken : Givens → ℕ
most_taken g = (always_rests g).0

pub few_taken : (g : Givens) (ms : List Move) → turns_taken g (opening_world g) ms ≤ most_taken g
unfolding most_taken
few_taken g ms = (always_rests g).1 ms

-- the turns and stops that may still come
pub left : Givens → List Move → ℕ
left g ms = (most_taken g - turns_taken g (opening_world g) ms) + (g.workers - length (stopped ms))

-- the stops in moves and one more
pub stops_more : (g : Givens) (ms : List Move) (m : Move) (stops : ℕ) → length (stopped ms) ≡ stops → is_allowed g (world_of g ms) stops m ≡ true
    → length (stopped (ms ++ m ∷ [])) ≡ (if is_halt m then stops + 1 else stops)
stops_more g ms (Turn p) stops e h = rw (stopped-append ms (Turn p ∷ []), append-nil (stopped ms)) e
stops_more g ms (Halt p) stops e h = rw (stopped-append ms (Halt p ∷ []), length-append (stopped ms) (p ∷ [])) (omega (arith, e))
stops_more g ms (Leave p) stops e h = absurd (true≢false (sym h))

-- each move that is allowed makes them fewer
pub left_less : (g : Givens) (ms : List Move) (m : Move) → is_allowed g (world_of g ms) (length (stopped ms)) m ≡ true → left g (ms ++ m ∷ []) < left g ms
unfolding left
left_less g ms (Turn p) h =
    let here : (process (world_of g ms) p).gone ≡ false = not-true _ h in
    let more = one_taken g ms p here in
    let few = few_taken g (ms ++ Turn p ∷ []) in
    let stops = stops_more g ms (Turn p) (length (stopped ms)) refl h in
    omega arith
left_less g ms (Halt p) h =
    let more = taken_more g (opening_world g) ms (Halt p) in
    let stops = stops_more g ms (Halt p) (length (stopped ms)) refl h in
    let some : length (stopped ms) + 1 < g.workers = ltb-true (length (stopped ms) + 1) g.workers (and_parts (not (process (world_of g ms) p).gone) (nat_lt (length (stopped ms) + 1) g.workers) h).1 in
    omega arith
left_less g ms (Leave p) h = absurd (true≢false (sym h))

-- what is looked at next, of a search that makes such a move
pub next_less : (s was next : SearchView) (m : Move) (stops : ℕ) → was ≡ s → next ≡ record { givens = was.givens; moves = was.moves ++ m ∷ [] } → length (stopped s.moves) ≡ stops
    → is_allowed was.givens (world_of was.givens was.moves) stops m ≡ true → left next.givens next.moves < left s.givens s.moves
next_less s was next m stops e f k h = rw (f, e) (left_less s.givens s.moves m (rw k (subst (λ (v : SearchView). is_allowed v.givens (world_of v.givens v.moves) stops m ≡ true) e h)))

pub next_stops : (s was next : SearchView) (m : Move) (stops : ℕ) → was ≡ s → next ≡ record { givens = was.givens; moves = was.moves ++ m ∷ [] } → length (stopped s.moves) ≡ stops
    → is_allowed was.givens (world_of was.givens was.moves) stops m ≡ true → length (stopped next.moves) ≡ (if is_halt m then stops + 1 else stops)
next_stops s was next m stops e f k h = rw (f, e) (stops_more s.givens s.moves m stops k (subst (λ (v : SearchView). is_allowed v.givens (world_of v.givens v.moves) stops m ≡ true) e h))

pub next_few : (g : Givens) (w : World) (m : Move) (stops : ℕ) → stops ≤ 15 → is_allowed g w stops m ≡ true → (if is_halt m then stops + 1 else stops) ≤ 15
next_few g w (Turn p) stops few h = few
next_few g w (Halt p) stops few h =
    let some : stops + 1 < g.workers = ltb-true (stops + 1) g.workers (and_parts (not (process w p).gone) (nat_lt (stops + 1) g.workers) h).1 in
    let most = g.limits.few_workers in
    omega arith
next_few g w (Leave p) stops few h = absurd (true≢false (sym h))
