-- A worker that keeps getting turns ends. So in rounds everyone ends.
use Rattle.std.proofs.Common.{◌≡◌, ◌≢◌, ⊎_elim, ℕ, zero, suc, ◌<◌, ◌≤◌, Bool, true, false, List, [], ◌∷◌, ◌++◌, refl, ap, ◌∙◌, arith}
use Rattle.std.specs.Prelude.{if◌then◌else◌}
use Rattle.std.proofs.lemmas.Bool.{cases_eq, eq-eqb}
use Rattle.amo_sets.specs.Sets.{has}
use Rattle.amo_params.specs.Givens.{IsWorker}
use Rattle.amo_kk.specs.Record.{is_over}
use Rattle.amo_kk.specs.World.{process, world_of, round, rounds}
use Rattle.amo_kk.specs.declared.phase.Phase.TheVariants.{Left}
use Rattle.amo_params.specs.declared.givens.Givens.{Givens}
use Rattle.amo_params.specs.declared.moves.Move.{Move}
use Rattle.amo_params.specs.declared.moves.Move.TheVariants.{Turn}
use Rattle.amo_bounds.specs.Fewest.{stopped, leavers}
use Rattle.amo_bounds.specs.Rest.{turns_of}
use Rattle.amo_bounds.proofs.Rest.{turns-append, always_gone}
use Rattle.amo_bounds.proofs.Ended.{stopped-append, leavers-append, gone_ended, stayed_ended}

-- nobody is halted in rounds, and nobody leaves

round_leaves : (k : ℕ) → leavers (round k) ≡ []
round_leaves zero = refl
round_leaves (suc k) = leavers-append (round k) (Turn (suc k) ∷ []) ∙ ap (λ l. l ++ []) (round_leaves k)

round_stops : (k : ℕ) → stopped (round k) ≡ []
round_stops zero = refl
round_stops (suc k) = stopped-append (round k) (Turn (suc k) ∷ []) ∙ ap (λ l. l ++ []) (round_stops k)

rounds_leave : (g : Givens) (k : ℕ) → leavers (rounds g.workers k) ≡ []
rounds_leave g zero = refl
rounds_leave g (suc k) = leavers-append (rounds g.workers k) (round g.workers) ∙ ap (λ l. l ++ leavers (round g.workers)) (rounds_leave g k) ∙ round_leaves g.workers

rounds_stop : (g : Givens) (k : ℕ) → stopped (rounds g.workers k) ≡ []
rounds_stop g zero = refl
rounds_stop g (suc k) = stopped-append (rounds g.workers k) (round g.workers) ∙ ap (λ l. l ++ stopped (round g.workers)) (rounds_stop g k) ∙ round_stops g.workers

-- how many turns a worker has in them

one_turn : (k p : ℕ) → 1 ≤ p → p ≤ k → 1 ≤ turns_of p (round k)
one_turn zero p low high = absurd (omega arith)
one_turn (suc k) p low high =
    let both = turns-append p (round k) (Turn (suc k) ∷ []) in
    ⊎_elim
    (λ (e : suc k ≡ p). let last : turns_of p (Turn (suc k) ∷ []) ≡ 1 = ap (λ (b : Bool). if b then suc 0 else 0) (eq-eqb (suc k) p e) in omega arith)
    (λ n. let before = one_turn k p low (omega arith) in omega arith)
    (cases_eq (suc k) p)

many_turns : (g : Givens) (k p : ℕ) → IsWorker g p → k ≤ turns_of p (rounds g.workers k)
many_turns g zero p o = omega arith
many_turns g (suc k) p o =
    let both = turns-append p (rounds g.workers k) (round g.workers) in
    let one = one_turn g.workers p o.low o.high in
    let rest = many_turns g k p o in
    omega arith

-- whoever is gone after rounds is over
pub over_after : (g : Givens) (k p : ℕ) → IsWorker g p → ((ms : List Move) → k < turns_of p ms → (process (world_of g ms) p).gone ≡ true) → is_over (process (world_of g (rounds g.workers (suc k))) p).local.phase ≡ true
over_after g k p o most =
    let many = many_turns g (suc k) p o in
    gone_ended g (rounds g.workers (suc k)) p o (ap (λ l. has l p) (rounds_stop g (suc k))) (ap (λ l. has l p) (rounds_leave g (suc k))) (most (rounds g.workers (suc k)) (omega arith))

pub rounds_end : (g : Givens) → (k : ℕ) × ((p : ℕ) → IsWorker g p → is_over (process (world_of g (rounds g.workers k)) p).local.phase ≡ true)
rounds_end g = let most = always_gone g in (suc most.0, λ p o. over_after g most.0 p o (λ ms. most.1 ms p))

-- whoever keeps getting turns ends, if it isn't halted and doesn't leave
pub always_ends : (g : Givens) → (k : ℕ) × ((ms : List Move) (p : ℕ) → IsWorker g p → k < turns_of p ms → has (stopped ms) p ≡ false → has (leavers ms) p ≡ false
    → is_over (process (world_of g ms) p).local.phase ≡ true)
always_ends g = let most = always_gone g in (most.0, λ ms p o many goes_on stays. gone_ended g ms p o goes_on stays (most.1 ms p many))

-- the same of whoever was asked to leave, and stayed
pub always_stays : (g : Givens) → (k : ℕ) × ((ms : List Move) (p : ℕ) → IsWorker g p → k < turns_of p ms → has (stopped ms) p ≡ false → (process (world_of g ms) p).local.phase ≢ Left
    → is_over (process (world_of g ms) p).local.phase ≡ true)
always_stays g = let most = always_gone g in (most.0, λ ms p o many goes_on stays. stayed_ended g ms p o goes_on (most.1 ms p many) stays)
