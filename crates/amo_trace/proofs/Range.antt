-- All moves of a plan are of its workers.
use Rattle.std.proofs.Common.{◌≡◌, ℕ, zero, suc, ◌≤◌, true, List, [], ◌∷◌, ◌++◌, refl, arith}
use Rattle.amo_sets.specs.Lists.{table}
use Rattle.amo_params.specs.Moves.{are_in_range}
use Rattle.amo_kk.specs.World.{round, rounds}
use Rattle.amo_params.specs.declared.moves.Move.{Move}
use Rattle.amo_params.specs.declared.moves.Move.TheVariants.{Turn}
use Rattle.amo_params.specs.declared.givens.Givens.{Givens}
use Rattle.amo_plan.proofs.WithinLemmas.{in_range-append, one_in_range}

turns_in_range : (g : Givens) (n : ℕ) → n ≤ g.workers → are_in_range g (table n (λ p. Turn p)) ≡ true
turns_in_range g zero l = refl
turns_in_range g (suc n) l =
    in_range-append g (table n (λ p. Turn p)) (Turn (suc n) ∷ []) (turns_in_range g n (omega arith)) (one_in_range g (Turn (suc n)) (record { low = omega arith; high = l }))

rounds_in_range : (g : Givens) (n : ℕ) → are_in_range g (rounds g.workers n) ≡ true
rounds_in_range g zero = refl
rounds_in_range g (suc n) = in_range-append g (rounds g.workers n) (round g.workers) (rounds_in_range g n) (turns_in_range g g.workers (omega arith))

-- the moves of a schedule and then so many rounds are in range
pub all_in_range : (g : Givens) (moves : List Move) (n : ℕ) → are_in_range g moves ≡ true → are_in_range g (moves ++ rounds g.workers n) ≡ true
all_in_range g moves n h = in_range-append g moves (rounds g.workers n) h (rounds_in_range g n)
