-- The words of turns are read as these turns.
use Rattle.std.proofs.Common.{◌≡◌, ℕ, ◌≤◌, true, List, [], ◌∷◌, ◌++◌, length, map, Ok, refl, ap, ◌∙◌, arith, append-nil}
use Rattle.std.specs.Prelude.{nat_le}
use Rattle.std.specs.Fmt.{decimal}
use Rattle.std.proofs.lemmas.Bool.{and_parts, le-leb}
use Rattle.std.proofs.lemmas.Bool.Decides.{nat_tests}
use Rattle.std.proofs.lemmas.Fmt.{decimal_nonempty}
use Rattle.std.proofs.lemmas.List.{length-map}
use Rattle.amo_params.specs.Givens.{is_within}
use Rattle.amo_params.specs.Moves.{are_in_range}
use Rattle.amo_params.specs.declared.givens.Givens.{Givens}
use Rattle.amo_params.specs.declared.moves.Move.TheVariants.{Turn}
use Rattle.amo_plan.specs.declared.fault.PlanFault.TheVariants.{TooLong}
use Rattle.amo_plan.specs.declared.limits.TheConstants.{MOST_MOVES}
use Rattle.amo_plan.specs.Passing.{◌>>=◌, unless}
use Rattle.amo_plan.specs.Schedule.{words_of, read_words, moves_of, short_moves_of, read_schedule}
use Rattle.amo_render.specs.Numbers.{spaced}
use Rattle.amo_worst_case.proofs.ReadWords.{no_space, alone, before_space, AreRead, cons_read, turn_read, kept}
use Rattle.amo_state_space.specs.Answer.{turn_words}
use Rattle.amo_state_space.specs.Runs.{IsWholeRun}

within_is : (m p : ℕ) → is_within m p ≡ true → (1 ≤ p) × (p ≤ m)
within_is m p h = grind (arith, nat_tests)

-- the words are the numbers
split : (g : Givens) (p : ℕ) (ps : List ℕ) → are_in_range g (map Turn (p ∷ ps)) ≡ true → words_of (decimal p ++ spaced ps) ≡ map decimal (p ∷ ps)
split g p [] h =
    let within = within_is g.workers p (and_parts (is_within g.workers p) true h).0 in
    let few = g.limits.few_workers in
    ap words_of (append-nil (decimal p)) ∙ alone (decimal p) (no_space p (omega arith)) (decimal_nonempty p (omega arith))
split g p (q ∷ qs) h =
    let parts = and_parts (is_within g.workers p) (are_in_range g (map Turn (q ∷ qs))) h in
    let within = within_is g.workers p parts.0 in
    let few = g.limits.few_workers in
    before_space (decimal p) (decimal q ++ spaced qs) (no_space p (omega arith)) (decimal_nonempty p (omega arith)) ∙ ap (λ ws. decimal p ∷ ws) (split g q qs parts.1)

-- each of which is a turn
read : (version : ℕ) (g : Givens) (ps : List ℕ) → are_in_range g (map Turn ps) ≡ true → AreRead version g.workers (map decimal ps) (map Turn ps)
read version g [] h = λ i. refl
read version g (p ∷ ps) h =
    let parts = and_parts (is_within g.workers p) (are_in_range g (map Turn ps)) h in
    let within = within_is g.workers p parts.0 in
    let few = g.limits.few_workers in
    cons_read version g.workers (decimal p) (map decimal ps) (Turn p ∷ []) (map Turn ps) (turn_read version g.workers p (omega arith) (omega arith) (omega arith)) (read version g ps parts.1)

words : (g : Givens) (turns : List ℕ) → are_in_range g (map Turn turns) ≡ true → words_of (turn_words turns) ≡ map decimal turns
words g [] h = refl
words g (p ∷ ps) h = split g p ps h

-- the schedule that is shown is read as the run
pub turns_read : (version : ℕ) (g : Givens) (turns : List ℕ) → IsWholeRun g (map Turn turns) → length turns ≤ MOST_MOVES → read_schedule version g.workers (turn_words turns) ≡ Ok (map Turn turns)
unfolding read_schedule short_moves_of
turns_read version g turns run short =
    ap (λ ws. read_words version g.workers ws >>= λ words. unless (nat_le (length (moves_of words)) MOST_MOVES) TooLong (Ok (moves_of words))) (words g turns run.in_range)
    ∙ kept moves_of (read_words version g.workers (map decimal turns)) (map Turn turns) (read version g turns run.in_range 1) (le-leb _ _ (omega (arith, length-map turns Turn)))
