-- The sorted jobs of a round.
use Rattle.std.proofs.Common.{◌≡◌, ℕ, List, length, replicate, Ok, Err, IfOk, IfErr, subst, sym}
use Rattle.std.specs.Prelude.{Result}
use Rattle.amo_params.specs.Givens.{givens_of}
use Rattle.amo_params.specs.declared.givens.Givens.{Givens}
use Rattle.amo_crew.specs.declared.outcome.Outcome.{Outcome}
use Rattle.amo_crew.specs.Outcomes.{IsOutcome}
use Rattle.amo_crew.specs.Unsettling.{IsUnsettled}
use Rattle.amo_example_payments.specs.declared.day.payment.Payment.{Payment}
use Rattle.amo_example_payments.specs.declared.bank.BankReply.{BankReply}
use Rattle.amo_example_payments.specs.declared.sorting.Sorted.{Sorted}
use Rattle.amo_example_payments.specs.declared.rounds.Crew.{Crew}
use Rattle.amo_example_payments.specs.declared.rounds.RoundFault.{RoundFault}
use Rattle.amo_example_payments.specs.declared.rounds.RoundFault.TheVariants.{Unpaid, Unsettled, Unsorted}
use Rattle.amo_example_payments.specs.Payments.{Answers}
use Rattle.amo_example_payments.specs.Sorting.{ids_of, IsSorted, IsSortingOf}
use Rattle.amo_example_payments.specs.Rounds.{IsRound, IsRunFault, IsRoundFault}
use Rattle.amo_example_payments.proofs.Sorts.{may_be_unsure}

pub round_of : (crew : Crew) (g : Givens) (n : ℕ) (payments : List Payment) (ids : List ℕ) (budgets : List ℕ) (o : Outcome Payment BankReply) (r : Result Sorted RoundFault)
    → n ≡ length payments → ids ≡ ids_of payments → givens_of n crew.workers crew.workers ≡ Ok g → budgets ≡ replicate crew.workers crew.steps → IsOutcome Answers g payments budgets o
    → IfOk r (IsSortingOf ids o) → IfOk r (λ s. (h : Givens) (xs : List Payment) (bs : List ℕ) → IsOutcome Answers h xs bs o → ids ≡ ids_of xs → IsSorted xs s) → IfOk r (IsRound crew payments)
round_of crew g n payments ids budgets o (Ok s) size named givens all is lists sorted = record {
  givens = g;
  givens_are = subst (λ k. givens_of k crew.workers crew.workers ≡ Ok g) size givens;
  outcome = o;
  has_come = subst (λ bs. IsOutcome Answers g payments bs o) all is;
  lists = subst (λ l. IsSortingOf l o s) named lists;
  sorted = sorted g payments budgets is named;
  doubts = may_be_unsure g payments ids budgets o s is named lists;
}
round_of crew g n payments ids budgets o (Err f) size named givens all is lists sorted = tt

pub run_fault : (crew : Crew) (g : Givens) (n : ℕ) (payments : List Payment) (budgets : List ℕ) (f : RoundFault)
    → n ≡ length payments → givens_of n crew.workers crew.workers ≡ Ok g → budgets ≡ replicate crew.workers crew.steps → IsRunFault g payments budgets f → IsRoundFault crew payments f
run_fault crew g n payments budgets (Unpaid back) size givens all is = is
run_fault crew g n payments budgets (Unsettled rest) size givens all is =
    (g, subst (λ k. givens_of k crew.workers crew.workers ≡ Ok g) size givens, subst (λ bs. IsUnsettled Answers g payments bs rest) all is)
run_fault crew g n payments budgets (Unsorted o) size givens all is =
    (g, subst (λ k. givens_of k crew.workers crew.workers ≡ Ok g) size givens, subst (λ bs. IsOutcome Answers g payments bs o) all is)

pub unsorted : (crew : Crew) (g : Givens) (n : ℕ) (payments : List Payment) (budgets : List ℕ) (o : Outcome Payment BankReply) (r : Result Sorted RoundFault)
    → n ≡ length payments → givens_of n crew.workers crew.workers ≡ Ok g → budgets ≡ replicate crew.workers crew.steps → IsOutcome Answers g payments budgets o
    → IfErr r (λ f. f ≡ Unsorted o) → IfErr r (IsRoundFault crew payments)
unsorted crew g n payments budgets o (Ok s) size givens all is e = tt
unsorted crew g n payments budgets o (Err f) size givens all is e = subst (IsRoundFault crew payments) (sym e) (run_fault crew g n payments budgets (Unsorted o) size givens all is)
