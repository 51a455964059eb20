-- Payments that go in rounds.
use Rattle.std.specs.Prelude.{◌≡◌, ℕ, Bool, true, ◌&&◌, List, length, replicate, nat_le, Ok}
use Rattle.amo_params.specs.Givens.{givens_of}
use Rattle.amo_params.specs.declared.givens.Givens.{Givens}
use Rattle.amo_crew.specs.declared.outcome.Outcome.{Outcome}
use Rattle.amo_crew.specs.Outcomes.{IsOutcome}
use Rattle.amo_crew.specs.Unsettling.{IsUnsettled}
use Rattle.amo_example_payments.specs.declared.day.payment.Payment.{Payment}
use Rattle.amo_example_payments.specs.declared.bank.BankReply.{BankReply}
use Rattle.amo_example_payments.specs.declared.sorting.Sorted.{Sorted}
use Rattle.amo_example_payments.specs.declared.rounds.Crew.{Crew}
use Rattle.amo_example_payments.specs.declared.rounds.RoundFault.{RoundFault}
use Rattle.amo_example_payments.specs.declared.rounds.RoundFault.TheVariants.{Unpaid, Unsettled, Unsorted}
use Rattle.amo_example_payments.specs.Payments.{Answers}
use Rattle.amo_example_payments.specs.Sorting.{has_job, ids_of, IsSorted, IsSortingOf, MayBeUnsure}
use Rattle.amo_params.specs.declared.limits.TheConstants.{MAX_WORKERS, MAX_STEPS}

-- the crew is from 1 to 16 workers, and each takes at most 10,000,000 steps
abbrev pub is_fit : Crew → Bool
is_fit crew = nat_le 1 crew.workers && nat_le crew.workers MAX_WORKERS && nat_le crew.steps MAX_STEPS

-- The round was executed by this crew, each worker with its steps, and its jobs are sorted.
pub record IsRound (crew : Crew) (payments : List Payment) (s : Sorted) : Type 0 where
  pub givens : Givens
  pub givens_are : givens_of (length payments) crew.workers crew.workers ≡ Ok givens
  pub outcome : Outcome Payment BankReply
  pub has_come : IsOutcome Answers givens payments (replicate crew.workers crew.steps) outcome
  pub lists : IsSortingOf (ids_of payments) outcome s
  pub sorted : IsSorted payments s
  -- what is in doubt was performed and has no receipt, or came back in a hand, or was with a worker that was not started
  pub doubts : (j : ℕ) → has_job s.in_doubt.items j ≡ true → MayBeUnsure outcome j

-- A run with these givens, payments and budgets gives this back, since it could not be settled or
-- sorted. It is the payments themselves if nothing was paid, or the rest that the threads left, or
-- the outcome.
abbrev pub IsRunFault : Givens → List Payment → List ℕ → RoundFault → Type 0
IsRunFault g payments budgets (Unpaid back) = back.items ≡ payments
IsRunFault g payments budgets (Unsettled rest) = IsUnsettled Answers g payments budgets rest
IsRunFault g payments budgets (Unsorted outcome) = IsOutcome Answers g payments budgets outcome

-- this crew has given it back of a round of these payments
abbrev pub IsRoundFault : Crew → List Payment → RoundFault → Type 0
IsRoundFault crew payments (Unpaid back) = back.items ≡ payments
IsRoundFault crew payments (Unsettled rest) = (g : Givens) × (givens_of (length payments) crew.workers crew.workers ≡ Ok g) × IsUnsettled Answers g payments (replicate crew.workers crew.steps) rest
IsRoundFault crew payments (Unsorted outcome) = (g : Givens) × (givens_of (length payments) crew.workers crew.workers ≡ Ok g) × IsOutcome Answers g payments (replicate crew.workers crew.steps) outcome
