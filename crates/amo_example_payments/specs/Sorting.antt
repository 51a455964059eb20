-- The payments of a run, by what is certain of them.
use Rattle.std.specs.Prelude.{◌≡◌, ◌⊎◌, ℕ, ◌-◌, ◌≤◌, Bool, true, false, not, ◌==◌, ◌&&◌, ◌||◌, List, length, map, filter, All, Some, slice_get}
use Rattle.std.specs.List.{list_any, enumerate_from}
use Rattle.amo_sets.specs.Sets.{has, AreDistinct}
use Rattle.amo_mailbox.specs.declared.output.Output.{Output}
use Rattle.amo_crew.specs.declared.outcome.Outcome.{Outcome}
use Rattle.amo_example_payments.specs.declared.day.payment.Payment.{Payment}
use Rattle.amo_example_payments.specs.declared.bank.BankReply.{BankReply}
use Rattle.amo_example_payments.specs.declared.bank.BankReply.TheVariants.{Paid, Unpaid}
use Rattle.amo_example_payments.specs.declared.sorting.Sorted.{Sorted}
use Rattle.amo_crew.specs.Outcomes.{jobs_of, answered, in_hand, IsOfNoThread}
use Rattle.amo_crew.specs.Running.{IsRelated}
use Rattle.amo_example_payments.specs.Payments.{Answers}

-- it is a receipt
abbrev pub is_paid : BankReply → Bool
is_paid (Paid r) = true
is_paid (Unpaid p) = false

-- one of the answers is a receipt of the job j
abbrev pub has_receipt_of : List (Output BankReply) → ℕ → Bool
has_receipt_of answers j = list_any (λ x. x.job == j && is_paid x.out) answers

-- the job j is in a list of jobs with what belongs to each
abbrev pub has_job : {X : Type 0} → List (ℕ × X) → ℕ → Bool
has_job list j = list_any (λ t. t.0 == j) list

-- there is no receipt of a job, and it is not free
abbrev pub is_unsure : List (Output BankReply) → List (ℕ × Payment) → ℕ → Bool
is_unsure answers free j = not (has_receipt_of answers j || has_job free j)

-- the job may be in doubt: it was performed, or is in a hand, or was claimed by a worker whose
-- thread could not be started
abbrev pub MayBeUnsure : Outcome Payment BankReply → ℕ → Type 0
MayBeUnsure o j = (has (answered o) j ≡ true) ⊎ ((has (in_hand o) j ≡ true) ⊎ IsOfNoThread o j)

-- the numbers of these payments
abbrev pub ids_of : List Payment → List ℕ
ids_of payments = map (λ p. p.id) payments

-- just one of the three is so
abbrev pub IsOneOf : Bool → Bool → Bool → Type 0
IsOneOf true b c = (b ≡ false) × (c ≡ false)
IsOneOf false true c = c ≡ false
IsOneOf false false c = c ≡ true

-- it is the job's payment
abbrev pub IsOwn : List Payment → ℕ × Payment → Type 0
IsOwn payloads t = slice_get payloads (t.0 - 1) ≡ Some t.1

-- it is the number of the job's payment
abbrev pub IsNumberOf : List Payment → ℕ × ℕ → Type 0
IsNumberOf payloads t = slice_get (ids_of payloads) (t.0 - 1) ≡ Some t.1

-- The lists are those of the outcome of a run of payments with these numbers: all its answers, its
-- free jobs, and what came back from a hand. The jobs in doubt are, rising and each once, those
-- without a receipt that are not free, each with its payment's number.
pub record IsSortingOf (ids : List ℕ) (o : Outcome Payment BankReply) (s : Sorted) : Type 0 where
  pub answers : s.answers.items ≡ o.outputs.items
  pub free : s.free.items ≡ o.settlement.free.items
  pub in_hand : s.in_hand.items ≡ o.in_hand.items
  pub in_doubt : s.in_doubt.items ≡ filter (λ t. is_unsure s.answers.items s.free.items t.0) (enumerate_from 1 ids)

-- A run of these payments is sorted: each job is done (with a receipt), or free, or in doubt, and
-- just one of these. No job has two answers, and each answer is a receipt of its job's own payment,
-- or that payment. A free job comes with its own payment, and a job in doubt with its own payment's
-- number.
pub record IsSorted (payloads : List Payment) (s : Sorted) : Type 0 where
  pub one : (j : ℕ) → 1 ≤ j → j ≤ length payloads → IsOneOf (has_receipt_of s.answers.items j) (has_job s.free.items j) (has_job s.in_doubt.items j)
  pub distinct : AreDistinct (jobs_of s.answers.items)
  pub answers : All (IsRelated Answers payloads) s.answers.items
  pub own : All (IsOwn payloads) s.free.items
  pub numbers : All (IsNumberOf payloads) s.in_doubt.items
