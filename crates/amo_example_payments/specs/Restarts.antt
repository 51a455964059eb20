-- The payments by the journal of earlier runs. The line of a payment in the journal is its number.
use Rattle.std.specs.Prelude.{◌≡◌, ℕ, Bool, false, not, ◌==◌, ◌&&◌, ◌||◌, List, filter, Option, Some, None, option_and_then}
use Rattle.std.specs.List.{list_any}
use Rattle.amo_run_log.specs.declared.entry.Outcome.{Outcome}
use Rattle.amo_run_log.specs.declared.entry.Outcome.TheVariants.{Done}
use Rattle.amo_run_log.specs.declared.journal.Attempt.{Attempt}
use Rattle.amo_run_log.specs.Journals.{journal_of}
use Rattle.amo_run_log.specs.Open.{reopens}
use Rattle.amo_run_log.specs.Puts.{entries_of}
use Rattle.amo_example_payments.specs.declared.day.payment.Payment.{Payment}
use Rattle.amo_example_payments.specs.declared.restarting.Restart.{Restart}

-- the journal that a file is, of a day of so many payments
abbrev pub journal_in : ℕ → List ℕ → Option (List Attempt)
journal_in lines file = option_and_then (λ entries. journal_of lines entries) (entries_of file)

-- the payment was made, by this answer
abbrev pub is_made_by : Outcome → Bool
is_made_by (Done code time) = code == 0
is_made_by answer = false

-- by what is known of its intent
abbrev pub is_made : Option Outcome → Bool
is_made None = false
is_made (Some answer) = is_made_by answer

-- it is an intent of this payment, and no answer says that the payment was not begun
abbrev pub stands : ℕ → Attempt → Bool
stands id e = (e.line == id) && not (reopens e.answer)

-- it is an intent of this payment with its receipt
abbrev pub is_receipt : ℕ → Attempt → Bool
is_receipt id e = (e.line == id) && is_made e.answer

-- there is an intent of the payment that stands
abbrev pub has_intent : List Attempt → ℕ → Bool
has_intent attempts id = list_any (stands id) attempts

-- there is a receipt of it
abbrev pub has_receipt : List Attempt → ℕ → Bool
has_receipt attempts id = list_any (is_receipt id) attempts

-- there is a receipt: the payment was made
abbrev pub was_made : List Attempt → Payment → Bool
was_made attempts p = has_receipt attempts p.id

-- there is an intent and no receipt: nobody knows
abbrev pub is_in_doubt : List Attempt → Payment → Bool
is_in_doubt attempts p = has_intent attempts p.id && not (has_receipt attempts p.id)

-- there is nothing: it was not made
abbrev pub is_untried : List Attempt → Payment → Bool
is_untried attempts p = not (has_intent attempts p.id || has_receipt attempts p.id)

-- The payments, parted by what the journal says of them.
pub record IsParted (journal : List Attempt) (payments : List Payment) (r : Restart) : Type 0 where
  pub made : r.made.items ≡ filter (was_made journal) payments
  pub in_doubt : r.in_doubt.items ≡ filter (is_in_doubt journal) payments
  pub untried : r.untried.items ≡ filter (is_untried journal) payments
