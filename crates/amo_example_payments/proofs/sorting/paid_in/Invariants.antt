-- The facts that each pass of a loop of `paid_in` keeps.
use Rattle.std.proofs.Common.{◌≡◌, ℕ, take}
use Rattle.std.specs.BTreeSet.{contains}
use Rattle.std.specs.Ordering.{nat_cmp}
use Rattle.amo_example_payments.specs.Sorting.{has_receipt_of}
use Rattle.amo_example_payments.proofs.sorting.paid_in.Given as goal

-- the jobs with a receipt among the answers so far
abbrev pub invariant-loop-output : goal.invariant-loop-output
invariant-loop-output l = (j : ℕ) → contains nat_cmp l.paid j ≡ has_receipt_of (take l.output-index l.answers) j
