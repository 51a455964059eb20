-- The facts that each pass of a loop of `free_in` keeps.
use Rattle.std.proofs.Common.{◌≡◌, ℕ, take}
use Rattle.std.specs.BTreeSet.{contains}
use Rattle.std.specs.Ordering.{nat_cmp}
use Rattle.amo_example_payments.specs.Sorting.{has_job}
use Rattle.amo_example_payments.proofs.sorting.free_in.Given as goal

-- the free jobs so far
abbrev pub invariant-loop-entry : goal.invariant-loop-entry
invariant-loop-entry l = (j : ℕ) → contains nat_cmp l.jobs j ≡ has_job (take l.entry-index l.free) j
