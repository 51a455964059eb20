-- The facts that each pass of a loop of `list_unsure` keeps.
use Rattle.std.proofs.Common.{◌≡◌, ◌≤◌, ◌||◌, not, filter, take, vec_len, vec_capacity}
use Rattle.std.specs.List.{enumerate_from}
use Rattle.std.specs.BTreeSet.{contains}
use Rattle.std.specs.Ordering.{nat_cmp}
use Rattle.amo_example_payments.proofs.sorting.list_unsure.Given as goal

abbrev pub invariant-loop-before : goal.invariant-loop-before
invariant-loop-before l = (l.unsure.items ≡ filter (λ t. not (contains nat_cmp l.paid t.0 || contains nat_cmp l.free t.0)) (enumerate_from 1 (take l.before l.ids))) × (vec_len l.unsure ≤ l.before) × (vec_capacity l.unsure ≡ vec_capacity l.initial.unsure)
