-- The facts that each pass of a loop of `byte_of` keeps.
use Rattle.std.proofs.Common.{◌≡◌, ◌+◌, ◌*◌, ◌≤◌}
use Rattle.amo_sets.specs.Bits.{is_one}
use Rattle.amo_sets.specs.Rank.{count}
use Rattle.amo_sets.proofs.job_set.byte_of.Given as goal

abbrev pub invariant-loop-b : goal.invariant-loop-b
invariant-loop-b l = record {
  before : count (8 * l.b) (is_one l.word) + l.left ≡ l.i;
  some : 1 ≤ l.left;
}
