-- The facts that each pass of a loop of `place_of` keeps.
use Rattle.std.proofs.Common.{◌≡◌, ◌+◌, ◌≤◌}
use Rattle.amo_sets.specs.Bits.{is_one}
use Rattle.amo_sets.specs.Rank.{count}
use Rattle.amo_sets.proofs.job_set.place_of.Given as goal

abbrev pub invariant-loop-r : goal.invariant-loop-r
invariant-loop-r l = record {
  before : count l.r (is_one l.word) + l.left ≡ l.i;
  some : 1 ≤ l.left;
}
