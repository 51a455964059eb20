-- The facts that each pass of a loop of `JobSet::rank_without` keeps.
use Rattle.std.proofs.Common.{◌≡◌, ◌*◌, ◌+◌, ◌≤◌}
use Rattle.amo_sets.specs.Bits.{is_without}
use Rattle.amo_sets.proofs.Tally.{tally}
use Rattle.amo_sets.proofs.job_set.JobSet.rank_without.Given as goal

abbrev pub invariant-loop-q : goal.invariant-loop-q
invariant-loop-q l = record {
  before : tally (64 * l.q) (is_without l.self l.other) + l.left ≡ l.i;
  some : 1 ≤ l.left;
}
