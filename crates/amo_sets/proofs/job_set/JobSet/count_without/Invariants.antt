-- The facts that each pass of a loop of `JobSet::count_without` keeps.
use Rattle.std.proofs.Common.{◌≡◌, ◌*◌}
use Rattle.amo_sets.specs.Bits.{is_without}
use Rattle.amo_sets.proofs.Tally.{tally}
use Rattle.amo_sets.proofs.job_set.JobSet.count_without.Given as goal

abbrev pub invariant-loop-q : goal.invariant-loop-q
invariant-loop-q l = l.total ≡ tally (64 * l.q) (is_without l.self l.other)
