-- The facts that each pass of a loop of `decided_by` keeps.
use Rattle.std.proofs.Common.{◌≡◌, ◌+◌, drop}
use Rattle.amo_status.specs.Deciding.{decided_from}
use Rattle.amo_status.specs.Standings.{closing_in}
use Rattle.amo_status.proofs.standing.decided_by.Given as goal

abbrev pub invariant-loop-i : goal.invariant-loop-i
invariant-loop-i l = decided_from l.standing (closing_in l.log.findings.now l.log.finals.now l.worker (l.i + 1) (drop l.i l.attempts) l.line) ≡ decided_from l.fn.before (closing_in l.log.findings.now l.log.finals.now l.worker 1 l.attempts l.line)
