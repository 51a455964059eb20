-- The facts that each pass of a loop of `decided_by_all` keeps.
use Rattle.std.proofs.Common.{◌≡◌, ◌+◌, drop, map}
use Rattle.amo_status.specs.Deciding.{decided_from}
use Rattle.amo_status.specs.Standings.{open_standing, closing}
use Rattle.amo_status.proofs.standing.decided_by_all.Given as goal

abbrev pub invariant-loop-p : goal.invariant-loop-p
invariant-loop-p l = decided_from l.standing (closing l.log.findings.now l.log.finals.now (l.p + 1) (map (λ journal. journal.items) (drop l.p l.log.journals.now)) l.line) ≡ decided_from open_standing (closing l.log.findings.now l.log.finals.now 1 (map (λ journal. journal.items) l.log.journals.now) l.line)
