-- The facts that each pass of a loop of `note` keeps.
use Rattle.std.proofs.Common.{◌≡◌, ℕ, ◌+◌, ◌<◌, length, get_or, drop}
use Rattle.amo_status.specs.Deciding.{decided_from}
use Rattle.amo_status.specs.Standings.{open_standing, closing_in}
use Rattle.amo_status.proofs.standing.note.Given as goal

abbrev pub invariant-loop-i : goal.invariant-loop-i
invariant-loop-i l = (k : ℕ) → k < length l.fn.found
    → decided_from (get_or l.found k open_standing) (closing_in l.log.findings.now l.log.finals.now l.worker (l.i + 1) (drop l.i l.attempts) (k + 1)) ≡ decided_from (get_or l.fn.found k open_standing) (closing_in l.log.findings.now l.log.finals.now l.worker 1 l.attempts (k + 1))
