-- The facts that each pass of a loop of `note_all` keeps.
use Rattle.std.proofs.Common.{◌≡◌, ℕ, ◌+◌, ◌<◌, length, get_or, drop, map}
use Rattle.amo_status.specs.Deciding.{decided_from}
use Rattle.amo_status.specs.Standings.{open_standing, closing}
use Rattle.amo_status.proofs.standing.note_all.Given as goal

abbrev pub invariant-loop-p : goal.invariant-loop-p
invariant-loop-p l = (k : ℕ) → k < length l.fn.found
    → decided_from (get_or l.found k open_standing) (closing l.log.findings.now l.log.finals.now (l.p + 1) (map (λ journal. journal.items) (drop l.p l.log.journals.now)) (k + 1)) ≡ decided_from (get_or l.fn.found k open_standing) (closing l.log.findings.now l.log.finals.now 1 (map (λ journal. journal.items) l.log.journals.now) (k + 1))
