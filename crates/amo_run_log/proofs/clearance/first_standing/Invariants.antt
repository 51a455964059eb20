-- The facts that each pass of a loop of `first_standing` keeps.
use Rattle.std.proofs.Common.{map, take}
use Rattle.std.specs.Prelude.{IfSome}
use Rattle.amo_run_log.specs.Clearance.{IsStanding}
use Rattle.amo_run_log.proofs.ByLine.{AreFrom}
use Rattle.amo_run_log.proofs.clearance.first_standing.Given as goal

abbrev pub invariant-loop-id : goal.invariant-loop-id
invariant-loop-id l =
    IfSome l.first (IsStanding l.findings (map (λ journal. journal.items) l.journals) l.own l.line)
    × AreFrom l.findings (map (λ journal. journal.items) l.journals) l.own l.line (take l.id-index l.ids) l.first
