-- The facts that each pass of a loop of `Journal::standing` keeps.
use Rattle.std.proofs.Common.{◌≡◌, drop}
use Rattle.amo_call_log_judge.specs.Rules.{first_standing}
use Rattle.amo_call_log_judge.proofs.journal.Journal.standing.Given as goal

-- the intents to come decide
abbrev pub invariant-loop-i : goal.invariant-loop-i
invariant-loop-i l = first_standing l.worker l.own l.line l.i (drop l.i l.self.kept.items) ≡ first_standing l.worker l.own l.line 0 l.self.kept.items
