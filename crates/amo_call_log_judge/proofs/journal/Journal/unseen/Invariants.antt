-- The facts that each pass of a loop of `Journal::unseen` keeps.
use Rattle.std.proofs.Common.{◌≡◌, ◌<◌, ℕ, true}
use Rattle.amo_call_log_judge.specs.Rules.{has_seen}
use Rattle.amo_call_log_judge.proofs.journal.Journal.unseen.Given as goal

-- the process has looked at the journals so far
abbrev pub invariant-loop-other : goal.invariant-loop-other
invariant-loop-other l = (other : ℕ) → other < l.other-counter → has_seen l.self.seen.items other ≡ true
