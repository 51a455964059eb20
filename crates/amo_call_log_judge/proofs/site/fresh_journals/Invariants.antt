-- The facts that each pass of a loop of `fresh_journals` keeps.
use Rattle.std.proofs.Common.{◌≡◌, length}
use Rattle.amo_call_log_judge.specs.Seen.{AreFresh}
use Rattle.amo_call_log_judge.proofs.site.fresh_journals.Given as goal

-- so many journals, without intents
abbrev pub invariant-loop-worker : goal.invariant-loop-worker
invariant-loop-worker l = record { many : length l.journals.items ≡ l.worker; fresh : AreFresh l.journals.items }
