-- The facts that each pass of a loop of `pending` keeps.
use Rattle.std.proofs.Common.{◌≡◌, ◌+◌, ◌++◌, drop}
use Rattle.amo_run_log.specs.Journals.{pending_from}
use Rattle.amo_run_log.proofs.journal.pending.Given as goal

abbrev pub invariant-loop-i : goal.invariant-loop-i
invariant-loop-i l = l.found.items ++ pending_from (l.i + 1) (drop l.i l.attempts) ≡ pending_from 1 l.attempts
