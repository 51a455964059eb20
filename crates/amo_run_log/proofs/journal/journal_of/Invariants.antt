-- The facts that each pass of a loop of `journal_of` keeps.
use Rattle.std.proofs.Common.{◌≡◌, take, Some}
use Rattle.amo_run_log.specs.Journals.{journal_of}
use Rattle.amo_run_log.proofs.journal.journal_of.Given as goal

abbrev pub invariant-loop-i : goal.invariant-loop-i
invariant-loop-i l = journal_of l.count (take l.i l.entries) ≡ Some l.attempts.items
