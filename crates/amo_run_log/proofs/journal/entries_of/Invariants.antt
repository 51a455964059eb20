-- The facts that each pass of a loop of `entries_of` keeps.
use Rattle.std.proofs.Common.{◌≡◌, take}
use Rattle.amo_run_log.specs.Entries.{entries_of_appends}
use Rattle.amo_run_log.proofs.journal.entries_of.Given as goal

abbrev pub invariant-loop-append : goal.invariant-loop-append
invariant-loop-append l = l.entries.items ≡ entries_of_appends (take l.append-index l.appends)
