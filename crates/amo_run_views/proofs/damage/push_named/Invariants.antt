-- The facts that each pass of a loop of `push_named` keeps.
use Rattle.std.proofs.Common.{◌≡◌, ◌++◌, drop}
use Rattle.amo_journal.specs.Logs.{records_of}
use Rattle.amo_run_views.specs.Named.{named_in}
use Rattle.amo_run_views.proofs.damage.push_named.Given as goal

abbrev pub invariant-loop-records : goal.invariant-loop-records
invariant-loop-records l =
    l.named.items ++ named_in l.worker (records_of (drop l.records-index l.log.records.items)) ≡ l.fn.named.items ++ named_in l.worker (records_of l.log.records.items)
