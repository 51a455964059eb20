-- `recovered`: its promises, by the lemmas of Logs (amo_journal).
use Rattle.std.proofs.Common.{sym}
use Rattle.amo_journal.specs.Logs.{records_of}
use Rattle.amo_journal.proofs.Logs.{lines_records, log_texts}
use Rattle.amo_example_payments.proofs.ledger.recovered.Goals as goal

pub returns-clause-records : goal.returns-clause-records
returns-clause-records g c =
    let first = c.args.journal.now.first.digits in
    let file = g.D.Device.seen c.args.journal.now.device in
    let all = records_of c.in_ok-log.log.records.items in
    sym (lines_records first all file (log_texts first all file c.in_ok-log.ensures.log))
