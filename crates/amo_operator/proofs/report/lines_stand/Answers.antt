-- `lines_stand`: its promises, by the lemmas of Lines.
use Rattle.std.proofs.Common.{length, map, ap, ◌∙◌}
use Rattle.amo_operator.proofs.Lines.{as_many}
use Rattle.amo_operator.proofs.report.lines_stand.Goals as goal

pub returns-clause-len : goal.returns-clause-len
returns-clause-len c =
    let log = c.log.result in
    ap length c.in_ok-found.ensures.exact ∙ as_many log.findings.now (map (λ journal. journal.items) log.journals.now) log.finals.now c.count.result ∙ c.count.ensures.count
