-- `decided_with`: its promises, by the lemmas of Noting.
use Rattle.std.proofs.Common.{sym, ◌∙◌}
use Rattle.amo_status.proofs.Noting.{decided_by_it}
use Rattle.amo_status.proofs.standing.decided_with.Goals as goal

pub returns : goal.returns
returns c =
    c.decided_of.ensures
    ∙ decided_by_it c.args.log.now.findings.now c.args.log.now.finals.now c.args.worker c.args.serial c.args.attempt.now c.args.before c.args.line c.state_of-state.result c.ended_at-ended.result
    c.if-attempt-line.false c.state_of-state.ensures c.ended_at-ended.ensures (sym c.is.ensures ∙ c.if-is.false)
