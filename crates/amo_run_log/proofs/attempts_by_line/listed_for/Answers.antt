-- `listed_for`: its promises, by the lemmas of ByLine.
use Rattle.std.proofs.Common.{◌∙◌, arith}
use Rattle.amo_run_log.proofs.ByLine.{listed_at}
use Rattle.amo_run_log.proofs.attempts_by_line.listed_for.Goals as goal

pub returns : goal.returns
returns c = c.deref.ensures.value ∙ listed_at c.args.lines.now c.args.line c.index-lines-line.result (omega arith) (omega arith) c.index-lines-line.is
