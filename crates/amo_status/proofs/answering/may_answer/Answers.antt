-- `may_answer`: its promises, by the lemmas of Quiets.
use Rattle.std.proofs.Common.{Vec, Global, map}
use Rattle.amo_run_log.specs.declared.journal.Attempt.{Attempt}
use Rattle.amo_status.proofs.Quiets.{taken_now}
use Rattle.amo_status.proofs.answering.may_answer.Goals as goal

pub returns-clause-taken : goal.returns-clause-taken
returns-clause-taken c =
    taken_now c.args.quiet c.args.log.now.findings.now (map (λ (v : Vec Attempt Global). v.items) c.args.log.now.journals.now) c.args.log.now.finals.now c.args.worker c.args.serial c.args.line c.args.verdict c.checked_now.result c.checked_now.ensures
