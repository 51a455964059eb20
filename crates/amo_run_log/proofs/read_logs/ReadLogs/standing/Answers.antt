-- `ReadLogs::standing`: its promises, by the lemmas of ByLine and ClearTests.
use Rattle.std.proofs.Common.{List, subst}
use Rattle.std.specs.Prelude.{IfNone, IfSome}
use Rattle.amo_run_log.specs.declared.finding.Finding.{Finding}
use Rattle.amo_run_log.specs.Clearance.{IsClear, IsStanding}
use Rattle.amo_run_log.proofs.ByLine.{attempts_in}
use Rattle.amo_run_log.proofs.ClearTests.{clear_exactly}
use Rattle.amo_run_log.proofs.read_logs.ReadLogs.standing.Goals as goal

pub returns-clause-exact : goal.returns-clause-exact
returns-clause-exact c =
    let journals = attempts_in c.args.self.now.attempts.journals.items in
    clear_exactly c.args.self.now.findings.items c.args.own c.args.line journals c.standing.result
    (subst (λ (xs : List Finding). IfNone c.standing.result (IsClear xs journals c.args.own c.args.line)) c.deref.ensures.value c.standing.ensures.clear)
    (subst (λ (xs : List Finding). IfSome c.standing.result (IsStanding xs journals c.args.own c.args.line)) c.deref.ensures.value c.standing.ensures.standing)
