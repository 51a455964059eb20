-- `verdict_text`: the premises of its calls, that its places exist and its promises, by the lemmas
-- of Outcomes.
use Rattle.std.proofs.Common.{map, string_bytes, subst, arith}
use Rattle.std.proofs.lemmas.Result.{IfOk-weaker}
use Rattle.amo_call_log_judge.specs.Against.{IsVerdictOn}
use Rattle.amo_call_log_judge.specs.Events.{event_of}
use Rattle.amo_call_log_judge.specs.declared.event.Event.TheVariants.{Begins as BeginsRead}
use Rattle.amo_call_log_judge.proofs.Outcomes.{index_within, no_run_answer, run_answer}
use Rattle.amo_call_log_judge.proofs.telling.verdict_text.Goals as goal

pub bounds-events-index : goal.bounds-events-index
bounds-events-index c = index_within c.args.events.now c.in-NoRun.index c.in-NoRun.reason (subst (IsVerdictOn (map event_of c.args.events.now)) c.in-NoRun.is c.requires.verdict)

pub no_run_text-requires : goal.no_run_text-requires
no_run_text-requires c =
    let within = index_within c.args.events.now c.in-NoRun.index c.in-NoRun.reason (subst (IsVerdictOn (map event_of c.args.events.now)) c.in-NoRun.is c.requires.verdict) in
    omega (arith, within, c.requires.few)

pub returns-in-Run : goal.returns-in-Run
returns-in-Run c =
    IfOk-weaker c.run_text.result _ _
    (λ text told. run_answer c.args.events.now c.in-Run.performed (string_bytes text) (subst (IsVerdictOn (map event_of c.args.events.now)) c.in-Run.is c.requires.verdict) told)
    c.run_text.ensures

pub returns-in-NoRun : goal.returns-in-NoRun
returns-in-NoRun c =
    IfOk-weaker c.no_run_text.result _ _
    (λ text told. no_run_answer c.args.events.now c.in-NoRun.index c.in-NoRun.reason (string_bytes text) (BeginsRead 0) (subst (IsVerdictOn (map event_of c.args.events.now)) c.in-NoRun.is c.requires.verdict) told)
    c.no_run_text.ensures
