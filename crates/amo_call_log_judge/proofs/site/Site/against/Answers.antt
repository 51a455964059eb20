-- `Site::against`: its promises, by the lemmas of Reasons and Steps.
use Rattle.std.proofs.Common.{sym, subst}
use Rattle.amo_safety_by_journals.specs.Model.{Begins, Looks, Opens, Performs}
use Rattle.amo_call_log_judge.specs.Events.{attempt_of, event_of, handing_of}
use Rattle.amo_call_log_judge.specs.Grammar.{MayStand}
use Rattle.amo_call_log_judge.specs.Seen.{IsReason}
use Rattle.amo_call_log_judge.specs.declared.event.Event.{Event as EventRead}
use Rattle.amo_call_log_judge.proofs.Reasons.{begins_is, hands_over_is, intends_read, kept_there, lands_read, looks_is, opens_is, performs_is, stage_there}
use Rattle.amo_call_log_judge.proofs.Steps.{opened_at, opened_only_at}
use Rattle.amo_call_log_judge.proofs.site.Site.against.Goals as goal

pub returns-in-Begins : goal.returns-in-Begins
returns-in-Begins c w shows =
    subst (λ (e : EventRead). IsReason w (event_of e) c.against_a_process.result) (sym c.in-Begins.is)
    (subst (IsReason w (Begins c.in-Begins.worker)) (sym c.against_a_process.ensures)
    (begins_is w c.in-Begins.worker c.journal-begun.result.now.stage c.journal-begun.result.now.seen.items (stage_there c.args.self.now w c.in-Begins.worker c.journal-begun.result.now shows c.journal-begun.ensures) (subst (λ (e : EventRead). MayStand (event_of e)) c.in-Begins.is c.requires.stands)))

pub returns-in-Lands : goal.returns-in-Lands
returns-in-Lands c w shows =
    lands_read w c.journal-landed.result.now.stage c.journal-landed.result.now.seen.items c.against_a_process-in-Lands.result c.in-Lands.is
    (stage_there c.args.self.now w c.in-Lands.worker c.journal-landed.result.now shows c.journal-landed.ensures) c.against_a_process-in-Lands.ensures

pub returns-in-Intends : goal.returns-in-Intends
returns-in-Intends c w shows =
    intends_read w c.journal-intended.result.now.stage c.journal-intended.result.now.seen.items c.against_an_intent.result c.in-Intends.is
    (stage_there c.args.self.now w c.in-Intends.worker c.journal-intended.result.now shows c.journal-intended.ensures) c.against_an_intent.ensures

pub returns-in-Looks : goal.returns-in-Looks
returns-in-Looks c w shows =
    subst (λ (e : EventRead). IsReason w (event_of e) c.against_a_look.result) (sym c.in-Looks.is)
    (subst (IsReason w (Looks c.in-Looks.worker c.in-Looks.other)) (sym c.against_a_look.ensures)
    (looks_is w c.in-Looks.worker c.in-Looks.other c.journal-looking.result.now.stage c.journal-looking.result.now.seen.items c.journal-looked_at.result.now.kept.items (stage_there c.args.self.now w c.in-Looks.worker c.journal-looking.result.now shows c.journal-looking.ensures)
    (kept_there c.args.self.now w c.in-Looks.other c.journal-looked_at.result.now shows c.journal-looked_at.ensures) (opened_at c.args.self.now w c.in-Looks.other c.journal-looked_at.result.now shows c.journal-looked_at.ensures) (opened_only_at c.args.self.now w c.in-Looks.other c.journal-looked_at.result.now shows c.journal-looked_at.ensures)))

pub returns-in-HandsOver : goal.returns-in-HandsOver
returns-in-HandsOver c w shows =
    subst (λ (e : EventRead). IsReason w (event_of e) c.against_handing_over.result) (sym c.in-HandsOver.is)
    (hands_over_is w c.in-HandsOver.worker c.journal-handing.result.now.stage c.journal-handing.result.now.seen.items c.against_handing_over.result (stage_there c.args.self.now w c.in-HandsOver.worker c.journal-handing.result.now shows c.journal-handing.ensures) c.against_handing_over.ensures)

pub returns-in-Performs : goal.returns-in-Performs
returns-in-Performs c w shows =
    subst (λ (e : EventRead). IsReason w (event_of e) c.against_performing.result) (sym c.in-Performs.is)
    (subst (IsReason w (Performs (handing_of c.in-Performs.handing))) (sym c.against_performing.ensures)
    (performs_is w c.args.self.now.alive.items c.args.self.now.performed.items c.in-Performs.handing shows.alive shows.performed))

pub returns-in-Opens : goal.returns-in-Opens
returns-in-Opens c w shows =
    subst (λ (e : EventRead). IsReason w (event_of e) c.against_opening.result) (sym c.in-Opens.is)
    (subst (IsReason w (Opens (attempt_of c.in-Opens.attempt))) (sym c.against_opening.ensures)
    (opens_is w c.journal-opened.result.now.kept.items c.journal-opened.result.now.stage c.journal-opened.result.now.seen.items c.args.self.now.alive.items c.args.self.now.performed.items c.in-Opens.attempt
    (kept_there c.args.self.now w c.in-Opens.attempt.worker c.journal-opened.result.now shows c.journal-opened.ensures) (stage_there c.args.self.now w c.in-Opens.attempt.worker c.journal-opened.result.now shows c.journal-opened.ensures) shows.alive shows.performed))
