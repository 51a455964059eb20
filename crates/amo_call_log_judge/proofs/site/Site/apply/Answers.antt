-- `Site::apply`: its promises, directly from definitions and clauses.
use Rattle.std.proofs.Common.{OnOk, sym, subst}
use Rattle.amo_call_log_judge.specs.Events.{event_of}
use Rattle.amo_call_log_judge.specs.Seen.{Follows}
use Rattle.amo_call_log_judge.specs.declared.event.Event.{Event as EventRead}
use Rattle.amo_call_log_judge.proofs.site.Site.apply.Goals as goal

pub returns-in-Dies : goal.returns-in-Dies
returns-in-Dies c = subst (λ (e : EventRead). Follows c.args.self.now (event_of e) c.die.new.self) (sym c.in-Dies.is) c.die.ensures

pub returns-in-Looks : goal.returns-in-Looks
returns-in-Looks c = subst (λ (e : EventRead). OnOk c.look.result (Follows c.args.self.now (event_of e) c.look.new.self)) (sym c.in-Looks.is) c.look.ensures

pub returns-in-Opens : goal.returns-in-Opens
returns-in-Opens c = subst (λ (e : EventRead). Follows c.args.self.now (event_of e) c.open.new.self) (sym c.in-Opens.is) c.open.ensures
