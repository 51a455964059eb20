-- `take_part`: its promises, by the lemmas of Ends.
use Rattle.std.proofs.Common.{◌≡◌, ℕ, List, Vec, Global, sym, subst, ◌∙◌}
use Rattle.amo_driver.specs.Stage.{Stage}
use Rattle.amo_driver.specs.Stops.{EndsAt}
use Rattle.amo_run_log.specs.declared.read_logs.ReadLogs.{ReadLogs}
use Rattle.amo_worker_life.specs.Reading.{logs_of}
use Rattle.amo_worker_life.specs.Where.{me_of, IsOver}
use Rattle.amo_worker_life.proofs.Ends.{ends_fine, ends_over}
use Rattle.amo_worker_life.proofs.part.take_part.Goals as goal

pub returns-in-Ok-pay-clause-ends : goal.returns-in-Ok-pay-clause-ends
returns-in-Ok-pay-clause-ends g c =
    let mid = c.work.new.outside in
    let new = c.pay.new.self in
    let after = g.H.Host.stands new.worker.host in
    let How = λ (st : Stage). EndsAt (λ s. s ≡ st) c.in-Ok.end in
    subst (λ (n : ℕ). IsOver after (me_of n new.worker.jobs) new.lines.items (logs_of new.logs) How) (sym c.pay.ensures.number)
    (subst (λ (js : List (List ℕ)). IsOver after (me_of mid.worker.number js) new.lines.items (logs_of new.logs) How) (sym c.pay.ensures.jobs)
    (subst (λ (ls : Vec ℕ Global). IsOver after (me_of mid.worker.number mid.worker.jobs) ls.items (logs_of new.logs) How) (sym c.pay.ensures.lines)
    (subst (λ (l : ReadLogs). IsOver after (me_of mid.worker.number mid.worker.jobs) mid.lines.items (logs_of l) How) (sym c.pay.ensures.logs)
    (ends_over (g.H.Host.stands mid.worker.host) after (me_of mid.worker.number mid.worker.jobs) mid.lines.items (logs_of mid.logs) c.in-Ok-pay.ensures.paid mid.worker.health mid.worker.halt c.in-Ok.end c.in-Ok.ensures.ends))))

pub returns-in-Ok-pay-clause-fine : goal.returns-in-Ok-pay-clause-fine
returns-in-Ok-pay-clause-fine g c =
    let mid = c.work.new.outside in
    c.in-Ok-pay.ensures.health ∙ ends_fine (g.H.Host.stands mid.worker.host) (me_of mid.worker.number mid.worker.jobs) mid.lines.items (logs_of mid.logs) mid.worker.health mid.worker.halt c.in-Ok.end c.in-Ok.ensures.ends
