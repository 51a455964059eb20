-- `turn`: its promises, by the lemmas of Stops.
use Rattle.std.proofs.Common.{◌≡◌, ℕ, List, sym, ◌∙◌, subst}
use Rattle.amo_words.specs.Faces.{Seated, machine}
use Rattle.amo_claims.specs.States.{Holds}
use Rattle.amo_claims.specs.Calls.{FilesOn, worker_in}
use Rattle.amo_mailbox.specs.declared.output.Output.{Output}
use Rattle.amo_example_payments.specs.Stopping.{HasPaid}
use Rattle.amo_example_payments.proofs.Stops.{does, over_has_ended, filed_ends}
use Rattle.amo_example_payments.proofs.stopping.turn.Goals as goal

pub returns-in-Got-clause-paid : goal.returns-in-Got-clause-paid
returns-in-Got-clause-paid g c b at =
    let on = c.in-Got.ensures.plainly in
    let did = c.perform.ensures in
    let held = c.in-Got.held in
    let job : held.job ≡ c.job-job.result = sym c.job-job.ensures.job in
    let x : Output g.row.W-Out.Denot = record { worker = c.args.number; job = c.job-job.result; out = c.file-after.result.1 } in
    let filed : FilesOn held.worker c.job-job.result c.file-after.result.0 = subst (λ (w : Seated g.row.P.Denot). FilesOn w c.job-job.result c.file-after.result.0) did.same.0
    (subst (λ (j : ℕ). FilesOn c.perform.result.worker j c.file-after.result.0) (did.same.1 ∙ job) c.file-after.ensures.plainly) in
    let paid = does (g.W.Work.related c.args.work.now) b c.args.ready held.worker c.file-after.result.0 c.args.outputs.now.items x held.payload at on.0 on.1 filed
    (subst (λ (j : ℕ). Holds held.worker j held.payload) job did.holds) c.requires.number
    (subst (λ (j : ℕ). g.W.Work.related c.args.work.now (machine held.worker).number j held.payload c.file-after.result.1) job (subst (g.W.Work.related c.args.work.now (machine held.worker).number held.job held.payload) (sym c.file-after.ensures.out) did.related)) in
    subst (λ (xs : List (Output g.row.W-Out.Denot)). HasPaid (g.W.Work.related c.args.work.now) b (worker_in c.file-after.result.0) xs) (sym c.push_reserved.ensures.items) paid

pub returns-in-Over-clause-ended : goal.returns-in-Over-clause-ended
returns-in-Over-clause-ended g c = over_has_ended c.in-Over.gone c.in-Over.ensures.plainly.2

pub returns-in-Got-clause-ended : goal.returns-in-Got-clause-ended
returns-in-Got-clause-ended g c = filed_ends _ _ _ c.file-after.ensures.plainly
