-- `run_member`: what its loop keeps and its promises, by the lemmas of Runs.
use Rattle.std.proofs.Common.{◌≡◌, ℕ, sym, ◌∙◌, ap, subst, arith}
use Rattle.amo_kk.specs.Record.{wants_nothing}
use Rattle.amo_words.specs.Faces.{Seated, machine}
use Rattle.amo_claims.specs.declared.states.After.TheVariants.{More, Over}
use Rattle.amo_claims.specs.States.{Holds}
use Rattle.amo_claims.specs.Calls.{FilesOn, worker_in}
use Rattle.amo_crew.specs.declared.outcome.End.TheVariants.{Ended}
use Rattle.amo_crew.proofs.Runs.{over_from, begins, moves, does, ended, holding}
use Rattle.amo_crew.proofs.run.running.run_member.Goals as goal

pub returns-in-Over : goal.returns-in-Over
returns-in-Over g c = let is = c.requires.member in let first = worker_in c.args.member.after in
    let at = over_from (wants_nothing (machine first).state.phase) first c.in-Over.gone (sym c.in-Over.is ∙ is.begun) in
    ended _ _ _ _ _ _ _ first c.args.member.outlet c.ended.result (begins _ _ _ _ _ _ _ c.args.member is) (c.ended.ensures.same.0 ∙ at.1) c.ended.ensures.same.1
    (c.ended.ensures.end.0 ∙ ap (λ (w : Seated g.row.P.Denot). Ended (machine w).state.steps) at.1) c.ended.ensures.end.1 (sym is.fresh.over ∙ at.0) is.fresh.empty

pub returns-in-Over-go : goal.returns-in-Over-go
returns-in-Over-go g c = let h = c.loop-ready.invariant in let on = c.in-Over-go.ensures.plainly in let done = c.ended-in-Over-go.ensures in let test = c.loop-ready-test.true in let steps = c.steps.ensures.steps in
    ended _ _ _ _ _ _ _ c.in-Over-go.gone c.loop-ready.outlet c.ended-in-Over-go.result (moves _ _ _ _ _ _ _ c.loop-ready.ready c.in-Over-go.gone c.loop-ready.outlet h on.0 on.1 (omega arith)) done.same.0 done.same.1 done.end.0 done.end.1 on.2.0 on.2.1

pub returns-then-steps-budget : goal.returns-then-steps-budget
returns-then-steps-budget g c = let h = c.loop-ready.invariant in let on = c.in-Got.ensures.plainly in let done = c.holding.ensures in let test = c.loop-ready-test.true in let steps = c.steps.ensures.steps in
    let used = c.if-steps-budget.true in let more = c.steps-in-Got.ensures.steps in
    holding _ _ _ _ _ _ _ c.in-Got.held.worker c.loop-ready.outlet c.holding.result (moves _ _ _ _ _ _ _ c.loop-ready.ready c.in-Got.held.worker c.loop-ready.outlet h on.0 on.1 (omega arith)) done.same.0 done.same.1 done.end.0 (omega arith) c.in-Got.held.job c.in-Got.held.payload done.end.1 done.holds

pub loop-ready-preserved : goal.loop-ready-preserved
loop-ready-preserved g c = let h = c.loop-ready.invariant in let on = c.in-Got.ensures.plainly in let test = c.loop-ready-test.true in let steps = c.steps.ensures.steps in
    let left = c.if-steps-budget.false in let more = c.steps-in-Got.ensures.steps in let did = c.perform.ensures in let held = c.in-Got.held in
    let job : held.job ≡ c.job-job.result = sym c.job-job.ensures.job in
    let filed : FilesOn c.perform.result.worker c.perform.result.job (More c.in-More-after.next) = subst (FilesOn c.perform.result.worker c.perform.result.job) c.in-More-after.is c.file-after.ensures.plainly in
    let now : FilesOn held.worker c.job-job.result (More c.in-More-after.next) = subst (λ (w : Seated g.row.P.Denot). FilesOn w c.job-job.result (More c.in-More-after.next)) did.same.0
    (subst (λ (j : ℕ). FilesOn c.perform.result.worker j (More c.in-More-after.next)) (did.same.1 ∙ job) filed) in
    does _ _ _ _ _ _ _ c.loop-ready.ready held.worker c.in-More-after.next c.loop-ready.outlet c.put.new.self _ held.payload h on.0 on.1 (omega arith) (omega arith)
    (subst (λ (j : ℕ). Holds held.worker j held.payload) job did.holds) (c.worker-number.ensures.worker ∙ c.requires.member.worker)
    (subst (λ (j : ℕ). g.W.Work.related c.args.work.now (machine held.worker).number j held.payload c.file-after.result.1) job (subst (g.W.Work.related c.args.work.now (machine held.worker).number held.job held.payload) (sym c.file-after.ensures.out) did.related))
    now.0 now.1 c.put.ensures.belong c.put.ensures.same c.put.ensures.given

pub returns-in-Over-after : goal.returns-in-Over-after
returns-in-Over-after g c = let h = c.loop-ready.invariant in let on = c.in-Got.ensures.plainly in let test = c.loop-ready-test.true in let steps = c.steps.ensures.steps in
    let left = c.if-steps-budget.false in let more = c.steps-in-Got.ensures.steps in let did = c.perform.ensures in let held = c.in-Got.held in
    let job : held.job ≡ c.job-job.result = sym c.job-job.ensures.job in
    let filed : FilesOn c.perform.result.worker c.perform.result.job (Over c.in-Over-after.gone) = subst (FilesOn c.perform.result.worker c.perform.result.job) c.in-Over-after.is c.file-after.ensures.plainly in
    let now : FilesOn held.worker c.job-job.result (Over c.in-Over-after.gone) = subst (λ (w : Seated g.row.P.Denot). FilesOn w c.job-job.result (Over c.in-Over-after.gone)) did.same.0
    (subst (λ (j : ℕ). FilesOn c.perform.result.worker j (Over c.in-Over-after.gone)) (did.same.1 ∙ job) filed) in
    let done = c.ended-in-Over-after.ensures in
    ended _ _ _ _ _ _ _ c.in-Over-after.gone c.put.new.self c.ended-in-Over-after.result
    (does _ _ _ _ _ _ _ c.loop-ready.ready held.worker c.in-Over-after.gone c.loop-ready.outlet c.put.new.self _ held.payload h on.0 on.1 (omega arith) (omega arith)
    (subst (λ (j : ℕ). Holds held.worker j held.payload) job did.holds) (c.worker-number.ensures.worker ∙ c.requires.member.worker)
    (subst (λ (j : ℕ). g.W.Work.related c.args.work.now (machine held.worker).number j held.payload c.file-after.result.1) job (subst (g.W.Work.related c.args.work.now (machine held.worker).number held.job held.payload) (sym c.file-after.ensures.out) did.related))
    now.0 now.1 c.put.ensures.belong c.put.ensures.same c.put.ensures.given)
    done.same.0 done.same.1 done.end.0 done.end.1 now.2.0 now.2.1
