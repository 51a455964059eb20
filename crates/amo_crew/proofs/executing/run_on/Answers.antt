-- `run_on`: the premises of its calls and its promises, by the lemmas of Starts and Backs.
use Rattle.std.proofs.Common.{List, refl, sym, subst}
use Rattle.amo_params.specs.declared.givens.Givens.{Givens}
use Rattle.amo_crew.specs.Unsettling.{IsUnsettled}
use Rattle.amo_crew.specs.Hired.{AreHired, IsCalledOff}
use Rattle.amo_crew.proofs.Starts.{hired_none, settled_outcome, if_ok, if_err, concluded}
use Rattle.amo_crew.proofs.Backs.{off_refused}
use Rattle.amo_crew.proofs.executing.run_on.Goals as goal

pub hire_all-requires : goal.hire_all-requires
hire_all-requires g c = let is = c.requires in record { hired = hired_none _ _ _ _ c.args.book c.args.kit is.tied.0 is.tied.2 refl is.stand is.home is.kit is.none }

pub run_crew-requires-clause-hired : goal.run_crew-requires-clause-hired
run_crew-requires-clause-hired g c κs within = (
  c.args.plan.now.budgets,
  subst (λ (x : Givens). AreHired c.args.floor.table_id x c.hire_all.new.book.view.payloads c.args.plan.now.budgets c.hire_all.new.book c.hire_all.new.kit) (sym c.requires.tied.1) c.hire_all.ensures.hired,
)

pub call_off-requires-clause-hired : goal.call_off-requires-clause-hired
call_off-requires-clause-hired g c = (
  c.args.plan.now.budgets,
  subst (λ (x : Givens). AreHired c.args.floor.table_id x c.hire_all.new.book.view.payloads c.args.plan.now.budgets c.hire_all.new.book c.hire_all.new.kit) (sym c.requires.tied.1) c.hire_all.ensures.hired,
)

pub returns-in-Ok-clause-done : goal.returns-in-Ok-clause-done
returns-in-Ok-clause-done g c = let related = g.W.Work.related c.args.work.now in
    let hired = subst (λ (x : Givens). AreHired c.args.floor.table_id x c.hire_all.new.book.view.payloads c.args.plan.now.budgets c.hire_all.new.book c.hire_all.new.kit) (sym c.requires.tied.1) c.hire_all.ensures.hired in
    let rest = subst (λ (x : Givens). IsUnsettled related x c.args.book.view.payloads c.args.plan.now.budgets c.run_crew.result) c.requires.tied.1
    (subst (λ (x : List g.row.P.Denot). IsUnsettled related c.args.floor.givens x c.args.plan.now.budgets c.run_crew.result) c.hire_all.ensures.payloads (c.run_crew.ensures.unsettled c.args.plan.now.budgets hired)) in
    if_ok c.conclude.result _ _ (λ o h. (settled_outcome related c.args.plan.now.givens c.args.book.view.payloads c.args.plan.now.budgets c.run_crew.result o rest h.0, h.1)) c.conclude.ensures.done

pub returns-in-Ok-clause-refused : goal.returns-in-Ok-clause-refused
returns-in-Ok-clause-refused g c = let related = g.W.Work.related c.args.work.now in
    let hired = subst (λ (x : Givens). AreHired c.args.floor.table_id x c.hire_all.new.book.view.payloads c.args.plan.now.budgets c.hire_all.new.book c.hire_all.new.kit) (sym c.requires.tied.1) c.hire_all.ensures.hired in
    let rest = subst (λ (x : Givens). IsUnsettled related x c.args.book.view.payloads c.args.plan.now.budgets c.run_crew.result) c.requires.tied.1
    (subst (λ (x : List g.row.P.Denot). IsUnsettled related c.args.floor.givens x c.args.plan.now.budgets c.run_crew.result) c.hire_all.ensures.payloads (c.run_crew.ensures.unsettled c.args.plan.now.budgets hired)) in
    if_err c.conclude.result _ _ (λ f h. concluded related c.args.plan.now.givens c.args.book.view.payloads c.args.plan.now.budgets c.run_crew.result f rest h) c.conclude.ensures.refused

pub returns-in-Err-clause-refused : goal.returns-in-Err-clause-refused
returns-in-Err-clause-refused g c = off_refused (g.W.Work.related c.args.work.now) c.args.plan.now.givens c.args.book.view.payloads c.args.plan.now.budgets c.call_off.result
    (subst (λ (x : Givens). IsCalledOff x c.args.book.view.payloads c.call_off.result) c.requires.tied.1
    (subst (λ (x : List g.row.P.Denot). IsCalledOff c.args.floor.givens x c.call_off.result) c.hire_all.ensures.payloads c.call_off.ensures))
