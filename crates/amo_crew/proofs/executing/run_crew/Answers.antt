-- `run_crew`: the premises of its calls and its promises, by the lemmas of Crews, Outputs and
-- Starts.
use Rattle.std.proofs.Common.{List, ◌++◌, length, sym, ap, ◌∙◌, subst, arith}
use Rattle.amo_words.specs.declared.rule.Spot.{Spot}
use Rattle.amo_words.specs.Faces.{spots}
use Rattle.amo_crew.specs.Unsettling.{IsUnsettled}
use Rattle.amo_crew.specs.Collecting.{AreBack, TellsCrew, ends_in}
use Rattle.amo_crew.proofs.Crews.{all_may_run, all_ran_at, ended_crew}
use Rattle.amo_crew.proofs.Outputs.{gathered, few_given}
use Rattle.amo_crew.proofs.Starts.{unsettled}
use Rattle.amo_crew.proofs.executing.run_crew.Goals as goal

pub run_all-inlet-requires-clause-crew : goal.run_all-inlet-requires-clause-crew
run_all-inlet-requires-clause-crew g c κs within = let is = c.requires.hired.1 in
    record { each = all_may_run (g.W.Work.related c.args.work.now) c.args.kit.queue c.args.floor.table_id c.args.floor.givens c.args.book.view.payloads c.requires.hired.0 c.args.kit.crew.items is.members; takes = is.kit_is.takes; fits = let n = c.requires.all in let m = is.kit_is.finishes_room in omega arith }

pub collect_all-requires-clause-few : goal.collect_all-requires-clause-few
collect_all-requires-clause-few g c = let few = c.args.floor.givens.limits.few_workers in let len = c.run_all-inlet.result.1.ok.0 in
    let count = (ended_crew (g.W.Work.related c.args.work.now) _ _ _ _ c.args.book c.args.kit _ c.requires.hired.1 c.requires.all c.run_all-inlet.ensures.each).0 in omega arith

pub collect_all-requires-clause-workers : goal.collect_all-requires-clause-workers
collect_all-requires-clause-workers g c =
    let at = ended_crew (g.W.Work.related c.args.work.now) _ _ _ _ c.args.book c.args.kit _ c.requires.hired.1 c.requires.all c.run_all-inlet.ensures.each in
    all_ran_at (g.W.Work.related c.args.work.now) c.args.kit.queue c.args.floor.table_id c.args.floor.givens c.args.book.view.payloads c.requires.hired.0 c.run_all-inlet.result.1.items at.1

pub collect_all-requires-clause-room : goal.collect_all-requires-clause-room
collect_all-requires-clause-room g c = let is = c.requires.hired.1.kit_is in let len = c.run_all-inlet.result.1.ok.0 in
    let count = (ended_crew (g.W.Work.related c.args.work.now) _ _ _ _ c.args.book c.args.kit _ c.requires.hired.1 c.requires.all c.run_all-inlet.ensures.each).0 in
    let a = c.args.kit.outlets.ok.0 in let b = c.args.kit.ends.ok.0 in let d = c.args.kit.in_hand.ok.0 in let all = c.requires.all in let sum = is.count in
    let es = ap length is.no_ends in let hs = ap length is.no_hands in let ar = is.outlets_room in let br = is.ends_room in let dr = is.hands_room in
    record { outlets_room = omega arith; ends_room = omega arith; hand_room = omega arith }

pub gather-outputs-requires-clause-outlets : goal.gather-outputs-requires-clause-outlets
gather-outputs-requires-clause-outlets g c =
    let at = ended_crew (g.W.Work.related c.args.work.now) _ _ _ _ c.args.book c.args.kit _ c.requires.hired.1 c.requires.all c.run_all-inlet.ensures.each in
    (c.collect_all.ensures.collected _ _ _ _ at.1 (c.run_all-inlet.result.1.ok.0 ∙ at.0) at.2).0.belong

pub gather-outputs-requires-clause-room : goal.gather-outputs-requires-clause-room
gather-outputs-requires-clause-room g c =
    let at = ended_crew (g.W.Work.related c.args.work.now) _ _ _ _ c.args.book c.args.kit _ c.requires.hired.1 c.requires.all c.run_all-inlet.ensures.each in
    let all = (c.collect_all.ensures.collected _ _ _ _ at.1 (c.run_all-inlet.result.1.ok.0 ∙ at.0) at.2).0 in
    let given = few_given (g.W.Work.related c.args.work.now) _ _ _ _ _ _ _ all in let room = c.run_all-inlet.ensures.same_room in let n = c.requires.hired.1.kit_is.inlet_room in omega arith

pub returns-clause-unsettled : goal.returns-clause-unsettled
returns-clause-unsettled g c = λ budgets hired.
    let at = ended_crew (g.W.Work.related c.args.work.now) _ _ _ budgets c.args.book c.args.kit _ hired c.requires.all c.run_all-inlet.ensures.each in
    let all = (c.collect_all.ensures.collected _ _ _ _ at.1 (c.run_all-inlet.result.1.ok.0 ∙ at.0) at.2).0 in
    subst (IsUnsettled (g.W.Work.related c.args.work.now) c.args.floor.givens c.args.book.view.payloads budgets) (sym c.new.ensures)
    (unsettled _ _ _ _ c.collect_all.new.book c.close.result _ _ _ c.close.ensures.closed all.givens all.payloads_are (record {
      ends_are = all.ends_are;
      outputs_are = gathered (g.W.Work.related c.args.work.now) c.args.book.view.payloads (spots c.collect_all.new.book) c.collect_all.new.into.outlets.items c.gather-outputs.result.items all.fits c.gather-outputs.ensures.each c.gather-outputs.ensures.only;
      hands_are = all.hands_are;
    }))

pub returns-clause-crew : goal.returns-clause-crew
returns-clause-crew g c =
    let at = ended_crew (g.W.Work.related c.args.work.now) _ _ _ _ c.args.book c.args.kit _ c.requires.hired.1 c.requires.all c.run_all-inlet.ensures.each in
    let back = (c.collect_all.ensures.collected _ _ _ _ at.1 (c.run_all-inlet.result.1.ok.0 ∙ at.0) at.2).1 in
    subst (TellsCrew (g.W.Work.related c.args.work.now) c.args.kit.queue c.args.floor.table_id c.args.floor.givens c.args.kit.crew.items) (sym c.new.ensures) (
      c.run_all-inlet.result.1.items,
      c.run_all-inlet.ensures.each,
      c.collect_all.ensures.ends ∙ ap (λ l. l ++ ends_in c.run_all-inlet.result.1.items) c.requires.hired.1.kit_is.no_ends,
      subst (λ (x : List Spot). AreBack c.args.floor.givens x c.run_all-inlet.result.1.items) (sym c.close.ensures.closed.spots_are) back,
    )
