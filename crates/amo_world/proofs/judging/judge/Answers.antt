-- `judge`: no overflow, what its loop keeps and its promises, by the lemmas of Verdicts.
use Rattle.std.proofs.Common.{◌≡◌, ◌+◌, suc, true, get_or, drop, sym, ap, ◌∙◌, arith}
use Rattle.amo_kk.specs.Object.{first_object, is_step, object_after}
use Rattle.amo_kk.specs.Run.{first_bad}
use Rattle.amo_kk.specs.declared.event.Event.TheVariants.{Claimed}
use Rattle.amo_params.specs.declared.givens.Givens.{Givens}
use Rattle.amo_kk.specs.declared.model.Object.{Object}
use Rattle.amo_world.specs.Views.{StateView}
use Rattle.amo_world.proofs.Verdicts.{later, next_run, next_object, next_rest, bad_here, named_no_run, named_first, place_fits}
use Rattle.amo_world.proofs.judging.judge.Goals as goal

pub overflow_add-place : goal.overflow_add-place
overflow_add-place c =
    let place = c.loop-event.invariant.place in
    let fits = place_fits c.args.givens c.args.events.now c.loop-event.event-index c.loop-event.auto.event-index-end c.loop-event.invariant.run in
    omega arith

pub loop-event-preserved : goal.loop-event-preserved
loop-event-preserved c =
    let g = c.args.givens in
    let s = c.loop-event.state.object in
    let k = c.loop-event.event-index in
    let after : c.follow.new.self ≡ record { givens = c.loop-event.state.givens; object = object_after c.loop-event.state.object (get_or c.args.events.now c.loop-event.event-index (Claimed 0 0)) } = c.in_ok-follow.ensures in
    let step : is_step c.args.givens c.loop-event.state.object (get_or c.args.events.now c.loop-event.event-index (Claimed 0 0)) ≡ true
    = ap (λ (x : Givens). is_step x c.loop-event.state.object (get_or c.args.events.now c.loop-event.event-index (Claimed 0 0))) (sym c.loop-event.invariant.givens) ∙ sym c.allows.ensures ∙ c.if-not-allows.false in
    record {
      givens = ap (λ (v : StateView). v.givens) after ∙ c.loop-event.invariant.givens;
      place = ap (λ n. n + 1) c.loop-event.invariant.place;
      run = next_run g (first_object g) c.args.events.now k (Claimed 0 0) c.loop-event-test.true c.loop-event.invariant.run
          (ap (λ (x : Object). is_step c.args.givens x (get_or c.args.events.now c.loop-event.event-index (Claimed 0 0))) (sym c.loop-event.invariant.object) ∙ step);
      object = ap (λ (v : StateView). v.object) after ∙ ap (λ (x : Object). object_after x (get_or c.args.events.now c.loop-event.event-index (Claimed 0 0))) c.loop-event.invariant.object
          ∙ next_object (first_object g) c.args.events.now k (Claimed 0 0) c.loop-event-test.true;
      rest = c.loop-event.invariant.rest ∙ next_rest g s c.args.events.now k (Claimed 0 0) c.loop-event-test.true step
          ∙ ap (λ (v : StateView). later (c.loop-event.event-index + 1) (first_bad c.args.givens v.object (drop (c.loop-event.event-index + 1) c.args.events.now))) (sym after);
    }

-- the event that isn't allowed is the first bad one
bad_is : (c : goal.After-drop-state-inside-then-not-allows-3) → first_bad c.args.givens (first_object c.args.givens) c.args.events.now ≡ suc c.loop-event.event-index
bad_is c =
    c.loop-event.invariant.rest
    ∙ bad_here c.args.givens c.loop-event.state.object c.args.events.now c.loop-event.event-index (Claimed 0 0) c.loop-event-test.true
    (ap (λ (x : Givens). is_step x c.loop-event.state.object (get_or c.args.events.now c.loop-event.event-index (Claimed 0 0))) (sym c.loop-event.invariant.givens) ∙ sym c.allows.ensures ∙ c.if-not-allows.true)

pub returns-then-not-allows-clause-run : goal.returns-then-not-allows-clause-run
returns-then-not-allows-clause-run c = named_no_run c.args.givens c.args.events.now c.loop-event.event-index c.loop-event.place (bad_is c) c.loop-event.invariant.place

pub returns-then-not-allows-clause-bad : goal.returns-then-not-allows-clause-bad
returns-then-not-allows-clause-bad c = named_first c.args.givens c.args.events.now c.loop-event.event-index c.loop-event.place (bad_is c) c.loop-event.invariant.place
