-- `World::act`: the premises of its calls, what its type keeps and its promises, by the lemmas of
-- Turning.
use Rattle.std.proofs.Common.{sym, subst, ap, ◌∙◌, set, ◌-◌, List}
use Rattle.std.specs.Prelude.{if◌then◌else◌}
use Rattle.std.specs.Vec.{vec_capacity}
use Rattle.amo_kk.specs.Answer.{turn_shown}
use Rattle.amo_kk.specs.World.{world_after_turn}
use Rattle.amo_kk.specs.declared.event.Event.{Event}
use Rattle.amo_world.specs.declared.answer.Turned.TheVariants.{Idle}
use Rattle.amo_world.specs.Answer.{turned}
use Rattle.amo_world.specs.Views.{WorldView}
use Rattle.amo_world.specs.Processes.{world_of_processes, IsKept}
use Rattle.amo_world.proofs.Turning.{takes_turn, going, hears, stores_zero, row_free, shown_is, turn_is, turn_room, turn_kept}
use Rattle.amo_world.proofs.world.World.act.Goals as goal

pub act-shown-requires-clause-going : goal.act-shown-requires-clause-going
act-shown-requires-clause-going c =
    let turn = takes_turn _ _ _ _ _ c.self.view_is c.requires.worker c.requires.here c.heard-value.ensures in
    going _ _ _ _ _ _ c.self.invariant turn.worker c.index_mut.result.now c.index_mut.ensures.value turn.here

pub act-shown-requires-clause-hears : goal.act-shown-requires-clause-hears
act-shown-requires-clause-hears c =
    let turn = takes_turn _ _ _ _ _ c.self.view_is c.requires.worker c.requires.here c.heard-value.ensures in
    hears _ _ _ _ _ _ c.self.invariant turn.worker c.index_mut.result.now c.index_mut.ensures.value turn.here c.heard-value.result turn.loads

pub act-shown-requires-clause-stores : goal.act-shown-requires-clause-stores
act-shown-requires-clause-stores c =
    let turn = takes_turn _ _ _ _ _ c.self.view_is c.requires.worker c.requires.here c.heard-value.ensures in
    stores_zero _ _ _ _ _ _ c.self.invariant turn.worker c.index_mut.result.now c.index_mut.ensures.value turn.here c.heard-value.result turn.loads

pub act-shown-requires-clause-row : goal.act-shown-requires-clause-row
act-shown-requires-clause-row c =
    let turn = takes_turn _ _ _ _ _ c.self.view_is c.requires.worker c.requires.here c.heard-value.ensures in
    row_free _ _ _ _ _ _ c.self.invariant turn.worker c.index_mut.result.now c.index_mut.ensures.value

pub add_shown-requires : goal.add_shown-requires
add_shown-requires c =
    let turn = takes_turn _ _ _ _ _ c.self.view_is c.requires.worker c.requires.here c.heard-value.ensures in
    turn_room _ _ _ _ _ _ c.self.invariant turn.worker c.index_mut.result.now c.index_mut.ensures.value turn.here c.heard-value.result turn.loads c.act-shown.new.self c.act-shown.result c.act-shown.ensures.process c.act-shown.ensures.shown

pub invariant_of-self : goal.invariant_of-self
invariant_of-self c =
    let turn = takes_turn _ _ _ _ _ c.self.view_is c.requires.worker c.requires.here c.heard-value.ensures in
    subst (λ (l : List Event). IsKept c.self.inside.givens (set c.self.inside.processes.items (c.args.p - 1) c.act-shown.new.self) l (vec_capacity c.self.inside.processes) (vec_capacity c.add_shown.new.history)) (sym c.add_shown.ensures.items)
    (turn_kept _ _ _ _ _ _ c.self.invariant turn.worker c.index_mut.result.now c.index_mut.ensures.value turn.here c.heard-value.result turn.loads c.act-shown.new.self c.act-shown.result c.act-shown.ensures.process c.act-shown.ensures.shown (vec_capacity c.add_shown.new.history) c.act-shown.ensures.same c.add_shown.ensures.room)

pub returns-clause-answer : goal.returns-clause-answer
returns-clause-answer c =
    let turn = takes_turn _ _ _ _ _ c.self.view_is c.requires.worker c.requires.here c.heard-value.ensures in
    c.turned.ensures ∙ ap turned (shown_is _ _ _ _ _ _ c.self.invariant turn.worker c.index_mut.result.now c.index_mut.ensures.value turn.here c.heard-value.result turn.loads c.act-shown.new.self c.act-shown.result c.act-shown.ensures.process c.act-shown.ensures.shown)
    ∙ ap (λ (v : WorldView). turned (turn_shown v.givens v.world c.args.p)) c.self.view_is
    ∙ sym (ap (λ b. if b then Idle else turned (turn_shown c.args.self.now.givens c.args.self.now.world c.args.p)) c.requires.here)

pub returns-clause-world : goal.returns-clause-world
returns-clause-world c =
    let turn = takes_turn _ _ _ _ _ c.self.view_is c.requires.worker c.requires.here c.heard-value.ensures in
    (λ i. record { givens = c.self.inside.givens; world = world_of_processes (set c.self.inside.processes.items (c.args.p - 1) c.act-shown.new.self) (c.add_shown.ensures.items i) })
    ∙ ap {B = WorldView} (λ w. record { givens = c.self.inside.givens; world = w }) (turn_is _ _ _ _ _ _ c.self.invariant turn.worker c.index_mut.result.now c.index_mut.ensures.value turn.here c.heard-value.result turn.loads c.act-shown.new.self c.act-shown.result c.act-shown.ensures.process c.act-shown.ensures.shown)
    ∙ ap {B = WorldView} (λ (v : WorldView). record { givens = v.givens; world = world_after_turn v.givens v.world c.args.p }) c.self.view_is
