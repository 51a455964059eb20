-- `World::leave`: the premises of its calls, what its type keeps and its promises, by the lemmas of
-- Turning.
use Rattle.std.proofs.Common.{◌≡◌, true, false, sym, subst, ap, ◌∙◌, arith, set, ◌-◌, List}
use Rattle.std.specs.Vec.{vec_capacity}
use Rattle.amo_params.specs.Givens.{IsWorker}
use Rattle.amo_kk.specs.Record.{can_leave}
use Rattle.amo_kk.specs.World.{process, world_after_leave}
use Rattle.amo_kk.specs.declared.event.Event.{Event}
use Rattle.amo_world.specs.Views.{WorldView}
use Rattle.amo_world.specs.Processes.{world_of_processes, IsKept}
use Rattle.amo_world.proofs.Turning.{worker_here, still_here, may_leave, leave_is, leave_room, leave_kept}
use Rattle.amo_world.proofs.world.World.leave.Goals as goal

pub leave-requires : goal.leave-requires
leave-requires c =
    let o : IsWorker c.self.inside.givens c.args.p = worker_here _ _ _ c.self.view_is c.requires in
    may_leave _ _ _ _ _ _ c.self.invariant o c.index_mut.result.now c.index_mut.ensures.value _ _ _ c.self.view_is c.local-2.ensures c.can_leave.ensures c.if-can_leave.true

pub add_event-requires : goal.add_event-requires
add_event-requires c =
    let o : IsWorker c.self.inside.givens c.args.p = worker_here _ _ _ c.self.view_is c.requires in
    let here : (process (world_of_processes c.self.inside.processes.items c.self.inside.history.items) c.args.p).gone ≡ false = still_here _ _ _ _ c.self.view_is c.is_gone.ensures c.if-is_gone.false in
    let may : can_leave c.index_mut.result.now.local.state.phase ≡ true = may_leave _ _ _ _ _ _ c.self.invariant o c.index_mut.result.now c.index_mut.ensures.value _ _ _ c.self.view_is c.local-2.ensures c.can_leave.ensures c.if-can_leave.true in
    let room = leave_room _ _ _ _ _ _ c.self.invariant o c.index_mut.result.now c.index_mut.ensures.value here c.leave.new.self may c.leave.ensures.process in
    omega arith

pub invariant_of-self : goal.invariant_of-self
invariant_of-self c =
    let o : IsWorker c.self.inside.givens c.args.p = worker_here _ _ _ c.self.view_is c.requires in
    let here : (process (world_of_processes c.self.inside.processes.items c.self.inside.history.items) c.args.p).gone ≡ false = still_here _ _ _ _ c.self.view_is c.is_gone.ensures c.if-is_gone.false in
    let may : can_leave c.index_mut.result.now.local.state.phase ≡ true = may_leave _ _ _ _ _ _ c.self.invariant o c.index_mut.result.now c.index_mut.ensures.value _ _ _ c.self.view_is c.local-2.ensures c.can_leave.ensures c.if-can_leave.true in
    subst (λ (l : List Event). IsKept c.self.inside.givens (set c.self.inside.processes.items (c.args.p - 1) c.leave.new.self) l (vec_capacity c.self.inside.processes) (vec_capacity c.add_event.new.history)) (sym c.add_event.ensures.items)
    (leave_kept _ _ _ _ _ _ c.self.invariant o c.index_mut.result.now c.index_mut.ensures.value here c.leave.new.self may c.leave.ensures.process (vec_capacity c.add_event.new.history) c.leave.ensures.same c.add_event.ensures.room)

pub returns-then-can_leave-clause-world : goal.returns-then-can_leave-clause-world
returns-then-can_leave-clause-world c =
    let o : IsWorker c.self.inside.givens c.args.p = worker_here _ _ _ c.self.view_is c.requires in
    let here : (process (world_of_processes c.self.inside.processes.items c.self.inside.history.items) c.args.p).gone ≡ false = still_here _ _ _ _ c.self.view_is c.is_gone.ensures c.if-is_gone.false in
    let may : can_leave c.index_mut.result.now.local.state.phase ≡ true = may_leave _ _ _ _ _ _ c.self.invariant o c.index_mut.result.now c.index_mut.ensures.value _ _ _ c.self.view_is c.local-2.ensures c.can_leave.ensures c.if-can_leave.true in
    (λ i. record { givens = c.self.inside.givens; world = world_of_processes (set c.self.inside.processes.items (c.args.p - 1) c.leave.new.self) (c.add_event.ensures.items i) })
    ∙ ap {B = WorldView} (λ w. record { givens = c.self.inside.givens; world = w }) (leave_is _ _ _ _ _ _ c.self.invariant o c.index_mut.result.now c.index_mut.ensures.value here c.leave.new.self may c.leave.ensures.process)
    ∙ ap {B = WorldView} (λ (v : WorldView). record { givens = v.givens; world = world_after_leave v.world c.args.p }) c.self.view_is
