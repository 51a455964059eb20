-- `World::halt`: the premises of its calls, what its type keeps and its promises, by the lemmas of
-- Turning.
use Rattle.std.proofs.Common.{◌≡◌, true, false, refl, sym, subst, ap, ◌∙◌, arith, set, ◌-◌, List}
use Rattle.std.specs.Vec.{vec_capacity}
use Rattle.amo_params.specs.Givens.{IsWorker}
use Rattle.amo_kk.specs.World.{process, world_after_halt}
use Rattle.amo_kk.specs.declared.event.Event.{Event}
use Rattle.amo_world.specs.Views.{WorldView}
use Rattle.amo_world.specs.Processes.{world_of_processes, IsKept}
use Rattle.amo_world.proofs.Turning.{worker_here, still_here, halt_is, halt_room, halt_kept}
use Rattle.amo_world.proofs.world.World.halt.Goals as goal

pub add_event-requires : goal.add_event-requires
add_event-requires c =
    let o : IsWorker c.self.inside.givens c.args.p = worker_here _ _ _ c.self.view_is c.requires in
    let here : (process (world_of_processes c.self.inside.processes.items c.self.inside.history.items) c.args.p).gone ≡ false = still_here _ _ _ _ c.self.view_is c.is_gone.ensures c.if-is_gone.false in
    let room = halt_room _ _ _ _ _ _ c.self.invariant o c.index_mut.result.now c.index_mut.ensures.value here (record c.index_mut.result.now { gone = true }) refl in
    omega arith

pub invariant_of-self : goal.invariant_of-self
invariant_of-self c =
    let o : IsWorker c.self.inside.givens c.args.p = worker_here _ _ _ c.self.view_is c.requires in
    let here : (process (world_of_processes c.self.inside.processes.items c.self.inside.history.items) c.args.p).gone ≡ false = still_here _ _ _ _ c.self.view_is c.is_gone.ensures c.if-is_gone.false in
    subst (λ (l : List Event). IsKept c.self.inside.givens (set c.self.inside.processes.items (c.args.p - 1) (record c.index_mut.result.now { gone = true })) l (vec_capacity c.self.inside.processes) (vec_capacity c.add_event.new.history)) (sym c.add_event.ensures.items)
    (halt_kept _ _ _ _ _ _ c.self.invariant o c.index_mut.result.now c.index_mut.ensures.value here (record c.index_mut.result.now { gone = true }) refl (vec_capacity c.add_event.new.history) (record { givens = refl; number = refl; room = refl }) c.add_event.ensures.room)

pub returns-clause-world : goal.returns-clause-world
returns-clause-world c =
    let o : IsWorker c.self.inside.givens c.args.p = worker_here _ _ _ c.self.view_is c.requires in
    let here : (process (world_of_processes c.self.inside.processes.items c.self.inside.history.items) c.args.p).gone ≡ false = still_here _ _ _ _ c.self.view_is c.is_gone.ensures c.if-is_gone.false in
    (λ i. record { givens = c.self.inside.givens; world = world_of_processes (set c.self.inside.processes.items (c.args.p - 1) (record c.index_mut.result.now { gone = true })) (c.add_event.ensures.items i) })
    ∙ ap {B = WorldView} (λ w. record { givens = c.self.inside.givens; world = w }) (halt_is _ _ _ _ _ _ c.self.invariant o c.index_mut.result.now c.index_mut.ensures.value here (record c.index_mut.result.now { gone = true }) refl)
    ∙ ap {B = WorldView} (λ (v : WorldView). record { givens = v.givens; world = world_after_halt v.world c.args.p }) c.self.view_is
