-- `World::process`: its promises, directly from definitions and clauses.
use Rattle.std.proofs.Common.{◌+◌, sym, ap, ◌∙◌, subst}
use Rattle.std.specs.Vec.{vec_capacity}
use Rattle.amo_params.specs.Givens.{IsWorker}
use Rattle.amo_kk.specs.World.{process}
use Rattle.amo_world.specs.Views.{WorldView}
use Rattle.amo_world.proofs.Turning as turning
use Rattle.amo_world.proofs.world.World.process.Goals as goal

worker : (c : goal.After-index) → IsWorker c.self.inside.givens c.args.p
worker c = subst (λ (v : WorldView). IsWorker v.givens c.args.p) (sym c.self.view_is) c.requires

pub returns-clause-process : goal.returns-clause-process
returns-clause-process c =
    sym (turning.process_is c.self.inside.givens c.self.inside.processes.items c.self.inside.history.items (vec_capacity c.self.inside.processes) (vec_capacity c.self.inside.history) c.args.p c.self.invariant (worker c) c.index.result.now c.index.ensures)
    ∙ ap (λ (v : WorldView). process v.world c.args.p) c.self.view_is

pub returns-clause-givens : goal.returns-clause-givens
returns-clause-givens c =
    turning.own_givens c.self.inside.givens c.self.inside.processes.items c.self.inside.history.items (vec_capacity c.self.inside.processes) (vec_capacity c.self.inside.history) c.args.p c.self.invariant (worker c) c.index.result.now c.index.ensures
    ∙ ap (λ (v : WorldView). v.givens) c.self.view_is

pub returns-clause-number : goal.returns-clause-number
returns-clause-number c =
    turning.own_number c.self.inside.givens c.self.inside.processes.items c.self.inside.history.items (vec_capacity c.self.inside.processes) (vec_capacity c.self.inside.history) c.args.p c.self.invariant (worker c) c.index.result.now c.index.ensures

pub returns-clause-row : goal.returns-clause-row
returns-clause-row c =
    turning.row_size c.self.inside.givens c.self.inside.processes.items c.self.inside.history.items (vec_capacity c.self.inside.processes) (vec_capacity c.self.inside.history) c.args.p c.self.invariant (worker c) c.index.result.now c.index.ensures
    ∙ ap (λ (v : WorldView). v.givens.jobs + 1) c.self.view_is
