-- `lone_run`: no overflow, the premises of its calls and its promises, by the lemmas of
-- ReachedWorlds and Stopped.
use Rattle.std.proofs.Common.{◌≡◌, ◌-◌, ap, sym, subst, ◌∙◌, arith}
use Rattle.amo_params.specs.Givens.{IsWorker, lone_bound}
use Rattle.amo_kk.specs.Alone.{world_after_turns}
use Rattle.amo_params.specs.declared.givens.Givens.{Givens}
use Rattle.amo_report.specs.Stops.{lone_turns}
use Rattle.amo_report.proofs.ReachedWorlds.{reached_worker}
use Rattle.amo_report.proofs.Stopped.{runs_lone, RunsLone}
use Rattle.amo_report.proofs.stops.lone_run.Goals as goal
use Rattle.amo_report.proofs.stops.lone_run.Goals.{After-run_alone-alone}

pub turns_of-before-requires : goal.turns_of-before-requires
turns_of-before-requires c = let v = c.args.world.now in reached_worker v.givens _ v.world c.args.p c.requires.reached c.requires.here

pub turns_of-requires : goal.turns_of-requires
turns_of-requires c =
    let v = c.args.world.now in
    subst (λ (g : Givens). IsWorker g c.args.p) (sym c.run_alone-alone.ensures.givens) (reached_worker v.givens _ v.world c.args.p c.requires.reached c.requires.here)

-- if the worker has come to rest
rests : (c : After-run_alone-alone) → RunsLone c.args.world.now.givens c.args.world.now.world c.args.p c.run_alone-alone.new.self.world
rests c =
    let v = c.args.world.now in
    runs_lone v.givens v.world c.run_alone-alone.new.self.world c.args.p _ c.requires.reached c.requires.here c.run_alone-alone.ensures.alone

pub overflow_sub-result : goal.overflow_sub-result
overflow_sub-result c = let steps = (rests (goal.at.overflow_sub-result c).After-run_alone-alone).steps in omega arith

pub returns-clause-turns : goal.returns-clause-turns
returns-clause-turns c = let steps = (rests (goal.at.returns-clause-turns c).After-run_alone-alone).steps in omega arith

pub returns-clause-world : goal.returns-clause-world
returns-clause-world c =
    let v = c.args.world.now in
    let rest = rests (goal.at.returns-clause-world c).After-run_alone-alone in
    let steps = rest.steps in
    let turns : lone_turns v.givens c.args.p (lone_bound v.givens) v.world ≡ c.turns_of.result - c.turns_of-before.result = omega arith in
    λ i. record { givens = c.run_alone-alone.ensures.givens i; world = (rest.leads ∙ ap (λ n. world_after_turns v.givens v.world c.args.p n) turns) i }
