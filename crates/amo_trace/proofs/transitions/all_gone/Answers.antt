-- `all_gone`: its promises, by the lemmas of Gone.
use Rattle.std.proofs.Common.{◌<◌, sym, subst, ◌∙◌}
use Rattle.amo_params.specs.declared.givens.Givens.{Givens}
use Rattle.amo_trace.proofs.Gone.{one_is_here}
use Rattle.amo_trace.proofs.transitions.all_gone.Goals as goal

pub returns-then-not-is_gone : goal.returns-then-not-is_gone
returns-then-not-is_gone c =
    let few = subst (λ (g : Givens). c.loop-before.before < g.workers) c.givens-before-end.ensures c.loop-before-test.true in
    sym (one_is_here c.args.world.now.world c.args.world.now.givens.workers c.loop-before.before few (sym c.is_gone.ensures ∙ c.if-not-is_gone.true))
