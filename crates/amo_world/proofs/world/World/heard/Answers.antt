-- `World::heard`: the premises of its calls and its promises, directly from definitions and
-- clauses.
use Rattle.std.proofs.Common.{ap, subst, ◌∙◌}
use Rattle.amo_kk.specs.Fits.{WantFits}
use Rattle.amo_kk.specs.Step.{want}
use Rattle.amo_kk.specs.World.{loaded_value}
use Rattle.amo_params.specs.declared.givens.Givens.{Givens}
use Rattle.amo_kk.specs.declared.model.Process.{Process}
use Rattle.amo_world.proofs.world.World.heard.Goals as goal

pub loaded-requires : goal.loaded-requires
loaded-requires c = (c.process.result.now.local.number, subst (λ (g : Givens). WantFits g c.process.result.now.local.number c.want.result) c.process.ensures.givens c.want.ensures.fits)

pub returns : goal.returns
returns c = c.loaded.ensures ∙ ap (λ x. loaded_value c.args.self.now.world x) (c.want.ensures.want ∙ ap (λ (a : Process). want a.local) c.process.ensures.process)
