-- `World::performed_len`: the premises of its calls and its promises, by the lemmas of Counts
-- (amo_kk).
use Rattle.std.proofs.Common.{◌<◌, ◌^◌, ap, sym, subst, ◌∙◌, length}
use Rattle.amo_kk.specs.Run.{done_jobs}
use Rattle.amo_world.specs.Views.{WorldView}
use Rattle.amo_kk.proofs.Counts.{performed_count, run_fits}
use Rattle.amo_world.proofs.world.World.performed_len.Goals as goal

pub count-requires : goal.count-requires
count-requires c = subst (λ l. length l < 2 ^ 32) (sym c.deref.ensures.value) (run_fits c.self.inside.givens c.self.inside.history.items c.self.invariant.run.0)

pub returns : goal.returns
returns c =
    c.count.ensures.performed ∙ ap (λ l. length (done_jobs l)) c.deref.ensures.value ∙ ap (λ (v : WorldView). length (done_jobs v.world.history)) c.self.view_is
    ∙ performed_count c.args.self.now.givens c.args.self.now.world.history
