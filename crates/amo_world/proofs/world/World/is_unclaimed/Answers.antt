-- `World::is_unclaimed`: its promises, by the lemmas of Counts (amo_kk).
use Rattle.std.proofs.Common.{ap, ◌∙◌, not}
use Rattle.amo_sets.specs.Sets.{has}
use Rattle.amo_kk.specs.Run.{claimed_jobs}
use Rattle.amo_world.specs.Views.{WorldView}
use Rattle.amo_kk.proofs.Counts.{unclaimed_is}
use Rattle.amo_world.proofs.world.World.is_unclaimed.Goals as goal

pub returns : goal.returns
returns c =
    ap not (c.has_claim.ensures ∙ ap (λ l. has (claimed_jobs l) c.args.j) c.deref.ensures.value ∙ ap (λ (v : WorldView). has (claimed_jobs v.world.history) c.args.j) c.self.view_is)
    ∙ unclaimed_is c.args.self.now.givens c.args.self.now.world.history c.args.j c.requires
