-- `is_unclaimed`: its promises, by the lemmas of Counts (amo_kk).
use Rattle.std.proofs.Common.{sym, ◌∙◌}
use Rattle.amo_kk.proofs.Counts.{unclaimed_is}
use Rattle.amo_svg.proofs.unclaimed.is_unclaimed.Goals as goal

pub returns : goal.returns
returns c = c.is_unclaimed.ensures ∙ sym (unclaimed_is c.args.world.now.givens c.args.world.now.world.history c.args.job c.requires)
