-- `behind`: its promises, by the lemmas of Following.
use Rattle.std.proofs.lemmas.Bool.Decides.{Decides-eqb}
use Rattle.std.proofs.lemmas.Slice.Eq.{strip_prefix_is}
use Rattle.amo_journal.proofs.Following.{in_some, in_none}
use Rattle.amo_journal.proofs.follow.behind.Goals as goal

pub returns-clause-found : goal.returns-clause-found
returns-clause-found c = in_some c.strip_prefix.result _ _ (strip_prefix_is Decides-eqb c.args.bytes.now c.args.append.now c.strip_prefix.result c.strip_prefix.ensures.cases)

pub returns-clause-none : goal.returns-clause-none
returns-clause-none c = in_none c.strip_prefix.result _ _ (strip_prefix_is Decides-eqb c.args.bytes.now c.args.append.now c.strip_prefix.result c.strip_prefix.ensures.cases)
