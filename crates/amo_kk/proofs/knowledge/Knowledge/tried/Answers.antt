-- `Knowledge::tried`: its promises, by the lemmas of Sets (amo_sets).
use Rattle.std.proofs.Common.{ap, sym, ◌∙◌}
use Rattle.amo_sets.specs.Sets.{has}
use Rattle.amo_sets.proofs.Sets.{has-set_of_bits}
use Rattle.amo_kk.specs.Knowledge.{KnowledgeView}
use Rattle.amo_kk.proofs.knowledge.Knowledge.tried.Goals as goal

pub returns : goal.returns
returns c = c.has.ensures ∙ sym (has-set_of_bits c.self.inside.tried c.args.j) ∙ ap (λ (v : KnowledgeView). has v.tried c.args.j) c.self.view_is
