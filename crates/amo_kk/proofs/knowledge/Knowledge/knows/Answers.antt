-- `Knowledge::knows`: its promises, by the lemmas of OpenJobs.
use Rattle.std.proofs.Common.{◌≤◌, ap, sym, ◌∙◌, subst, length, not}
use Rattle.amo_sets.specs.Sets.{has}
use Rattle.amo_kk.specs.Knowledge.{KnowledgeView}
use Rattle.amo_kk.proofs.OpenJobs.{has-numbers_without}
use Rattle.amo_kk.proofs.knowledge.Knowledge.knows.Goals as goal

pub returns : goal.returns
returns c =
    let high : c.args.j ≤ length c.self.inside.free = subst (λ (v : KnowledgeView). c.args.j ≤ v.range) (sym c.self.view_is) c.requires.high in
    ap not c.has.ensures ∙ sym (has-numbers_without c.self.inside.free c.args.j c.requires.low high) ∙ ap (λ (v : KnowledgeView). has v.known c.args.j) c.self.view_is
