-- `Knowledge::choose`: the premises of its calls and its promises, by the lemmas of Numbers
-- (amo_sets), Sets (amo_sets) and OpenJobs.
use Rattle.std.proofs.Common.{◌≡◌, ◌∙◌, ap, sym, length, arith}
use Rattle.amo_sets.specs.Lists.{numbered}
use Rattle.amo_sets.specs.Sets.{set_of_bits}
use Rattle.amo_sets.proofs.Numbers.{count_le_all}
use Rattle.amo_sets.proofs.Sets.{set_of_bits-replicate}
use Rattle.std.specs.Prelude.{false}
use Rattle.amo_kk.specs.Knowledge.{KnowledgeView}
use Rattle.amo_kk.specs.declared.phase.Phase.TheVariants.{Announcing, Over}
use Rattle.amo_kk.proofs.OpenJobs.{choice_ends, choice_goes}
use Rattle.amo_kk.proofs.knowledge.Knowledge.choose.Goals as goal

pub returns-then-self-givens-clause-choice : goal.returns-then-self-givens-clause-choice
returns-then-self-givens-clause-choice c = λ r known tried.
    choice_ends c.args.givens r c.self.inside.free c.self.inside.tried (ap (λ (v : KnowledgeView). v.range) c.self.view_is ∙ c.requires.range)
    (known ∙ sym (ap (λ (v : KnowledgeView). v.known) c.self.view_is)) (tried ∙ sym (ap (λ (v : KnowledgeView). v.tried) c.self.view_is))
    c.args.p c.self.inside.open_count c.self.invariant.opens c.if-self-givens.true
    ∙ ap (λ (v : KnowledgeView). record r { phase = Over; tried = v.tried }) c.self.view_is

pub wanted_rank-rank-requires-clause-free : goal.wanted_rank-rank-requires-clause-free
wanted_rank-rank-requires-clause-free c =
    let range : length c.self.inside.free ≡ c.args.givens.jobs = ap (λ (v : KnowledgeView). v.range) c.self.view_is ∙ c.requires.range in
    let few = count_le_all (numbered false c.self.inside.free) (length c.self.inside.free) in
    omega (arith, c.len.ensures)

pub returns-clause-choice : goal.returns-clause-choice
returns-clause-choice c = λ r known tried.
    choice_goes c.args.givens r c.self.inside.free c.self.inside.tried (ap (λ (v : KnowledgeView). v.range) c.self.view_is ∙ c.requires.range)
    (known ∙ sym (ap (λ (v : KnowledgeView). v.known) c.self.view_is)) (tried ∙ sym (ap (λ (v : KnowledgeView). v.tried) c.self.view_is))
    c.args.p c.self.inside.open_count c.len.result c.wanted_rank-rank.result c.unwrap_or-job.result c.self.invariant.opens c.if-self-givens.false c.len.ensures c.wanted_rank-rank.ensures
    (c.unwrap_or-job.ensures ∙ c.rank_without.ensures.number)
    ∙ ap (λ l. record r { phase = Announcing c.unwrap_or-job.result; tried = l }) (sym (ap set_of_bits c.clear.ensures ∙ set_of_bits-replicate (length c.self.inside.tried)))
