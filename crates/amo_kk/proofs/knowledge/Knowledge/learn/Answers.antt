-- `Knowledge::learn`: what its type keeps and its promises, by the lemmas of Numbers (amo_sets) and
-- OpenJobs.
use Rattle.std.proofs.Common.{◌≡◌, ◌≤◌, ap, sym, ◌∙◌, subst, length, false}
use Rattle.amo_sets.specs.Sets.{with_number, set_of_bits}
use Rattle.amo_sets.proofs.Numbers.{length-put}
use Rattle.amo_sets.specs.Bits.{is_without}
use Rattle.amo_sets.specs.Rank.{count}
use Rattle.amo_kk.specs.Knowledge.{KnowledgeView, numbers_without}
use Rattle.amo_kk.proofs.OpenJobs.{learned, numbers_without-put}
use Rattle.amo_kk.proofs.knowledge.Knowledge.learn.Goals as goal

pub invariant_of-self : goal.invariant_of-self
invariant_of-self c =
    let high : c.args.j ≤ length c.self.inside.free = subst (λ (v : KnowledgeView). c.args.j ≤ v.range) (sym c.self.view_is) c.requires.high in
    record {
      same_range = c.self.invariant.same_range ∙ sym (ap length c.take_out.ensures ∙ length-put false c.self.inside.free c.args.j);
      opens =
          learned c.self.inside.free c.self.inside.tried c.args.j c.self.inside.open_count c.open_without-self-inside.result c.requires.low high c.self.invariant.opens c.open_without-self-inside.ensures
          ∙ ap (λ l. count (length l) (is_without l c.self.inside.tried)) (sym c.take_out.ensures);
    }

pub returns : goal.returns
returns c =
    let high : c.args.j ≤ length c.self.inside.free = subst (λ (v : KnowledgeView). c.args.j ≤ v.range) (sym c.self.view_is) c.requires.high in
    let known : numbers_without c.take_out.new.self ≡ with_number c.args.j (numbers_without c.self.inside.free) =
    ap numbers_without c.take_out.ensures ∙ numbers_without-put c.self.inside.free c.args.j c.requires.low high in
    let range : length c.take_out.new.self ≡ length c.self.inside.free = ap length c.take_out.ensures ∙ length-put false c.self.inside.free c.args.j in
    (λ i. record { range = range i; known = known i; tried = set_of_bits c.self.inside.tried })
    ∙ ap (λ (v : KnowledgeView). record v { known = with_number c.args.j v.known }) c.self.view_is
