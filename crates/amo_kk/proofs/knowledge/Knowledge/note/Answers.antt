-- `Knowledge::note`: what its type keeps and its promises, by the lemmas of Numbers (amo_sets),
-- Sets (amo_sets) and OpenJobs.
use Rattle.std.proofs.Common.{◌≡◌, ◌≤◌, ℕ, List, ap, sym, ◌∙◌, subst, length, true, arith}
use Rattle.std.specs.Prelude.{if◌then◌else◌}
use Rattle.std.proofs.lemmas.Bool.{ne_eqb}
use Rattle.amo_sets.specs.Sets.{with_number, set_of_bits}
use Rattle.amo_sets.proofs.Numbers.{length-put}
use Rattle.amo_sets.proofs.Sets.{set_of_bits-put}
use Rattle.amo_sets.specs.Bits.{is_without}
use Rattle.amo_sets.specs.Rank.{count}
use Rattle.amo_kk.specs.Step.{with_announced}
use Rattle.amo_kk.specs.Knowledge.{KnowledgeView, numbers_without}
use Rattle.amo_kk.proofs.OpenJobs.{noted}
use Rattle.amo_kk.proofs.knowledge.Knowledge.note.Goals as goal

pub invariant_of-self : goal.invariant_of-self
invariant_of-self c =
    let high : c.args.announced ≤ length c.self.inside.free = subst (λ (v : KnowledgeView). c.args.announced ≤ v.range) (sym c.self.view_is) c.requires in
    record {
      same_range = ap length c.add.ensures ∙ length-put true c.self.inside.tried c.args.announced ∙ c.self.invariant.same_range;
      opens =
          noted c.self.inside.free c.self.inside.tried c.args.announced c.self.inside.open_count c.open_without-self-inside.result c.self.invariant.same_range (omega arith) high c.self.invariant.opens c.open_without-self-inside.ensures
          ∙ ap (λ l. count (length c.self.inside.free) (is_without c.self.inside.free l)) (sym c.add.ensures);
    }

pub returns : goal.returns
returns c =
    let high : c.args.announced ≤ length c.self.inside.free = subst (λ (v : KnowledgeView). c.args.announced ≤ v.range) (sym c.self.view_is) c.requires in
    let same = c.self.invariant.same_range in
    let noted : set_of_bits c.add.new.self ≡ with_announced c.args.announced (set_of_bits c.self.inside.tried) =
    ap set_of_bits c.add.ensures ∙ set_of_bits-put c.self.inside.tried c.args.announced (omega arith) (omega arith)
    ∙ ap (λ b. if b then set_of_bits c.self.inside.tried else with_number c.args.announced (set_of_bits c.self.inside.tried)) (sym (ne_eqb c.args.announced 0 c.if-announced-eq0.false)) in
    ap (λ (l : List ℕ). record { range = length c.self.inside.free; known = numbers_without c.self.inside.free; tried = l }) noted
    ∙ ap (λ (v : KnowledgeView). record v { tried = with_announced c.args.announced v.tried }) c.self.view_is
