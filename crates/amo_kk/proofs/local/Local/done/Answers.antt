-- `Local::done`: what its type keeps, by the lemmas of Holding.
use Rattle.std.proofs.Common.{◌≡◌, false, ap, sym, refl, ◌∙◌}
use Rattle.std.specs.Vec.{vec_capacity}
use Rattle.amo_sets.specs.Sets.{has, with_number}
use Rattle.amo_params.specs.Givens.{IsJob}
use Rattle.amo_kk.specs.Choice.{record_after_choice}
use Rattle.amo_kk.specs.Step.{want}
use Rattle.amo_kk.specs.declared.model.Record.{Record}
use Rattle.amo_kk.specs.declared.phase.Phase.TheVariants.{Holding}
use Rattle.amo_kk.specs.Knowledge.{KnowledgeView}
use Rattle.amo_kk.specs.Machine.{LocalView, record_of}
use Rattle.amo_kk.proofs.Holding.{held_after, after_by, hears_zero}
use Rattle.amo_kk.proofs.local.Local.done.Goals as goal

pub invariant_of-self : goal.invariant_of-self
invariant_of-self c =
    let r : Record = record_of c.self.inside.phase c.self.inside.knowledge c.self.inside.fronts.items c.self.inside.claims.items c.self.inside.dones.items c.self.inside.steps in
    let is : r.phase ≡ Holding c.args.j = ap (λ (v : LocalView). v.state.phase) c.self.view_is ∙ c.requires.phase in
    let job : IsJob c.self.inside.givens c.args.j × (has r.known c.args.j ≡ false) × (has r.tried c.args.j ≡ false) = rw is at c.self.invariant.fit.stands in
    let known_is : c.learn.new.self.known ≡ with_number c.args.j r.known = ap (λ (v : KnowledgeView). v.known) c.learn.ensures in
    let mid : Record = record r { dones = c.add_within.new.list.items; known = c.learn.new.self.known; tried = c.learn.new.self.tried } in
    let y : Record = record mid { phase = c.choose-self-inside.result; known = c.choose-self-inside.new.self.known; tried = c.choose-self-inside.new.self.tried } in
    held_after c.self.inside.givens c.self.inside.number 0 r (record y { steps = c.saturating_add-self-inside.result }) c.self.inside.knowledge.range (vec_capacity c.self.inside.fronts) (vec_capacity c.self.inside.claims) (vec_capacity c.self.inside.dones) _ _ _ _ c.self.invariant
    (hears_zero c.self.inside.givens (want r))
    (after_by c.self.inside.givens c.self.inside.number 0 r y (Holding c.args.j) c.saturating_add-self-inside.result is
    ((λ i. record_after_choice c.self.inside.givens c.self.inside.number (record r { dones = sym c.add_within.ensures.items i; known = sym known_is i; tried = sym (ap (λ (v : KnowledgeView). v.tried) c.learn.ensures) i })) ∙ c.choose-self-inside.ensures.choice mid refl refl
    ∙ (λ i. record mid { phase = c.choose-self-inside.result; known = sym (ap (λ (v : KnowledgeView). v.known) c.choose-self-inside.ensures.stays) i; tried = c.choose-self-inside.new.self.tried }))
    c.saturating_add-self-inside.ensures)
    (ap (λ (v : KnowledgeView). v.range) c.choose-self-inside.ensures.stays ∙ ap (λ (v : KnowledgeView). v.range) c.learn.ensures) refl refl c.add_within.ensures.capacity
