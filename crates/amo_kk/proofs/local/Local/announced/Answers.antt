-- `Local::announced`: what its type keeps, by the lemmas of Holding.
use Rattle.std.proofs.Common.{◌≡◌, ap, sym, refl, ◌∙◌}
use Rattle.std.specs.Vec.{vec_capacity}
use Rattle.amo_kk.specs.Step.{want, record_at_announcement}
use Rattle.amo_kk.specs.declared.model.Record.{Record}
use Rattle.amo_kk.specs.declared.phase.Phase.TheVariants.{Announcing}
use Rattle.amo_kk.specs.Knowledge.{KnowledgeView}
use Rattle.amo_kk.specs.Machine.{LocalView, record_of}
use Rattle.amo_kk.proofs.Holding.{held_after, after_by, hears_zero}
use Rattle.amo_kk.proofs.local.Local.announced.Goals as goal

pub invariant_of-self : goal.invariant_of-self
invariant_of-self c =
    let r : Record = record_of c.self.inside.phase c.self.inside.knowledge c.self.inside.fronts.items c.self.inside.claims.items c.self.inside.dones.items c.self.inside.steps in
    let is : r.phase ≡ Announcing c.args.j = ap (λ (v : LocalView). v.state.phase) c.self.view_is ∙ c.requires.phase in
    let y : Record = record r { phase = c.to_announcement-self-inside.result; known = c.to_announcement-self-inside.new.self.known; tried = c.to_announcement-self-inside.new.self.tried } in
    held_after c.self.inside.givens c.self.inside.number 0 r (record y { steps = c.saturating_add-self-inside.result }) c.self.inside.knowledge.range (vec_capacity c.self.inside.fronts) (vec_capacity c.self.inside.claims) (vec_capacity c.self.inside.dones) _ _ _ _ c.self.invariant (hears_zero c.self.inside.givens (want r))
    (after_by c.self.inside.givens c.self.inside.number 0 r y (Announcing c.args.j) c.saturating_add-self-inside.result is
    (ap (λ q. record_at_announcement c.self.inside.givens c.self.inside.number c.args.j q r) (sym c.next_other-first.ensures) ∙ c.to_announcement-self-inside.ensures.announcement r refl refl ∙ (λ i. record r { phase = c.to_announcement-self-inside.result; known = sym (ap (λ (v : KnowledgeView). v.known) c.to_announcement-self-inside.ensures.stays) i; tried = c.to_announcement-self-inside.new.self.tried }))
    c.saturating_add-self-inside.ensures)
    (ap (λ (v : KnowledgeView). v.range) c.to_announcement-self-inside.ensures.stays) refl refl refl
