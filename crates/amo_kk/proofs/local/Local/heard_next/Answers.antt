-- `Local::heard_next`: what its type keeps, by the lemmas of Holding.
use Rattle.std.proofs.Common.{◌≡◌, ◌≤◌, ap, sym, refl, subst, ◌∙◌}
use Rattle.std.specs.Vec.{vec_capacity}
use Rattle.amo_kk.specs.Step.{want_in, with_announced, record_at_announcement, MayLoad}
use Rattle.amo_kk.specs.declared.model.Record.{Record}
use Rattle.amo_kk.specs.declared.phase.Phase.TheVariants.{Trying}
use Rattle.amo_kk.specs.Knowledge.{KnowledgeView}
use Rattle.amo_kk.specs.Machine.{LocalView, record_of}
use Rattle.amo_kk.proofs.Holding.{held_after, after_by}
use Rattle.amo_kk.proofs.local.Local.heard_next.Goals as goal

pub invariant_of-self : goal.invariant_of-self
invariant_of-self c =
    let r : Record = record_of c.self.inside.phase c.self.inside.knowledge c.self.inside.fronts.items c.self.inside.claims.items c.self.inside.dones.items c.self.inside.steps in
    let is : r.phase ≡ Trying c.args.j c.args.q = ap (λ (v : LocalView). v.state.phase) c.self.view_is ∙ c.requires.phase in
    let noted_is : c.note.new.self.tried ≡ with_announced c.args.v r.tried = ap (λ (v : KnowledgeView). v.tried) c.note.ensures in
    let y : Record = record r { phase = c.to_announcement-self-inside.result; known = c.to_announcement-self-inside.new.self.known; tried = c.to_announcement-self-inside.new.self.tried } in
    let small : c.args.v ≤ c.self.inside.givens.jobs = subst (λ (v : LocalView). c.args.v ≤ v.givens.jobs) (sym c.self.view_is) c.requires.value in
    held_after c.self.inside.givens c.self.inside.number c.args.v r (record y { steps = c.saturating_add-self-inside.result }) c.self.inside.knowledge.range (vec_capacity c.self.inside.fronts) (vec_capacity c.self.inside.claims) (vec_capacity c.self.inside.dones) _ _ _ _ c.self.invariant
    (subst (λ x. MayLoad c.self.inside.givens c.args.v (want_in r x)) (sym is) small)
    (after_by c.self.inside.givens c.self.inside.number c.args.v r y (Trying c.args.j c.args.q) c.saturating_add-self-inside.result is
    (ap (λ q. record_at_announcement c.self.inside.givens c.self.inside.number c.args.j q (record r { tried = with_announced c.args.v r.tried })) (sym c.next_other-next.ensures)
    ∙ c.to_announcement-self-inside.ensures.announcement (record r { tried = with_announced c.args.v r.tried }) (sym (ap (λ (v : KnowledgeView). v.known) c.note.ensures)) (sym noted_is)
    ∙ (λ i. record r { phase = c.to_announcement-self-inside.result; known = sym (ap (λ (v : KnowledgeView). v.known) c.to_announcement-self-inside.ensures.stays ∙ ap (λ (v : KnowledgeView). v.known) c.note.ensures) i; tried = c.to_announcement-self-inside.new.self.tried }))
    c.saturating_add-self-inside.ensures)
    (ap (λ (v : KnowledgeView). v.range) c.to_announcement-self-inside.ensures.stays ∙ ap (λ (v : KnowledgeView). v.range) c.note.ensures) refl refl refl
