-- `Local::heard_entry`: what its type keeps, by the lemmas of Holding.
use Rattle.std.proofs.Common.{◌≡◌, ◌+◌, ◌-◌, List, ℕ, set, ap, sym, refl, subst, ◌∙◌, arith}
use Rattle.std.specs.Vec.{vec_capacity}
use Rattle.amo_sets.specs.Sets.{with_number}
use Rattle.amo_params.specs.Givens.{IsJob, IsOther}
use Rattle.amo_kk.specs.Step.{want, want_in, MayLoad}
use Rattle.amo_kk.specs.declared.model.Record.{Record}
use Rattle.amo_kk.specs.declared.phase.Phase.TheVariants.{Reading}
use Rattle.amo_kk.specs.Knowledge.{KnowledgeView}
use Rattle.amo_kk.specs.Machine.{LocalView, record_of}
use Rattle.amo_kk.proofs.Holding.{held_after, after_by, entry_moves}
use Rattle.amo_kk.proofs.local.Local.heard_entry.Goals as goal

pub invariant_of-self : goal.invariant_of-self
invariant_of-self c =
    let r : Record = record_of c.self.inside.phase c.self.inside.knowledge c.self.inside.fronts.items c.self.inside.claims.items c.self.inside.dones.items c.self.inside.steps in
    let is : r.phase ≡ Reading c.args.j c.args.q = ap (λ (v : LocalView). v.state.phase) c.self.view_is ∙ c.requires.phase in
    let stands : IsJob c.self.inside.givens c.args.j × IsOther c.self.inside.givens c.self.inside.number c.args.q = rw is at c.self.invariant.fit.stands in
    let size = c.self.invariant.fit.fronts in
    let heard : MayLoad c.self.inside.givens c.args.v (want r) = subst (λ (v : LocalView). MayLoad v.givens c.args.v (want v.state)) (sym c.self.view_is) c.requires.hears in
    let small = subst (λ x. MayLoad c.self.inside.givens c.args.v (want_in r x)) is heard in
    let known_is : c.learn.new.self.known ≡ with_number c.args.v r.known = ap (λ (v : KnowledgeView). v.known) c.learn.ensures in
    let fronts : List ℕ = set r.fronts (c.args.q - 1) (c.index_mut.result.now + 1) in
    let y : Record = record r { known = c.learn.new.self.known; tried = c.learn.new.self.tried; fronts = fronts } in
    held_after c.self.inside.givens c.self.inside.number c.args.v r (record y { steps = c.saturating_add-self-inside.result }) c.self.inside.knowledge.range (vec_capacity c.self.inside.fronts) (vec_capacity c.self.inside.claims) (vec_capacity c.self.inside.dones) _ _ _ _ c.self.invariant
    heard
    (after_by c.self.inside.givens c.self.inside.number c.args.v r y (Reading c.args.j c.args.q) c.saturating_add-self-inside.result is
    (entry_moves c.self.inside.givens c.self.inside.number c.args.v c.args.j c.args.q c.index_mut.result.now r c.learn.new.self.known fronts c.requires.some stands.1.worker.low (let h = stands.1.worker.high in omega arith) c.index_mut.ensures.value known_is refl
    ∙ (λ i. record r { known = c.learn.new.self.known; tried = sym (ap (λ (v : KnowledgeView). v.tried) c.learn.ensures) i; fronts = fronts }))
    c.saturating_add-self-inside.ensures)
    (ap (λ (v : KnowledgeView). v.range) c.learn.ensures) refl refl refl
