-- `Local::claimed`: the premises of its calls and what its type keeps, by the lemmas of Holding.
use Rattle.std.proofs.Common.{◌≡◌, ap, sym, refl, ◌∙◌, arith}
use Rattle.std.specs.Vec.{vec_capacity}
use Rattle.amo_kk.specs.Step.{want}
use Rattle.amo_kk.specs.declared.model.Record.{Record}
use Rattle.amo_kk.specs.declared.phase.Phase.TheVariants.{Claiming, Holding}
use Rattle.amo_kk.specs.Machine.{LocalView, record_of}
use Rattle.amo_kk.proofs.Holding.{held_after, after_by, hears_zero, claim_room}
use Rattle.amo_kk.proofs.local.Local.claimed.Goals as goal

pub add_within-requires : goal.add_within-requires
add_within-requires c =
    let r : Record = record_of c.self.inside.phase c.self.inside.knowledge c.self.inside.fronts.items c.self.inside.claims.items c.self.inside.dones.items c.self.inside.steps in
    let is : r.phase ≡ Claiming c.args.j = ap (λ (v : LocalView). v.state.phase) c.self.view_is ∙ c.requires.phase in
    let few = claim_room c.self.inside.givens c.self.inside.number r c.args.j c.self.invariant.givens c.self.invariant.worker c.self.invariant.fit is in
    let room = c.self.invariant.claims_room_is in
    omega arith

pub invariant_of-self : goal.invariant_of-self
invariant_of-self c =
    let r : Record = record_of c.self.inside.phase c.self.inside.knowledge c.self.inside.fronts.items c.self.inside.claims.items c.self.inside.dones.items c.self.inside.steps in
    let is : r.phase ≡ Claiming c.args.j = ap (λ (v : LocalView). v.state.phase) c.self.view_is ∙ c.requires.phase in
    let y : Record = record r { phase = Holding c.args.j; claimed = c.add_within.new.list.items } in
    held_after c.self.inside.givens c.self.inside.number 0 r (record y { steps = c.saturating_add-self-inside.result }) c.self.inside.knowledge.range (vec_capacity c.self.inside.fronts) (vec_capacity c.self.inside.claims) (vec_capacity c.self.inside.dones) _ _ _ _ c.self.invariant
    (hears_zero c.self.inside.givens (want r))
    (after_by c.self.inside.givens c.self.inside.number 0 r y (Claiming c.args.j) c.saturating_add-self-inside.result is
    (ap (λ l. record r { phase = Holding c.args.j; claimed = l }) (sym c.add_within.ensures.items))
    c.saturating_add-self-inside.ensures)
    refl refl c.add_within.ensures.capacity refl
