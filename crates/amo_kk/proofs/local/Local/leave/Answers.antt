-- `Local::leave`: what its type keeps, by the lemmas of Holding.
use Rattle.std.proofs.Common.{◌≡◌, true, ap, ◌∙◌}
use Rattle.std.specs.Vec.{vec_capacity}
use Rattle.amo_kk.specs.Record.{can_leave}
use Rattle.amo_kk.specs.declared.model.Record.{Record}
use Rattle.amo_kk.specs.Machine.{LocalView, record_of}
use Rattle.amo_kk.proofs.Holding.{held_left}
use Rattle.amo_kk.proofs.local.Local.leave.Goals as goal

pub invariant_of-self : goal.invariant_of-self
invariant_of-self c =
    let r : Record = record_of c.self.inside.phase c.self.inside.knowledge c.self.inside.fronts.items c.self.inside.claims.items c.self.inside.dones.items c.self.inside.steps in
    let may : can_leave r.phase ≡ true = ap (λ (v : LocalView). can_leave v.state.phase) c.self.view_is ∙ c.requires in
    held_left c.self.inside.givens c.self.inside.number r c.saturating_add-self-inside.result c.self.inside.knowledge.range (vec_capacity c.self.inside.fronts) (vec_capacity c.self.inside.claims) (vec_capacity c.self.inside.dones) c.self.invariant may c.saturating_add-self-inside.ensures
