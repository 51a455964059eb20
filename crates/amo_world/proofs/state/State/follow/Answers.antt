-- `State::follow`: its promises, by the lemmas of Holding (amo_kk) and Unclaimed.
use Rattle.std.proofs.Common.{◌≤◌, false, sym, ap, ◌∙◌, arith}
use Rattle.amo_sets.specs.Sets.{set_of_bits}
use Rattle.amo_kk.specs.Object.{is_step, object_after}
use Rattle.amo_kk.specs.declared.event.Event.TheVariants.{Claimed}
use Rattle.amo_kk.proofs.Holding.{put_before}
use Rattle.amo_world.specs.Views.{StateView}
use Rattle.amo_world.proofs.Unclaimed.{bits_without, claim_range}
use Rattle.amo_world.proofs.state.State.follow.Goals as goal

pub returns-in-Claimed : goal.returns-in-Claimed
returns-in-Claimed c =
    let size = c.self.invariant.jobs in
    let range : (1 ≤ c.in-Claimed.p) × (1 ≤ c.in-Claimed.j) × (c.in-Claimed.j ≤ c.self.inside.givens.jobs) = claim_range _ _ c.in-Claimed.p c.in-Claimed.j c.self.view_is (ap (λ e. is_step c.args.self.now.givens c.args.self.now.object e) (sym c.in-Claimed.is) ∙ c.requires) in
    (λ i. record {
      givens = c.self.inside.givens;
      object = record {
        unclaimed = (ap set_of_bits (sym (put_before c.self.inside.unclaimed.items c.in-Claimed.j false range.1)) ∙ bits_without c.self.inside.unclaimed.items c.in-Claimed.j range.1 (omega arith)) i;
        in_hand = sym (put_before c.self.inside.in_hand.items c.in-Claimed.p c.in-Claimed.j range.0) i;
        performed = c.self.inside.performed.items;
        gone = c.self.inside.gone.items;
      };
    })
    ∙ ap {B = StateView} (λ (v : StateView). record { givens = v.givens; object = object_after v.object (Claimed c.in-Claimed.p c.in-Claimed.j) }) c.self.view_is
    ∙ ap {B = StateView} (λ e. record { givens = c.args.self.now.givens; object = object_after c.args.self.now.object e }) (sym c.in-Claimed.is)
