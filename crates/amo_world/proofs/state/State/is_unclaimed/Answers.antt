-- `State::is_unclaimed`: its promises, by the lemmas of Bits (amo_kk).
use Rattle.std.proofs.Common.{◌≡◌, ◌-◌, ◌<◌, length, false, sym, ap, ◌∙◌, arith}
use Rattle.std.proofs.lemmas.List.{get_or_default}
use Rattle.amo_sets.specs.Sets.{has}
use Rattle.amo_kk.proofs.Bits.{numbered_before, bits_have}
use Rattle.amo_world.specs.Views.{StateView}
use Rattle.amo_world.proofs.state.State.is_unclaimed.Goals as goal

pub returns : goal.returns
returns c =
    let size = c.self.invariant.jobs in
    let low = c.requires.low in
    let high = c.requires.high in
    let same : c.self.inside.givens.jobs ≡ c.args.self.now.givens.jobs = ap (λ (v : StateView). v.givens.jobs) c.self.view_is in
    let job : c.args.j - 1 < length c.self.inside.unclaimed.items = omega arith in
    c.index.ensures ∙ get_or_default c.self.inside.unclaimed.items (c.args.j - 1) c.index.result.now false job
    ∙ sym (numbered_before false c.self.inside.unclaimed.items c.args.j c.requires.low) ∙ sym (bits_have c.self.inside.unclaimed.items c.args.j)
    ∙ ap (λ (v : StateView). has v.object.unclaimed c.args.j) c.self.view_is
