-- `Local::want`: its promises, by the lemmas of Wants.
use Rattle.std.proofs.Common.{◌≡◌, length, arith, sym, ap, ◌∙◌, subst}
use Rattle.amo_kk.specs.Machine.{LocalView}
use Rattle.amo_kk.specs.Step.{want_in}
use Rattle.amo_kk.specs.Fits.{WantFits}
use Rattle.amo_kk.proofs.Wants.{want_fits}
use Rattle.amo_kk.specs.declared.phase.Phase.TheVariants.{Claiming}
use Rattle.amo_kk.proofs.local.Local.want.Goals as goal

pub returns-in-Claiming-clause-fits : goal.returns-in-Claiming-clause-fits
returns-in-Claiming-clause-fits c =
    let v = c.args.self.now in
    let j = c.in-Claiming.j in
    let inv = c.self.invariant in
    let fits : WantFits v.givens v.number (want_in v.state v.state.phase) =
    subst (λ (x : LocalView). WantFits x.givens x.number (want_in x.state x.state.phase)) c.self.view_is (want_fits _ _ _ inv.givens inv.worker inv.fit) in
    let is : v.state.phase ≡ Claiming j = ap (λ (x : LocalView). x.state.phase) (sym c.self.view_is) ∙ c.in-Claiming.is in
    let claim : WantFits v.givens v.number (want_in v.state (Claiming j)) = subst (λ x. WantFits v.givens v.number (want_in v.state x)) is fits in
    let lists : length c.self.inside.claims.items ≡ length v.state.claimed = ap (λ (x : LocalView). length x.state.claimed) c.self.view_is in
    let own = c.self.inside.claims.ok in
    let high = claim.2 in
    (claim.0, omega arith, omega (arith, lists, own.0, c.len.ensures, high))
