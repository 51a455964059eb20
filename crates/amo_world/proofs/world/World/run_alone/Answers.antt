-- `World::run_alone`: no overflow, what its loop keeps and its promises, by the lemmas of Resting.
use Rattle.std.proofs.Common.{◌≡◌, ⊎_elim, true, false, subst, ap, ◌∙◌, arith}
use Rattle.amo_kk.specs.Lawful.{IsLawful}
use Rattle.amo_world.specs.declared.answer.Alone.{Alone}
use Rattle.amo_world.specs.declared.answer.Alone.TheVariants.{Ended as EndedAlone}
use Rattle.amo_world.specs.Resting.{RunsAlone}
use Rattle.amo_world.specs.Views.{WorldView}
use Rattle.amo_world.proofs.Resting.{rests, alone_of, IsUnderWay, under_way_soon, goes_on, comes_to_rest}
use Rattle.amo_world.proofs.world.World.run_alone.Goals as goal

pub overflow_sub-left : goal.overflow_sub-left
overflow_sub-left c =
    let law : IsLawful c.args.self.now.givens c.args.self.now.world = subst (λ (v : WorldView). IsLawful v.givens v.world) c.self.view_is c.self.invariant.lawful in
    let soon = under_way_soon c.args.self.now.givens c.args.self.now.world c.args.p _ c.loop-j.self.world law c.requires c.loop-j.invariant.way in
    omega arith

pub returns-in-Claimed-clause-alone : goal.returns-in-Claimed-clause-alone
returns-in-Claimed-clause-alone c =
    let law : IsLawful c.args.self.now.givens c.args.self.now.world = subst (λ (v : WorldView). IsLawful v.givens v.world) c.self.view_is c.self.invariant.lawful in
    subst (λ (y : Alone). RunsAlone c.args.self.now.givens c.args.self.now.world c.args.p c.turn.new.self.world y) (ap alone_of c.in-Claimed.is)
    (comes_to_rest c.args.self.now.givens c.args.self.now.world c.args.p _ c.loop-j.self c.turn.new.self c.turn.result c.loop-j.invariant.givens c.turn.ensures.answer c.turn.ensures.world c.loop-j.invariant.way law c.requires (ap rests c.in-Claimed.is))

pub returns-in-Ended-clause-alone : goal.returns-in-Ended-clause-alone
returns-in-Ended-clause-alone c =
    let law : IsLawful c.args.self.now.givens c.args.self.now.world = subst (λ (v : WorldView). IsLawful v.givens v.world) c.self.view_is c.self.invariant.lawful in
    let is : alone_of c.turn.result ≡ EndedAlone = ⊎_elim (λ e. ap alone_of e) (λ e. ap alone_of e.1) c.in-Ended.is in
    let rest : rests c.turn.result ≡ true = ⊎_elim (λ e. ap rests e) (λ e. ap rests e.1) c.in-Ended.is in
    subst (λ (y : Alone). RunsAlone c.args.self.now.givens c.args.self.now.world c.args.p c.turn.new.self.world y) is
    (comes_to_rest c.args.self.now.givens c.args.self.now.world c.args.p _ c.loop-j.self c.turn.new.self c.turn.result c.loop-j.invariant.givens c.turn.ensures.answer c.turn.ensures.world c.loop-j.invariant.way law c.requires rest)

pub loop-j-smaller : goal.loop-j-smaller
loop-j-smaller c =
    let law : IsLawful c.args.self.now.givens c.args.self.now.world = subst (λ (v : WorldView). IsLawful v.givens v.world) c.self.view_is c.self.invariant.lawful in
    let soon = under_way_soon c.args.self.now.givens c.args.self.now.world c.args.p _ c.loop-j.self.world law c.requires c.loop-j.invariant.way in
    omega arith

pub loop-j-preserved : goal.loop-j-preserved
loop-j-preserved c =
    let law : IsLawful c.args.self.now.givens c.args.self.now.world = subst (λ (v : WorldView). IsLawful v.givens v.world) c.self.view_is c.self.invariant.lawful in
    let soon = under_way_soon c.args.self.now.givens c.args.self.now.world c.args.p _ c.loop-j.self.world law c.requires c.loop-j.invariant.way in
    let few = c.loop-j.invariant.few in
    let quiet : rests c.turn.result ≡ false = ⊎_elim (λ e. ap rests e) (λ e. ⊎_elim (λ f. ap rests f.1) (λ f. ap rests f) e) c.in-Moved.is in
    record {
      few = omega arith;
      givens = ap (λ (v : WorldView). v.givens) c.turn.ensures.world ∙ c.loop-j.invariant.givens;
      way = subst (λ n. IsUnderWay c.args.self.now.givens c.args.self.now.world c.args.p n c.turn.new.self.world) (omega arith)
          (goes_on c.args.self.now.givens c.args.self.now.world c.args.p _ c.loop-j.self c.turn.new.self c.turn.result c.loop-j.invariant.givens c.turn.ensures.answer c.turn.ensures.world c.loop-j.invariant.way quiet);
    }
