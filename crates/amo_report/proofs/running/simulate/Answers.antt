-- `simulate`: the premises of its calls and its promises, by the lemmas of Rounds.
use Rattle.std.proofs.Common.{refl, sym, ap, []}
use Rattle.amo_kk.specs.World.{opening_world, rounds}
use Rattle.amo_world.specs.Views.{WorldView}
use Rattle.amo_report.proofs.Rounds.{range_of, moves_more}
use Rattle.amo_report.proofs.running.simulate.Goals as goal

pub run-requires : goal.run-requires
run-requires c = range_of _ _ _ _ (ap (λ (v : WorldView). v.givens) c.in_ok-world.ensures) c.as_slice.ensures c.args.plan.now.within

pub returns : goal.returns
returns c =
    let plan = c.args.plan.now in
    let opening = opening_world plan.heads.givens in
    let scheduled = moves_more plan.heads.givens opening [] plan.heads.moves (λ _. c.as_slice.result.now) _ _ c.in_ok-world.ensures c.run.ensures (sym c.as_slice.ensures) in
    moves_more plan.heads.givens opening plan.heads.moves _ (λ g. rounds g.workers plan.heads.rounds) _ _ scheduled c.run_rounds.ensures refl
