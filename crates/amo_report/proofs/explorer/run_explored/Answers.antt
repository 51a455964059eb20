-- `run_explored`: its promises, by the lemmas of Rounds.
use Rattle.std.proofs.Common.{[], refl}
use Rattle.amo_kk.specs.World.{opening_world, rounds}
use Rattle.amo_report.specs.Explorer.{schedule}
use Rattle.amo_report.proofs.Rounds.{moves_more}
use Rattle.amo_report.proofs.explorer.run_explored.Goals as goal

pub returns : goal.returns
returns c =
    let givens = c.args.plan.now.heads.givens in
    let opening = opening_world givens in
    let turns = schedule givens.workers c.args.number c.args.length in
    let scheduled = moves_more givens opening [] turns (λ g. schedule g.workers c.args.number c.args.length) _ _ c.in_ok-world.ensures c.run_schedule.ensures refl in
    moves_more givens opening turns _ (λ g. rounds g.workers c.args.plan.now.heads.rounds) _ _ scheduled c.run_rounds.ensures refl
