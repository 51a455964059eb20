-- The facts that each pass of a loop of `run_schedule` keeps.
use Rattle.std.proofs.Common.{◌≡◌, ◌/◌, ◌^◌}
use Rattle.amo_kk.specs.World.{world_after_moves}
use Rattle.amo_report.specs.Explorer.{schedule}
use Rattle.amo_report.proofs.explorer.run_schedule.Given as goal

-- the turns so far are taken, and the digits to come are left
abbrev pub invariant-loop-turn : goal.invariant-loop-turn
invariant-loop-turn l = record {
  world : l.world ≡ record { givens = l.fn.world.givens; world = world_after_moves l.fn.world.givens l.fn.world.world (schedule l.fn.world.givens.workers l.number l._turn) };
  digits : l.digits ≡ l.number / l.fn.world.givens.workers ^ l._turn;
}
