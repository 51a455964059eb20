-- The facts that each pass of a loop of `live` keeps.
use Rattle.std.proofs.Common.{◌≡◌}
use Rattle.std.specs.Prelude.{option_map}
use Rattle.amo_worker_life.specs.Reading.{logs_of}
use Rattle.amo_worker_life.specs.Where.{idle_at, me_of}
use Rattle.amo_worker_life.specs.declared.halt.Health.TheVariants.{Fine}
use Rattle.amo_worker_life.proofs.life.live.Given as goal

-- it is in no round, and no call has failed
abbrev pub invariant-loop-round : goal.invariant-loop-round
invariant-loop-round g l =
    g.H.Host.stands l.worker.host (idle_at (me_of l.worker.number l.worker.jobs) (option_map logs_of l.worker.logs)) × (l.worker.health ≡ Fine)
