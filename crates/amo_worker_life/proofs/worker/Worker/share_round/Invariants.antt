-- The facts that each pass of a loop of `Worker::share_round` keeps.
use Rattle.std.proofs.Common.{◌≡◌}
use Rattle.std.specs.Prelude.{option_map}
use Rattle.amo_worker_life.specs.Reading.{logs_of}
use Rattle.amo_worker_life.specs.Where.{idle_at, me_of}
use Rattle.amo_worker_life.proofs.worker.Worker.share_round.Given as goal

-- it has no lock yet
abbrev pub invariant-loop-try : goal.invariant-loop-try
invariant-loop-try g l =
    g.H.Host.stands l.self.host (idle_at (me_of l.self.number l.self.jobs) (option_map logs_of l.self.logs)) × (l.self.health ≡ l.fn.self.health)
