-- The facts that each pass of a loop of `Worker::guard` keeps.
use Rattle.std.proofs.Common.{◌≡◌}
use Rattle.amo_host.specs.Phase.{Starts, Unborn}
use Rattle.amo_worker_life.proofs.worker.Worker.guard.Given as goal

-- it has no lock yet
abbrev pub invariant-loop-try : goal.invariant-loop-try
invariant-loop-try g l =
    g.H.Host.stands l.self.host (Starts l.self.number Unborn) × (l.self.number ≡ l.fn.self.number) × (l.self.health ≡ l.fn.self.health) × (l.self.logs ≡ l.fn.self.logs)
