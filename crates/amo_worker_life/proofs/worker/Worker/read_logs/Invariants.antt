-- The facts that each pass of a loop of `Worker::read_logs` keeps.
use Rattle.std.proofs.Common.{◌≡◌, ◌+◌, ◌-◌, option_map}
use Rattle.amo_params.specs.declared.limits.TheConstants.{MAX_WORKERS}
use Rattle.amo_host.specs.Logs.{journals_from}
use Rattle.amo_worker_life.specs.Reading.{logs_of, ReadsTo}
use Rattle.amo_worker_life.specs.Where.{me_of}
use Rattle.amo_worker_life.proofs.worker.Worker.read_logs.Given as goal

-- the journals from that of worker p + 1 on are left
abbrev pub invariant-loop-p : goal.invariant-loop-p
invariant-loop-p g l =
    record {
      reads : ReadsTo (g.H.Host.stands l.fn.self.host) (g.H.Host.stands l.self.host) (me_of l.fn.self.number l.fn.self.jobs) (option_map (λ file. file.now) l.last)
          (logs_of l.fn.logs) (logs_of l.logs) l.counts.items (journals_from (l.p + 1) (MAX_WORKERS - l.p));
      health : l.self.health ≡ l.fn.self.health;
      number : l.self.number ≡ l.fn.self.number;
      jobs : l.self.jobs ≡ l.fn.self.jobs;
    }
