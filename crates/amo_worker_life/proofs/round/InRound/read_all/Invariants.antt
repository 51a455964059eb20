-- The facts that each pass of a loop of `InRound::read_all` keeps.
use Rattle.std.proofs.Common.{◌≡◌, ◌+◌, ◌-◌}
use Rattle.amo_params.specs.declared.limits.TheConstants.{MAX_WORKERS}
use Rattle.amo_host.specs.Logs.{journals_from}
use Rattle.amo_worker_life.specs.Reading.{logs_of, Reads}
use Rattle.amo_worker_life.specs.Where.{me_of}
use Rattle.amo_worker_life.proofs.round.InRound.read_all.Given as goal

-- the journals from that of worker p + 1 on are left
abbrev pub invariant-loop-p : goal.invariant-loop-p
invariant-loop-p g l =
    record {
      reads : Reads (g.H.Host.stands l.fn.self.worker.host) (g.H.Host.stands l.self.worker.host) (me_of l.fn.self.worker.number l.fn.self.worker.jobs) l.fn.self.lines.items l.serial l.job
          (logs_of l.fn.self.logs) (logs_of l.self.logs) (journals_from (l.p + 1) (MAX_WORKERS - l.p));
      health : l.self.worker.health ≡ l.fn.self.worker.health;
      number : l.self.worker.number ≡ l.fn.self.worker.number;
      jobs : l.self.worker.jobs ≡ l.fn.self.worker.jobs;
      lines : l.self.lines ≡ l.fn.self.lines;
    }
