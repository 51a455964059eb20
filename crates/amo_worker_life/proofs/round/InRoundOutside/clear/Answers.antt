-- `InRoundOutside::clear`: the premises of its calls, by the lemmas of Clearing.
use Rattle.amo_worker_life.specs.Reading.{logs_of}
use Rattle.amo_worker_life.specs.Where.{me_of}
use Rattle.amo_worker_life.proofs.Clearing.{clearing_of}
use Rattle.amo_worker_life.proofs.round.InRoundOutside.clear.Goals as goal

pub read_all-requires : goal.read_all-requires
read_all-requires g c =
    let w = c.args.self.now in
    record { asks = clearing_of (g.H.Host.stands w.worker.host) (me_of w.worker.number w.worker.jobs) w.lines.items (logs_of w.logs) w.worker.health w.worker.halt c.args.serial c.args.job c.requires }
