-- `Worker::make_file`: the premises of its calls and its promises, by the lemmas of Begins.
use Rattle.std.proofs.Common.{sym, subst}
use Rattle.amo_host.specs.Phase.{Begins, Ended, RoundMade}
use Rattle.amo_host.specs.Protocol.{Lives}
use Rattle.amo_worker_life.specs.declared.halt.Halt.TheVariants.{Host}
use Rattle.amo_worker_life.specs.Reading.{logs_of}
use Rattle.amo_worker_life.specs.Where.{me_of}
use Rattle.amo_worker_life.proofs.Begins.{makes, makes_none, makes_not, may_make}
use Rattle.amo_worker_life.proofs.worker.Worker.make_file.Goals as goal

pub make_round-requires : goal.make_round-requires
make_round-requires g c =
    let old = c.args.self.now in
    may_make (g.H.Host.stands old.host) (me_of old.number old.jobs) (logs_of c.args.logs.now) c.args.file.now c.requires.next

pub returns-in-Ok-clause-made : goal.returns-in-Ok-clause-made
returns-in-Ok-clause-made g c =
    let old = c.args.self.now in
    makes (g.H.Host.stands old.host) (me_of old.number old.jobs) (logs_of c.args.logs.now) c.args.file.now c.requires.next (g.H.Host.stands c.make_round.new.self) c.in-Ok.ensures.done

pub returns-in-Ok-clause-lives : goal.returns-in-Ok-clause-lives
returns-in-Ok-clause-lives g c =
    let old = c.args.self.now in (
      Begins (me_of old.number old.jobs) (RoundMade c.args.file.now (logs_of c.args.logs.now)),
      makes (g.H.Host.stands old.host) (me_of old.number old.jobs) (logs_of c.args.logs.now) c.args.file.now c.requires.next (g.H.Host.stands c.make_round.new.self) c.in-Ok.ensures.done,
    )

pub returns-in-Err-clause-lives : goal.returns-in-Err-clause-lives
returns-in-Err-clause-lives g c =
    let old = c.args.self.now in
    subst (λ host. Lives (g.H.Host.stands host)) (sym c.fails.ensures.host)
    (makes_not (g.H.Host.stands old.host) (me_of old.number old.jobs) (logs_of c.args.logs.now) c.args.file.now c.requires.next (g.H.Host.stands c.make_round.new.self) c.in-Err.ensures.fails)

pub returns-in-Err-clause-halts : goal.returns-in-Err-clause-halts
returns-in-Err-clause-halts g c =
    let old = c.args.self.now in
    let ended =
    subst (λ host. g.H.Host.stands host Ended) (sym c.fails.ensures.host)
    (makes_none (g.H.Host.stands old.host) (me_of old.number old.jobs) (logs_of c.args.logs.now) c.args.file.now c.requires.next (g.H.Host.stands c.make_round.new.self) c.in-Err.ensures.fails) in
    (Host, c.fails.ensures.halt, ended)
