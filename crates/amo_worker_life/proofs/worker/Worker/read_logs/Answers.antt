-- `Worker::read_logs`: the premises of its calls, what its loop keeps and its promises, by the
-- lemmas of AllLogs and Clearing.
use Rattle.std.proofs.Common.{◌+◌, ◌-◌, List, option_map, subst, ◌∙◌}
use Rattle.std.specs.Prelude.{Result, Ok, Err, OnErr}
use Rattle.amo_params.specs.declared.limits.TheConstants.{MAX_WORKERS}
use Rattle.amo_host.specs.declared.model.LogFile.{LogFile}
use Rattle.amo_host.specs.declared.model.LogFile.TheVariants.{Journal}
use Rattle.amo_host.specs.Logs.{journals_from}
use Rattle.amo_worker_life.specs.Halting.{Halts}
use Rattle.amo_worker_life.specs.Reading.{logs_of, ReadsTo}
use Rattle.amo_worker_life.specs.Where.{me_of}
use Rattle.amo_worker_life.proofs.AllLogs.{begins, goes_no_further, goes_on, may_go_on}
use Rattle.amo_worker_life.proofs.Clearing.{journals_left}
use Rattle.amo_worker_life.proofs.worker.Worker.read_logs.Goals as goal

in_any : {T E : Type 0} (r : Result T E) (P : Type 0) → P → OnErr r P
in_any (Ok x) P is = tt
in_any (Err e) P is = is

pub loop-p-init : goal.loop-p-init
loop-p-init g c =
    let old = c.args.self.now in
    let new = c.read_log.new.self in
    record {
      reads =
          begins (me_of old.number old.jobs) (option_map (λ file. file.now) c.args.last) (g.H.Host.stands old.host) (logs_of c.args.logs.now) c.requires.may
          (g.H.Host.stands new.host) (logs_of c.read_log.new.logs) c.new-counts.result.items c.read_log.new.counts.items c.new-counts.ensures.items c.in_ok-read_log.ensures.read;
      health = c.in_ok-read_log.ensures.health;
      number = c.read_log.ensures.number;
      jobs = c.read_log.ensures.jobs;
    }

pub read_log-requires-in-loop-p : goal.read_log-requires-in-loop-p
read_log-requires-in-loop-p g c =
    let old = c.args.self.now in
    let now = c.loop-p.self in
    let me = me_of old.number old.jobs in
    let last = option_map (λ file. file.now) c.args.last in
    let before = g.H.Host.stands old.host in
    let mid = g.H.Host.stands now.host in
    let left = journals_from ((c.loop-p.p + 1) + 1) (MAX_WORKERS - (c.loop-p.p + 1)) in
    may_go_on me last before (logs_of c.args.logs.now) c.requires.may mid (logs_of c.loop-p.logs) c.loop-p.counts.items (Journal (c.loop-p.p + 1)) left
    (subst (λ (fs : List LogFile). ReadsTo before mid me last (logs_of c.args.logs.now) (logs_of c.loop-p.logs) c.loop-p.counts.items fs)
    (journals_left c.loop-p.p c.loop-p-test.true) c.loop-p.invariant.reads)

pub loop-p-preserved : goal.loop-p-preserved
loop-p-preserved g c =
    let old = c.args.self.now in
    let now = c.loop-p.self in
    let new = c.read_log-in-loop-p.new.self in
    let me = me_of old.number old.jobs in
    let last = option_map (λ file. file.now) c.args.last in
    let before = g.H.Host.stands old.host in
    let mid = g.H.Host.stands now.host in
    let after = g.H.Host.stands new.host in
    let left = journals_from ((c.loop-p.p + 1) + 1) (MAX_WORKERS - (c.loop-p.p + 1)) in
    record {
      reads =
          goes_on me last before (logs_of c.args.logs.now) c.requires.may mid (logs_of c.loop-p.logs) c.loop-p.counts.items (Journal (c.loop-p.p + 1)) left
          (subst (λ (fs : List LogFile). ReadsTo before mid me last (logs_of c.args.logs.now) (logs_of c.loop-p.logs) c.loop-p.counts.items fs)
          (journals_left c.loop-p.p c.loop-p-test.true) c.loop-p.invariant.reads)
          after (logs_of c.read_log-in-loop-p.new.logs) c.read_log-in-loop-p.new.counts.items c.in_ok-read_log-2.ensures.read;
      health = c.in_ok-read_log-2.ensures.health ∙ c.loop-p.invariant.health;
      number = c.read_log-in-loop-p.ensures.number ∙ c.loop-p.invariant.number;
      jobs = c.read_log-in-loop-p.ensures.jobs ∙ c.loop-p.invariant.jobs;
    }

pub returns-in_err-read_log-2-clause-halts : goal.returns-in_err-read_log-2-clause-halts
returns-in_err-read_log-2-clause-halts g c =
    let old = c.args.self.now in
    let now = c.loop-p.self in
    let new = c.read_log-in-loop-p.new.self in
    let me = me_of old.number old.jobs in
    let last = option_map (λ file. file.now) c.args.last in
    let before = g.H.Host.stands old.host in
    let mid = g.H.Host.stands now.host in
    let after = g.H.Host.stands new.host in
    let left = journals_from ((c.loop-p.p + 1) + 1) (MAX_WORKERS - (c.loop-p.p + 1)) in
    let why = c.in_err-read_log-2.ensures.halts in
    let by =
    goes_no_further me last before (logs_of c.args.logs.now) c.requires.may mid (logs_of c.loop-p.logs) c.loop-p.counts.items (Journal (c.loop-p.p + 1)) left
    (subst (λ (fs : List LogFile). ReadsTo before mid me last (logs_of c.args.logs.now) (logs_of c.loop-p.logs) c.loop-p.counts.items fs)
    (journals_left c.loop-p.p c.loop-p-test.true) c.loop-p.invariant.reads)
    after (me_of new.number new.jobs) (option_map logs_of new.logs) why.0 why.2 c.read_log-in-loop-p.ensures.lives in
    in_any c.from_residual-in_err-read_log-2.result (Halts after (me_of new.number new.jobs) (option_map logs_of new.logs) new.halt) (why.0, why.1, by)
