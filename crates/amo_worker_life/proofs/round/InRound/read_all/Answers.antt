-- `InRound::read_all`: the premises of its calls, what its loop keeps and its promises, by the
-- lemmas of Clearing.
use Rattle.std.proofs.Common.{◌+◌, ◌-◌, subst, ◌∙◌, List}
use Rattle.amo_params.specs.declared.limits.TheConstants.{MAX_WORKERS}
use Rattle.amo_host.specs.declared.model.LogFile.{LogFile}
use Rattle.amo_host.specs.declared.model.LogFile.TheVariants.{Journal}
use Rattle.amo_host.specs.Logs.{journals_from}
use Rattle.amo_worker_life.specs.Reading.{logs_of, Reads, ReadsOne}
use Rattle.amo_worker_life.specs.Where.{me_of}
use Rattle.amo_worker_life.proofs.Clearing.{goes_on, goes_on_not, journals_left, may_go_on}
use Rattle.amo_worker_life.proofs.round.InRound.read_all.Goals as goal

pub read_one-requires-in-loop-p : goal.read_one-requires-in-loop-p
read_one-requires-in-loop-p g c =
    let old = c.args.self.now in
    let now = c.loop-p.self in
    let me = me_of old.worker.number old.worker.jobs in
    let before = g.H.Host.stands old.worker.host in
    let mid = g.H.Host.stands now.worker.host in
    let left = journals_from ((c.loop-p.p + 1) + 1) (MAX_WORKERS - (c.loop-p.p + 1)) in
    may_go_on me old.lines.items c.args.serial c.args.job before (logs_of old.logs) c.requires.asks mid (logs_of now.logs) (Journal (c.loop-p.p + 1)) left
    (subst (λ (fs : List LogFile). Reads before mid me old.lines.items c.args.serial c.args.job (logs_of old.logs) (logs_of now.logs) fs) (journals_left c.loop-p.p c.loop-p-test.true) c.loop-p.invariant.reads)

pub returns-then-not-branch-2-clause-read : goal.returns-then-not-branch-2-clause-read
returns-then-not-branch-2-clause-read g c =
    let old = c.args.self.now in
    let now = c.loop-p.self in
    let new = c.read_one-in-loop-p.new.self in
    let me = me_of old.worker.number old.worker.jobs in
    let before = g.H.Host.stands old.worker.host in
    let mid = g.H.Host.stands now.worker.host in
    let after = g.H.Host.stands new.worker.host in
    let left = journals_from ((c.loop-p.p + 1) + 1) (MAX_WORKERS - (c.loop-p.p + 1)) in
    goes_on_not me old.lines.items c.args.serial c.args.job before (logs_of old.logs) c.requires.asks mid (logs_of now.logs) (Journal (c.loop-p.p + 1)) left
    (subst (λ (fs : List LogFile). Reads before mid me old.lines.items c.args.serial c.args.job (logs_of old.logs) (logs_of now.logs) fs) (journals_left c.loop-p.p c.loop-p-test.true) c.loop-p.invariant.reads)
    after (logs_of new.logs)
    (subst (λ b. ReadsOne b mid after (Journal (c.loop-p.p + 1)) (logs_of now.logs) (logs_of new.logs)) c.if-not-branch-2.true c.in_ok-read_one-2.ensures.read)

pub loop-p-preserved : goal.loop-p-preserved
loop-p-preserved g c =
    let old = c.args.self.now in
    let now = c.loop-p.self in
    let new = c.read_one-in-loop-p.new.self in
    let me = me_of old.worker.number old.worker.jobs in
    let before = g.H.Host.stands old.worker.host in
    let mid = g.H.Host.stands now.worker.host in
    let after = g.H.Host.stands new.worker.host in
    let left = journals_from ((c.loop-p.p + 1) + 1) (MAX_WORKERS - (c.loop-p.p + 1)) in
    record {
      reads =
          goes_on me old.lines.items c.args.serial c.args.job before (logs_of old.logs) c.requires.asks mid (logs_of now.logs) (Journal (c.loop-p.p + 1)) left
          (subst (λ (fs : List LogFile). Reads before mid me old.lines.items c.args.serial c.args.job (logs_of old.logs) (logs_of now.logs) fs) (journals_left c.loop-p.p c.loop-p-test.true) c.loop-p.invariant.reads)
          after (logs_of new.logs)
          (subst (λ b. ReadsOne b mid after (Journal (c.loop-p.p + 1)) (logs_of now.logs) (logs_of new.logs)) c.if-not-branch-2.false c.in_ok-read_one-2.ensures.read);
      health = c.in_ok-read_one-2.ensures.health ∙ c.loop-p.invariant.health;
      number = c.read_one-in-loop-p.ensures.number ∙ c.loop-p.invariant.number;
      jobs = c.read_one-in-loop-p.ensures.jobs ∙ c.loop-p.invariant.jobs;
      lines = c.read_one-in-loop-p.ensures.lines ∙ c.loop-p.invariant.lines;
    }
