-- `fresh_journals`: what its loop keeps, by the lemmas of Steps.
use Rattle.std.proofs.Common.{sym, subst}
use Rattle.amo_call_log_judge.specs.Seen.{AreFresh}
use Rattle.amo_call_log_judge.proofs.Steps.{fresh_more, one_longer}
use Rattle.amo_call_log_judge.proofs.site.fresh_journals.Goals as goal

pub loop-worker-preserved : goal.loop-worker-preserved
loop-worker-preserved c = record {
  many = one_longer c.loop-worker.journals.items c.push.new.self.items c.new.result c.loop-worker.worker c.in_ok-push.ensures.items c.loop-worker.invariant.many;
  fresh = subst AreFresh (sym c.in_ok-push.ensures.items) (fresh_more c.loop-worker.journals.items c.new.result c.loop-worker.invariant.fresh c.new.ensures);
}
