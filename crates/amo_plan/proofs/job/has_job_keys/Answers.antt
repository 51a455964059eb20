-- `has_job_keys`: what its loop keeps, by the lemmas of TreeLemmas.
use Rattle.std.proofs.Common.{rules, ◌≡◌}
use Rattle.std.specs.BTreeMap.{keys}
use Rattle.amo_plan.specs.Tree.{is_known}
use Rattle.amo_plan.specs.Jobs.{job_keys}
use Rattle.amo_plan.proofs.TreeLemmas.{keys_of_members}
use Rattle.amo_plan.proofs.job.has_job_keys.Goals as goal

pub loop-key-init : goal.loop-key-init
loop-key-init c =
    let all : c.into_iter-key-iterator.result ≡ keys c.args.table.now = search rules in
    rw all (keys_of_members (is_known job_keys) c.args.table.now.entries)
