-- `has_top_keys`: what its loop keeps, by the lemmas of TreeLemmas.
use Rattle.std.proofs.Common.{rules, ◌≡◌}
use Rattle.std.specs.BTreeMap.{keys}
use Rattle.amo_plan.specs.Top.{is_top_key}
use Rattle.amo_plan.proofs.TreeLemmas.{keys_of_members}
use Rattle.amo_plan.proofs.top.has_top_keys.Goals as goal

pub loop-key-init : goal.loop-key-init
loop-key-init c =
    let all : c.into_iter-key-iterator.result ≡ keys c.args.table.now = search rules in
    rw all (keys_of_members (is_top_key c.args.with_block) c.args.table.now.entries)
