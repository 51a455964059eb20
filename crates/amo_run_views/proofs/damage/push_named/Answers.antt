-- `push_named`: the intents of one append more.
use Rattle.std.proofs.Common.{◌≡◌, ◌++◌, ◌∙◌, Option, ap, rules}
use Rattle.amo_run_log.specs.Entries.{append_in}
use Rattle.amo_run_log.specs.declared.append.Append.{Append}
use Rattle.amo_run_views.specs.Named.{named_by_append}
use Rattle.amo_run_views.proofs.Intents.{more}
use Rattle.amo_run_views.proofs.damage.push_named.Goals as goal

pub loop-records-preserved : goal.loop-records-preserved
loop-records-preserved c =
    let before = c.loop-records.named.items in
    let same : c.deref.result.now ≡ c.records-item.result.items = search rules in
    let read : c.read.result ≡ append_in c.records-item.result.items = c.read.ensures.exact ∙ ap append_in same in
    more c.args.worker before c.push_append.new.named.items c.records-item.result c.args.log.now.records.items c.loop-records.records-index (search rules) (search rules)
    (c.in_ok-push_append.ensures ∙ ap (λ (append : Option Append). before ++ named_by_append c.args.worker append) read)
    ∙ c.loop-records.invariant
