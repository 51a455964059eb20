-- `plan_in`: its promises, by the lemmas of PlanLemmas.
use Rattle.std.proofs.Common.{rules, ◌≡◌, length}
use Rattle.toml.specs.View.{table_view}
use Rattle.amo_plan.specs.Seen.{top_seen}
use Rattle.amo_plan.proofs.PlanLemmas.{plan_in_is}
use Rattle.amo_plan.proofs.reading.plan_in.Goals as goal

pub returns : goal.returns
returns c =
    let count : c.len.result ≡ length c.in_ok-jobs.jobs.items = search rules in
    rw (plan_in_is (table_view c.args.table.now) (top_seen c.in_ok-top.top) c.in_ok-jobs.jobs.items c.in_ok-givens.givens c.len.result count c.in_ok-top.ensures.top (rw c.deref.ensures.value at c.in_ok-jobs.ensures) c.in_ok-givens.ensures) c.plan_with.ensures
