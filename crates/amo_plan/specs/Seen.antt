-- The types of the code, as contracts see them.
use Rattle.std.specs.Prelude.{map, option_map}
use Rattle.toml.specs.View.{table_view}
use Rattle.amo_plan.specs.declared.top.Top.{Top as TopCode}
use Rattle.amo_plan.specs.declared.top.More.{More}
use Rattle.amo_plan.specs.Top.{TopSeen, MoreSeen}

-- what the values that may be absent say
abbrev pub more_seen : More → MoreSeen
more_seen m = record { schedule = m.schedule.now; rounds = m.rounds; budgets = option_map (λ v. v.items) m.budgets }

-- what the top level says
abbrev pub top_seen : TopCode → TopSeen
top_seen t = record {
  form = t.form;
  workers = t.workers;
  beta = t.beta;
  jobs = map (λ x. table_view x.now) t.jobs.items;
  more = more_seen t.more;
}
