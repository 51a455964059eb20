-- The facts that each pass of a loop of `has_job_keys` keeps.
use Rattle.std.proofs.Common.{◌≡◌, string_bytes}
use Rattle.std.specs.List.{list_all}
use Rattle.toml.specs.View.{table_view}
use Rattle.amo_plan.specs.Tree.{is_known, each_key}
use Rattle.amo_plan.specs.Jobs.{job_keys}
use Rattle.amo_plan.proofs.job.has_job_keys.Given as goal

-- the keys to come decide
abbrev pub invariant-loop-key : goal.invariant-loop-key
invariant-loop-key l = list_all (λ k. is_known job_keys (string_bytes k)) l.key-iterator ≡ each_key (is_known job_keys) (table_view l.table)
