-- The facts that each pass of a loop of `has_top_keys` keeps.
use Rattle.std.proofs.Common.{◌≡◌, string_bytes}
use Rattle.std.specs.List.{list_all}
use Rattle.toml.specs.View.{table_view}
use Rattle.amo_plan.specs.Tree.{each_key}
use Rattle.amo_plan.specs.Top.{is_top_key}
use Rattle.amo_plan.proofs.top.has_top_keys.Given as goal

-- the keys to come decide
abbrev pub invariant-loop-key : goal.invariant-loop-key
invariant-loop-key l = list_all (λ k. is_top_key l.with_block (string_bytes k)) l.key-iterator ≡ each_key (is_top_key l.with_block) (table_view l.table)
