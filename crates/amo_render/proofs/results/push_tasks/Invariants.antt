-- The facts that each pass of a loop of `push_tasks` keeps.
use Rattle.std.proofs.Common.{◌≡◌, ◌++◌, ◌+◌, drop, true, string_bytes}
use Rattle.amo_plan.specs.Keeps.{all_fit}
use Rattle.amo_render.specs.Results.{result_lines}
use Rattle.amo_render.proofs.results.push_tasks.Given as goal

-- what is written and the lines to come are what was there and all lines
abbrev pub invariant-loop-i : goal.invariant-loop-i
invariant-loop-i l = record {
  lines : string_bytes l.out ++ result_lines (l.before + l.i + 1) (drop l.i l.names) (drop l.i l.tasks) ≡ string_bytes l.fn.out ++ result_lines (l.before + 1) l.names l.tasks;
  fit : all_fit (drop l.i l.tasks) ≡ true;
}
