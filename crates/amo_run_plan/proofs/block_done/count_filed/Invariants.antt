-- The facts that each pass of a loop of `count_filed` keeps.
use Rattle.std.proofs.Common.{◌≡◌, ◌≤◌, length}
use Rattle.amo_run_plan.specs.Noted.{filed_blocks}
use Rattle.amo_run_plan.proofs.block_done.count_filed.Given as goal

-- those so far are counted
abbrev pub invariant-loop-noted : goal.invariant-loop-noted
invariant-loop-noted l = record {
  few : l.count ≤ l.noted-index;
  all : l.count ≡ length (filed_blocks l.filed l.noted-index);
}
