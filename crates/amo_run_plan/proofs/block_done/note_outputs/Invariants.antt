-- The facts that each pass of a loop of `note_outputs` keeps.
use Rattle.std.proofs.Common.{◌≡◌, ◌≤◌, ℕ, None, length, take}
use Rattle.amo_sets.specs.Lists.{numbered}
use Rattle.amo_run_plan.specs.Noted.{is_in, IsNoted}
use Rattle.amo_run_plan.proofs.block_done.note_outputs.Given as goal

-- what is noted is that of the outputs so far
abbrev pub invariant-loop-place : goal.invariant-loop-place
invariant-loop-place l = record {
  count : length l.filed ≡ length l.fn.filed;
  noted : (b : ℕ) → 1 ≤ b → b ≤ length l.fn.filed → IsNoted (is_in l.sets) (take l.place l.outputs) b (numbered None l.filed b);
}
