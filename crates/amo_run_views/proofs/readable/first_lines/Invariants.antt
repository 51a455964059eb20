-- The facts that each pass of a loop of `first_lines` keeps.
use Rattle.std.proofs.Common.{◌≡◌, ◌⊎◌, ◌+◌, ◌-◌, ◌==◌, Some, take, count_by}
use Rattle.std.specs.List.{slice_get}
use Rattle.amo_run_views.proofs.readable.first_lines.Given as goal

-- so many lines were passed, and the last byte before the front's end ends a line
abbrev pub invariant-loop-i : goal.invariant-loop-i
invariant-loop-i l = record {
  lines : count_by (λ b. b == 10) (take l.i l.bytes) + l.left ≡ l.count;
  last : l.left ≡ 0 → (l.i ≡ 0) ⊎ (slice_get l.bytes (l.i - 1) ≡ Some 10);
}
