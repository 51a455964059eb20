-- The facts that each pass of a loop of `push_ends` keeps.
use Rattle.std.proofs.Common.{◌≡◌, ◌++◌, ◌+◌, drop, string_bytes}
use Rattle.amo_run_plan.specs.Became.{listed}
use Rattle.amo_run_plan.specs.OutcomeLines.{end_lines}
use Rattle.amo_run_plan.proofs.outcome_lines.push_ends.Given as goal

-- what is written and the lines to come are what was there and all lines
abbrev pub invariant-loop-i : goal.invariant-loop-i
invariant-loop-i l =
    string_bytes l.out ++ end_lines (l.i + 1) (drop l.i l.ends) (listed (drop l.i l.claims)) (listed (drop l.i l.dones))
    ≡ string_bytes l.fn.out ++ end_lines 1 l.ends (listed l.claims) (listed l.dones)
