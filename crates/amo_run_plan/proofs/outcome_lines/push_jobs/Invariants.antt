-- The facts that each pass of a loop of `push_jobs` keeps.
use Rattle.std.proofs.Common.{◌≡◌, ◌++◌, ◌+◌, drop, string_bytes}
use Rattle.amo_run_plan.specs.OutcomeLines.{job_lines}
use Rattle.amo_run_plan.specs.Noted.{noted_fate}
use Rattle.amo_run_plan.proofs.outcome_lines.push_jobs.Given as goal

-- what is written and the lines to come are what was there and all lines
abbrev pub invariant-loop-i : goal.invariant-loop-i
invariant-loop-i l =
    string_bytes l.out ++ job_lines (noted_fate l.notes.outputs.now l.notes.filed.items l.notes.claimers.items) l.block (l.i + 1) (drop l.i l.names)
    ≡ string_bytes l.fn.out ++ job_lines (noted_fate l.notes.outputs.now l.notes.filed.items l.notes.claimers.items) l.block 1 l.names
