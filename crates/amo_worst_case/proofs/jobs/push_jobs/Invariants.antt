-- The facts that each pass of a loop of `push_jobs` keeps.
use Rattle.std.proofs.Common.{◌≡◌, ◌++◌, drop, string_bytes}
use Rattle.amo_worst_case.specs.Text.{all_job_lines}
use Rattle.amo_worst_case.proofs.jobs.push_jobs.Given as goal

-- what is written and the lines to come are what was there and all lines
abbrev pub invariant-loop-i : goal.invariant-loop-i
invariant-loop-i l = string_bytes l.out ++ all_job_lines (drop l.i l.names) (drop l.i l.tasks) ≡ string_bytes l.fn.out ++ all_job_lines l.names l.tasks
