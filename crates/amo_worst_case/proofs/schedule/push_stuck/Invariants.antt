-- The facts that each pass of a loop of `push_stuck` keeps.
use Rattle.std.proofs.Common.{◌≡◌, ◌++◌, string_bytes}
use Rattle.amo_worst_case.specs.Schedule.{stuck_words}
use Rattle.amo_worst_case.proofs.schedule.push_stuck.Given as goal

-- the words so far are written
abbrev pub invariant-loop-before : goal.invariant-loop-before
invariant-loop-before l = string_bytes l.out ≡ string_bytes l.fn.out ++ stuck_words l.before
