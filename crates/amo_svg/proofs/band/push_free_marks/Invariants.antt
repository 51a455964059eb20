-- The facts that each pass of a loop of `push_free_marks` keeps.
use Rattle.std.proofs.Common.{◌≡◌, ◌++◌, drop, string_bytes}
use Rattle.amo_svg.specs.Band.{free_marks}
use Rattle.amo_svg.proofs.band.push_free_marks.Given as goal

-- what is written and the marks to come are what was there and all marks
abbrev pub invariant-loop-job : goal.invariant-loop-job
invariant-loop-job l = string_bytes l.out ++ free_marks l.jobs l.y (drop l.job-index l.unclaimed) ≡ string_bytes l.fn.out ++ free_marks l.jobs l.y l.unclaimed
