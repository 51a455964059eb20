-- The facts that each pass of a loop of `first_difference` keeps.
use Rattle.std.proofs.Common.{◌≡◌, ◌+◌, take}
use Rattle.amo_run_files.proofs.Differences.{line_feeds}
use Rattle.amo_run_files.proofs.difference.first_difference.Given as goal

abbrev pub invariant-loop-i : goal.invariant-loop-i
invariant-loop-i l = (take l.i l.known ≡ take l.i l.file) × (l.line ≡ line_feeds (take l.i l.known) + 1)
