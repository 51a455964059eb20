-- The facts that each pass of a loop of `ends_in` keeps.
use Rattle.std.proofs.Common.{◌≡◌, ◌++◌, drop}
use Rattle.amo_run_files.proofs.Ends.{ends_from}
use Rattle.amo_run_files.proofs.lines.ends_in.Given as goal

abbrev pub invariant-loop-i : goal.invariant-loop-i
invariant-loop-i l = l.ends.items ++ ends_from l.i (drop l.i l.bytes) ≡ ends_from 0 l.bytes
