-- The facts that each pass of a loop of `ascends` keeps.
use Rattle.std.proofs.Common.{◌≡◌, drop}
use Rattle.amo_run_files.specs.Records.{ascends_from}
use Rattle.amo_run_files.proofs.header.ascends.Given as goal

abbrev pub invariant-loop-line : goal.invariant-loop-line
invariant-loop-line l = ascends_from l.low (drop l.line-index l.lines) ≡ ascends_from 0 l.lines
