-- The facts that each pass of a loop of `lines_of` keeps.
use Rattle.std.proofs.Common.{◌≡◌, ◌++◌, [], drop, map}
use Rattle.amo_status.specs.Said.{lines_from}
use Rattle.amo_status.proofs.said.lines_of.Given as goal

abbrev pub invariant-loop-b : goal.invariant-loop-b
invariant-loop-b l = map (λ line. line.items) l.lines.items ++ lines_from (drop l.b-index l.bytes) l.begun.items ≡ lines_from l.bytes []
