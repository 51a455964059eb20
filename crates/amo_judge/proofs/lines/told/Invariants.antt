-- The facts that each pass of a loop of `told` keeps.
use Rattle.std.proofs.Common.{◌≡◌, ◌+◌, map, drop}
use Rattle.amo_judge.specs.Lines.{told}
use Rattle.amo_judge.proofs.lines.told.Given as goal

-- these and those to come are all
abbrev pub invariant-loop-i : goal.invariant-loop-i
invariant-loop-i l = l.i + told (map (λ line. line.now) (drop l.i l.lines)) ≡ told (map (λ line. line.now) l.lines)
