-- The facts that each pass of a loop of `place_in` keeps.
use Rattle.std.proofs.Common.{◌≡◌, ◌+◌, map, drop}
use Rattle.amo_judge.specs.Roll.{place_in}
use Rattle.amo_judge.proofs.roll.place_in.Given as goal

-- these and the place among those to come are the place
abbrev pub invariant-loop-i : goal.invariant-loop-i
invariant-loop-i l = l.i + place_in l.name (map (λ word. word.now) (drop l.i l.words)) ≡ place_in l.name (map (λ word. word.now) l.words)
