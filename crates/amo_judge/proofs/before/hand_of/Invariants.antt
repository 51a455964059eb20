-- The facts that each pass of a loop of `hand_of` keeps.
use Rattle.std.proofs.Common.{◌≡◌, ◌+◌, drop, None}
use Rattle.amo_judge.specs.Why.{hand_from}
use Rattle.amo_judge.proofs.before.hand_of.Given as goal

-- what is in the hand now, and the events to come, decide
abbrev pub invariant-loop-i : goal.invariant-loop-i
invariant-loop-i l = hand_from l.p l.hand (l.i + 1) (drop l.i l.events) ≡ hand_from l.p None 1 l.events
