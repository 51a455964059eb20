-- The facts that each pass of a loop of `end_of` keeps.
use Rattle.std.proofs.Common.{◌≡◌, ◌+◌, drop}
use Rattle.amo_judge.specs.Why.{is_end_of, first_from}
use Rattle.amo_judge.proofs.before.end_of.Given as goal

-- the events to come decide
abbrev pub invariant-loop-i : goal.invariant-loop-i
invariant-loop-i l = first_from (is_end_of l.p) (l.i + 1) (drop l.i l.events) ≡ first_from (is_end_of l.p) 1 l.events
