-- The facts that each pass of a loop of `claim_of` keeps.
use Rattle.std.proofs.Common.{◌≡◌, ◌+◌, drop}
use Rattle.amo_judge.specs.Why.{is_claim_of, first_from}
use Rattle.amo_judge.proofs.before.claim_of.Given as goal

-- the events to come decide
abbrev pub invariant-loop-i : goal.invariant-loop-i
invariant-loop-i l = first_from (is_claim_of l.j) (l.i + 1) (drop l.i l.events) ≡ first_from (is_claim_of l.j) 1 l.events
