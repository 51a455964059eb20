-- The facts that each pass of a loop of `none_started` keeps.
use Rattle.std.proofs.Common.{◌≡◌, replicate, vec_capacity}
use Rattle.amo_crew.specs.declared.outcome.End.TheVariants.{NotStarted}
use Rattle.amo_crew.proofs.settle.calling_off.none_started.Given as goal

abbrev pub invariant-loop : goal.invariant-loop
invariant-loop l = (l.ends.items ≡ replicate l.counter NotStarted) × (vec_capacity l.ends ≡ vec_capacity l.initial.ends)
