-- The facts that each pass of a loop of `texts_of` keeps.
use Rattle.std.proofs.Common.{◌≡◌, ◌++◌, drop, map}
use Rattle.amo_operator.proofs.report.texts_of.Given as goal

abbrev pub invariant-loop-k : goal.invariant-loop-k
invariant-loop-k l = l.jobs ≡ map (λ t. t.now) l.texts.items ++ drop l.k l.jobs
