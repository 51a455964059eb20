-- The facts that each pass of a loop of `send` keeps.
use Rattle.std.proofs.Common.{◌≡◌, ◌++◌, map}
use Rattle.std.specs.Vec.Iter.{into_iter_items}
use Rattle.amo_hello.proofs.send.Given as goal

abbrev pub invariant-loop-output : goal.invariant-loop-output
invariant-loop-output g l = map (λ t. t.0) l.sent.items ++ map (λ x. x.job) (into_iter_items l.output-iterator) ≡ map (λ x. x.job) l.outcome.outputs.items

abbrev pub invariant-loop-job : goal.invariant-loop-job
invariant-loop-job g l = map (λ t. t.0) l.sent.items ++ map (λ t. t.0) (into_iter_items l.job-iterator) ≡ map (λ x. x.job) l.outcome.outputs.items ++ map (λ t. t.0) l.settlement.free.items
