-- The facts that each pass of a loop of `add_free` keeps.
use Rattle.std.proofs.Common.{◌≡◌, ◌++◌, map}
use Rattle.amo_example_payments.proofs.rounds.add_free.Given as goal

abbrev pub invariant-loop-payment : goal.invariant-loop-payment
invariant-loop-payment l = l.list.items ≡ l.initial.list.items ++ map (λ t. t.1) l.yielded
