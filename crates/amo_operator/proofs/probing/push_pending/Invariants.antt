-- The facts that each pass of a loop of `push_pending` keeps.
use Rattle.std.proofs.Common.{◌≡◌, ◌++◌, map}
use Rattle.amo_operator.proofs.probing.push_pending.Given as goal

abbrev pub invariant-loop-serial : goal.invariant-loop-serial
invariant-loop-serial l = l.left.items ≡ l.fn.left.items ++ map (λ p. record { worker = l.worker; serial = p.0 }) l.yielded
