-- The facts that each pass of a loop of `push_untouched` keeps.
use Rattle.std.proofs.Common.{◌≡◌, ◌+◌, ◌++◌, drop}
use Rattle.amo_status.specs.Answers.{untouched_in}
use Rattle.amo_status.proofs.again.push_untouched.Given as goal

abbrev pub invariant-loop-i : goal.invariant-loop-i
invariant-loop-i l = l.found.items ++ untouched_in l.findings l.worker (l.i + 1) (drop l.i l.attempts) ≡ l.fn.found.items ++ untouched_in l.findings l.worker 1 l.attempts
