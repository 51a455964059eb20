-- The facts that each pass of a loop of `untouched` keeps.
use Rattle.std.proofs.Common.{◌≡◌, ◌+◌, ◌++◌, drop, map}
use Rattle.amo_status.specs.Answers.{untouched_of}
use Rattle.amo_status.proofs.again.untouched.Given as goal

abbrev pub invariant-loop-p : goal.invariant-loop-p
invariant-loop-p l = l.found.items ++ untouched_of l.findings (l.p + 1) (map (λ journal. journal.items) (drop l.p l.journals)) ≡ untouched_of l.findings 1 (map (λ journal. journal.items) l.journals)
