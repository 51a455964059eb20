-- The facts that each pass of a loop of `named_in` keeps.
use Rattle.std.proofs.Common.{◌≡◌, ◌+◌, ◌++◌, drop, map}
use Rattle.amo_run_views.specs.Named.{log_texts, named_from}
use Rattle.amo_run_views.proofs.damage.named_in.Given as goal

abbrev pub invariant-loop-k : goal.invariant-loop-k
invariant-loop-k l = l.named.items ++ named_from (l.k + 1) (map log_texts (drop l.k l.journals)) ≡ named_from 1 (map log_texts l.journals)
