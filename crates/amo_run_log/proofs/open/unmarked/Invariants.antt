-- The facts that each pass of a loop of `unmarked` keeps.
use Rattle.std.proofs.Common.{◌≡◌, ℕ, ◌+◌, ◌<◌, Bool, false, length, get_or}
use Rattle.std.specs.Prelude.{not}
use Rattle.std.specs.List.{filter}
use Rattle.amo_run_log.specs.Open.{numbers}
use Rattle.amo_run_log.proofs.open.unmarked.Given as goal

abbrev pub invariant-loop-k : goal.invariant-loop-k
invariant-loop-k l = (is_open : ℕ → Bool) → ((k : ℕ) → k < length l.closed → get_or l.closed k false ≡ not (is_open (k + 1))) → l.lines.items ≡ filter is_open (numbers l.k)
