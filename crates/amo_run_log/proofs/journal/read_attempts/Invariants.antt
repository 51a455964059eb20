-- The facts that each pass of a loop of `read_attempts` keeps.
use Rattle.std.proofs.Common.{◌≡◌, map, take, Some}
use Rattle.amo_run_log.specs.Journals.{attempts_in}
use Rattle.amo_run_log.proofs.journal.read_attempts.Given as goal

abbrev pub invariant-loop-i : goal.invariant-loop-i
invariant-loop-i l = attempts_in l.count (map (λ text. text.items) (take l.i l.texts)) ≡ Some l.noted.items
