-- The facts that each pass of a loop of `first_misplaced` keeps.
use Rattle.std.proofs.Common.{◌≡◌, ◌<◌, ℕ, true, map, take, Some}
use Rattle.std.specs.Prelude.{slice_get}
use Rattle.amo_run_log.specs.Findings.{may_join}
use Rattle.amo_run_log.specs.declared.finding.Finding.{Finding}
use Rattle.amo_run_log.proofs.finding.first_misplaced.Given as goal

abbrev pub invariant-loop-i : goal.invariant-loop-i
invariant-loop-i l = (k : ℕ) (f : Finding) → k < l.i → slice_get l.findings k ≡ Some f → may_join (map (λ journal. journal.items) l.journals) (take k l.findings) f ≡ true
