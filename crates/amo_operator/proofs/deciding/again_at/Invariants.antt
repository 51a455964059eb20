-- The facts that each pass of a loop of `again_at` keeps.
use Rattle.std.proofs.Common.{◌≡◌, map}
use Rattle.amo_run_log.specs.declared.finding.Resolution.TheVariants.{NotDone}
use Rattle.amo_operator.proofs.deciding.again_at.Given as goal

abbrev pub invariant-loop-attempt : goal.invariant-loop-attempt
invariant-loop-attempt l = l.findings.items ≡ map (λ i. record { verdict = NotDone; worker = i.worker; serial = i.serial; time = l.time }) l.yielded
