-- The facts that each pass of a loop of `run_until` keeps.
use Rattle.std.proofs.Common.{◌≤◌, vec_capacity}
use Rattle.amo_claims.specs.Calls.{worker_in}
use Rattle.amo_example_payments.specs.Stopping.{HasPaid, IsEmpty, EndsIfOver}
use Rattle.amo_example_payments.proofs.stopping.run_until.Given as goal

abbrev pub invariant-loop : goal.invariant-loop
invariant-loop g l = HasPaid (g.W.Work.related l.work) l.fn.worker (worker_in l.after) l.outputs.items × IsEmpty (worker_in l.after) × EndsIfOver l.after × (l.fn.worker.view.givens.jobs ≤ vec_capacity l.outputs)
