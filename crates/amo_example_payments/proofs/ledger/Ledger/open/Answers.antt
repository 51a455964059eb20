-- `Ledger::open`: what its type keeps, directly from definitions and clauses.
use Rattle.std.proofs.Common.{List, ap, ◌∙◌}
use Rattle.amo_run_log.specs.declared.journal.Attempt.{Attempt}
use Rattle.amo_example_payments.specs.Restarts.{has_intent}
use Rattle.amo_example_payments.proofs.ledger.Ledger.open.Goals as goal

pub invariant_of-result-clause-intended : goal.invariant_of-result-clause-intended
invariant_of-result-clause-intended g c _ = ∣ (λ id. c.in_ok-earlier.ensures.intents id ∙ ap (λ (xs : List Attempt). has_intent xs id) c.deref-3.ensures.value) ∣₁
