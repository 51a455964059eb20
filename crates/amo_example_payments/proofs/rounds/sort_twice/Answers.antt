-- `sort_twice`: its promises, directly from definitions and clauses.
use Rattle.std.proofs.Common.{sym, subst}
use Rattle.amo_crew.specs.Outcomes.{IsOutcome}
use Rattle.amo_crew.specs.declared.outcome.Outcome.{Outcome}
use Rattle.amo_example_payments.specs.declared.day.payment.Payment.{Payment}
use Rattle.amo_example_payments.specs.declared.bank.BankReply.{BankReply}
use Rattle.amo_example_payments.specs.Payments.{Answers}
use Rattle.amo_example_payments.proofs.rounds.sort_twice.Goals as goal

pub returns-in-Ok-sort_out-clause-sorted : goal.returns-in-Ok-sort_out-clause-sorted
returns-in-Ok-sort_out-clause-sorted c givens payloads budgets is named =
    c.in-Ok-sort_out.ensures.sorted givens payloads budgets (subst (λ (o : Outcome Payment BankReply). IsOutcome Answers givens payloads budgets o) (sym c.in-Err.ensures.refused) is) named
