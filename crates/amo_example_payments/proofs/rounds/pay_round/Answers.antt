-- `pay_round`: its promises, by the lemmas of RoundLemmas.
use Rattle.std.proofs.Common.{rules}
use Rattle.amo_example_payments.proofs.RoundLemmas.{round_of, run_fault, unsorted}
use Rattle.amo_example_payments.proofs.rounds.pay_round.Goals as goal

pub returns-in-Ok-run_round-clause-sorted : goal.returns-in-Ok-run_round-clause-sorted
returns-in-Ok-run_round-clause-sorted g c =
    round_of c.args.crew c.in-Some.plan.givens c.len.result c.args.payments.items c.deref-in-Ok-run_round.result.now c.in-Some.plan.budgets c.in-Ok-run_round.outcome _ (search rules) (search rules)
    c.in-Some.ensures.givens c.in-Some.ensures.budgets c.in-Ok-run_round.ensures.outcome c.sort_twice.ensures.lists c.sort_twice.ensures.sorted

pub returns-in-Ok-run_round-clause-fault : goal.returns-in-Ok-run_round-clause-fault
returns-in-Ok-run_round-clause-fault g c =
    unsorted c.args.crew c.in-Some.plan.givens c.len.result c.args.payments.items c.in-Some.plan.budgets c.in-Ok-run_round.outcome _ (search rules)
    c.in-Some.ensures.givens c.in-Some.ensures.budgets c.in-Ok-run_round.ensures.outcome c.sort_twice.ensures.fault

pub returns-clause-fault : goal.returns-clause-fault
returns-clause-fault g c =
    run_fault c.args.crew c.in-Some.plan.givens c.len.result c.args.payments.items c.in-Some.plan.budgets c.in-Err.fault (search rules)
    c.in-Some.ensures.givens c.in-Some.ensures.budgets c.in-Err.ensures.fault
