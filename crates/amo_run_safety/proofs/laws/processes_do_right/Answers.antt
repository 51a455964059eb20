-- `processes_do_right`: its promises, by the lemmas of Right.
use Rattle.amo_run_safety.proofs.Right.{call_may_come, deed_may_come}
use Rattle.amo_run_safety.proofs.laws.processes_do_right.Goals as goal

pub returns-clause-calls : goal.returns-clause-calls
returns-clause-calls c = λ es p k q r l t run at is log may. call_may_come es run p k q at r is l log t may

pub returns-clause-deeds : goal.returns-clause-deeds
returns-clause-deeds c = λ es p k q r l d run at is log due true_there. deed_may_come es run p k q at r is l log d due true_there
