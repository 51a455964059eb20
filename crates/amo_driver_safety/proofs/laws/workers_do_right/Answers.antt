-- `workers_do_right`: its promises, by the lemmas of Logs.
use Rattle.amo_driver_safety.proofs.Logs.{call_may_be, deed_may_be}
use Rattle.amo_driver_safety.proofs.laws.workers_do_right.Goals as goal

pub returns-clause-calls : goal.returns-clause-calls
returns-clause-calls c = λ g ms p l t h o is may. call_may_be g p o ms l t h is may

pub returns-clause-deeds : goal.returns-clause-deeds
returns-clause-deeds c = λ g ms p l d h o is due true_there. deed_may_be g p o ms l d h is due true_there
