-- `a_stepped_process_stands_by_its_list`: its promises, by the lemmas of Stepped.
use Rattle.amo_process.proofs.Stepped.{stepped_stands}
use Rattle.amo_process.proofs.laws.a_stepped_process_stands_by_its_list.Goals as goal

pub returns : goal.returns
returns c = λ g p heard. stepped_stands g p heard
