-- `schedules_say_the_worst_moves`: its promises, by the lemmas of ReadWords.
use Rattle.amo_worst_case.proofs.ReadWords.{schedule_read}
use Rattle.amo_worst_case.proofs.laws.schedules_say_the_worst_moves.Goals as goal

pub returns : goal.returns
returns c = λ version g short. schedule_read version g short
