-- `each_job_has_a_place`: its promises, by the lemmas of Once and Places.
use Rattle.amo_crew.proofs.Once.{in_hand_once, free_once}
use Rattle.amo_crew.proofs.Places.{has_a_place, has_a_place_or, outputs_told}
use Rattle.amo_crew.proofs.laws.each_job_has_a_place.Goals as goal

pub returns : goal.returns
returns g c = record {
  place = λ gg payloads budgets o j is started job. has_a_place (g.W.Work.related c.args._work.now) gg payloads budgets o is started j job;
  unstarted = λ gg payloads budgets o j is job. has_a_place_or (g.W.Work.related c.args._work.now) gg payloads budgets o is j job;
  hands = λ gg payloads budgets o is. in_hand_once (g.W.Work.related c.args._work.now) gg payloads budgets o is;
  free = λ gg payloads budgets o is. free_once (g.W.Work.related c.args._work.now) gg payloads budgets o is;
  told = λ gg payloads budgets o p is ran. outputs_told (g.W.Work.related c.args._work.now) gg payloads budgets o is p ran;
}
