-- `each_job_is_answered_once`: its promises, by the lemmas of Once.
use Rattle.amo_crew.proofs.Once.{answered_once, answered_not_in_hand, answered_not_free, in_hand_not_free}
use Rattle.amo_crew.proofs.laws.each_job_is_answered_once.Goals as goal

pub returns : goal.returns
returns g c = record {
  once = λ gg payloads budgets o is. answered_once (g.W.Work.related c.args._work.now) gg payloads budgets o is;
  hand = λ gg payloads budgets o j is h. answered_not_in_hand (g.W.Work.related c.args._work.now) gg payloads budgets o is j h;
  free = λ gg payloads budgets o j is h. answered_not_free (g.W.Work.related c.args._work.now) gg payloads budgets o is j h;
  kept = λ gg payloads budgets o j is h. in_hand_not_free (g.W.Work.related c.args._work.now) gg payloads budgets o is j h;
}
