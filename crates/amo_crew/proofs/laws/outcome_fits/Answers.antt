-- `outcome_fits`: its promises, by the lemmas of Fitted.
use Rattle.amo_crew.proofs.Fitted.{fits_givens, workers_fit}
use Rattle.amo_crew.proofs.laws.outcome_fits.Goals as goal

pub returns : goal.returns
returns g c = record {
  fits = λ gg payloads budgets o is. fits_givens (g.W.Work.related c.args._work.now) gg payloads budgets o is;
  workers = λ gg payloads budgets o is. workers_fit (g.W.Work.related c.args._work.now) gg payloads budgets o is;
}
