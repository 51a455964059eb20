-- `run_one`: its promises, by the lemmas of Seconds.
use Rattle.std.proofs.Common.{rules, refl, subst}
use Rattle.amo_words.specs.Faces.{Seated, spots}
use Rattle.amo_words.specs.Settling.{IsWhole}
use Rattle.amo_example_payments.proofs.Seconds.{rest_of}
use Rattle.amo_example_payments.proofs.second.run_one.Goals as goal

pub returns-in-Ok-settle : goal.returns-in-Ok-settle
returns-in-Ok-settle g c =
    record { rest = rest_of _ _ _ _ _ _ _ _ c.requires.alone.0 c.requires.alone.1 c.in-Ok.ensures.hired.1 c.run_until-gone.ensures.paid c.run_until-gone.ensures.empty c.collect.ensures.collected c.in-Ok-settle.ensures.whole _ refl refl; fault = tt }

pub returns-in-Err-clause-fault : goal.returns-in-Err-clause-fault
returns-in-Err-clause-fault g c = (
  search rules,
  λ s r whole outputs free. rest_of _ _ _ _ _ _ _ s c.requires.alone.0 c.requires.alone.1 c.in-Ok.ensures.hired.1 c.run_until-gone.ensures.paid c.run_until-gone.ensures.empty c.collect.ensures.collected
      (subst (λ (b : Seated g.row.P.Denot). IsWhole b.view.givens b.view.payloads b.view.seen (spots b) s) c.in-Err.ensures.refused.1 whole) r outputs free,
)
