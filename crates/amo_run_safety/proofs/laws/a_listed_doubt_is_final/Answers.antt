-- `a_listed_doubt_is_final`: its promises, by the lemmas of Begun.
use Rattle.amo_run_safety.proofs.Begun.{listed_is_final, listed_sends, listed_arrives}
use Rattle.amo_run_safety.proofs.laws.a_listed_doubt_is_final.Goals as goal

pub returns-clause-here : goal.returns-clause-here
returns-clause-here c = λ p n line before after h may one same. listed_is_final p n line before after may h one same

pub returns-clause-sends : goal.returns-clause-sends
returns-clause-sends c = λ p n line before mid after h may same. listed_sends p n line before mid after h may same

pub returns-clause-arrives : goal.returns-clause-arrives
returns-clause-arrives c = λ p n line before mid after h may same. listed_arrives p n line before mid after h may same
