-- `settlements_say_what_words_say`: its promises, by the lemmas of Told.
use Rattle.amo_words.proofs.Told.{dones_one, claims_one, idle}
use Rattle.amo_words.proofs.laws.settlements_say_what_words_say.Goals as goal

pub returns : goal.returns
returns g c = record {
  dones = λ x s p read o. dones_one x s read p o;
  claims = λ x s p read o. claims_one x s read p o;
  idle = λ x s p read o. idle x s read p o;
}
