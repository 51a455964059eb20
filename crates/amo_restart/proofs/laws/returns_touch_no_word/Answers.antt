-- `returns_touch_no_word`: its promises, by the lemmas of Words.
use Rattle.std.proofs.Common.{refl}
use Rattle.amo_restart.proofs.Words.{words_stay, own_words, any_moment}
use Rattle.amo_restart.proofs.laws.returns_touch_no_word.Goals as goal

pub returns-clause-words : goal.returns-clause-words
returns-clause-words c = λ g t p. words_stay g t p

pub returns-clause-own : goal.returns-clause-own
returns-clause-own c = λ g p a b n k r. own_words g p a b n k r

pub returns-clause-again : goal.returns-clause-again
returns-clause-again c = λ g p a. refl

pub returns-clause-any_moment : goal.returns-clause-any_moment
returns-clause-any_moment c = λ g t p m size n. any_moment g t p m size n
