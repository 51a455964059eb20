-- `seen_lists_begin`: its promises, by the lemmas of Worlds.
use Rattle.std.proofs.Common.{subst}
use Rattle.amo_words.specs.Logs.{AreOwn}
use Rattle.amo_words.proofs.Worlds.{own_start, starts_trans}
use Rattle.amo_words.proofs.laws.seen_lists_begin.Goals as goal

pub returns-clause-later : goal.returns-clause-later
returns-clause-later c = λ log seen first a b. starts_trans log seen first a b

pub returns-clause-turns : goal.returns-clause-turns
returns-clause-turns c = λ g log seen own starts. own_start g seen starts.0 (subst (AreOwn g) starts.1 own)
