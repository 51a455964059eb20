-- `lines_are_told_apart`: its promises, by the lemmas of SayingTexts.
use Rattle.std.specs.Prelude.{codes}
use Rattle.amo_runner_protocol.proofs.SayingTexts.{told_apart, words_differ, over_differs}
use Rattle.amo_runner_protocol.proofs.laws.lines_are_told_apart.Goals as goal

pub returns-clause-perform : goal.returns-clause-perform
returns-clause-perform c s l k m t u fs fl fk fm e = told_apart (codes "perform") s l k m t u fs fl fk fm e

pub returns-clause-was : goal.returns-clause-was
returns-clause-was c s l k m t u fs fl fk fm e = told_apart (codes "was") s l k m t u fs fl fk fm e

pub returns-clause-words : goal.returns-clause-words
returns-clause-words c s l k m t u = words_differ s l k m t u

pub returns-clause-over : goal.returns-clause-over
returns-clause-over c s l t = over_differs s l t
