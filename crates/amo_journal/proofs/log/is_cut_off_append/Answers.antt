-- `is_cut_off_append`: its promises, by the lemmas of Splits.
use Rattle.std.proofs.Common.{rules}
use Rattle.amo_journal.proofs.Splits.{next_of}
use Rattle.amo_journal.proofs.log.is_cut_off_append.Goals as goal
use Rattle.amo_journal.proofs.log.is_cut_off_append.Goals.{in-None, in-Some}

pub returns-else-ends-clause-no : goal.returns-else-ends-clause-no
returns-else-ends-clause-no c shut cut = elim c.match-first_line.branch [
  | in-None w ↦ absurd (search rules)
  | in-Some w ↦ search (rules, next_of)
]
