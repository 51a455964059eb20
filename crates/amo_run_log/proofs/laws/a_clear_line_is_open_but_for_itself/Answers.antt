-- `a_clear_line_is_open_but_for_itself`: its promises, by the lemmas of ClearLaws.
use Rattle.amo_run_log.proofs.ClearLaws.{law_open_without, law_clear_with}
use Rattle.amo_run_log.proofs.laws.a_clear_line_is_open_but_for_itself.Goals as goal

pub returns-clause-is : goal.returns-clause-is
returns-clause-is c count findings before after attempts next serial line time put clear = law_open_without count findings before after attempts next serial line time put clear

pub returns-clause-only : goal.returns-clause-only
returns-clause-only c count findings before after attempts next serial line time put is_it = law_clear_with count findings before after attempts next serial line time put is_it
