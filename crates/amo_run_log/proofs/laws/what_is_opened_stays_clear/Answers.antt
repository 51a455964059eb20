-- `what_is_opened_stays_clear`: its promises, by the lemmas of ClearLaws.
use Rattle.amo_run_log.proofs.ClearLaws.{law_findings, law_entries}
use Rattle.amo_run_log.proofs.laws.what_is_opened_stays_clear.Goals as goal

pub returns-clause-findings : goal.returns-clause-findings
returns-clause-findings c findings more journals own line clear = law_findings findings more journals own line clear

pub returns-clause-entries : goal.returns-clause-entries
returns-clause-entries c count findings before after attempts next own line entry isnt is clear = law_entries findings own line count before after attempts next entry isnt is clear
