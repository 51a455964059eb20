-- `entries_are_read_back`: its promises, by the lemmas of AppendTexts.
use Rattle.amo_run_log.proofs.AppendTexts.{entries_read, entries_printed, same_appends}
use Rattle.amo_run_log.proofs.laws.entries_are_read_back.Goals as goal

pub returns-clause-back : goal.returns-clause-back
returns-clause-back c appends fit = entries_read appends fit

pub returns-clause-printed : goal.returns-clause-printed
returns-clause-printed c texts entries h = entries_printed texts entries h

pub returns-clause-once : goal.returns-clause-once
returns-clause-once c appends others fit fits same = same_appends appends others fit fits same
