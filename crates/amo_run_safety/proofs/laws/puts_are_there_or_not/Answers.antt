-- `puts_are_there_or_not`: its promises, by the lemmas of Shown.
use Rattle.amo_run_safety.proofs.Shown.{put_shown, finding_shown}
use Rattle.amo_run_safety.proofs.laws.puts_are_there_or_not.Goals as goal

pub returns-clause-entries : goal.returns-clause-entries
returns-clause-entries c = λ entries more file h. put_shown entries more file h

pub returns-clause-finding : goal.returns-clause-finding
returns-clause-finding c = λ findings finding file h. finding_shown findings finding file h
