-- `by_which_intent_a_line_stands`: its promises, by the lemmas of ByIntent.
use Rattle.amo_status.proofs.ByIntent.{law_closed, law_open, law_running}
use Rattle.amo_status.proofs.laws.by_which_intent_a_line_stands.Goals as goal

pub returns-clause-closed : goal.returns-clause-closed
returns-clause-closed c findings journals finals line h = law_closed findings journals finals line h

pub returns-clause-opened : goal.returns-clause-opened
returns-clause-opened c findings journals finals line h = law_open findings journals finals line h

pub returns-clause-running : goal.returns-clause-running
returns-clause-running c findings journals finals line p s es e journal at shut running = law_running findings finals line journals p s es e journal at shut running
