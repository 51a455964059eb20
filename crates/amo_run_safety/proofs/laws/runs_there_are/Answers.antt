-- `runs_there_are`: its promises, by the lemmas of Example.
use Rattle.amo_run_safety.proofs.Example.{events, truly, is_run, names, lines, unperformed}
use Rattle.amo_run_safety.proofs.laws.runs_there_are.Goals as goal

pub returns : goal.returns
returns c = (truly, events, is_run, unperformed, names, lines)
