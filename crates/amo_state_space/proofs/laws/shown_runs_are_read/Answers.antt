-- `shown_runs_are_read`: its promises, by the lemmas of ReadTurns.
use Rattle.amo_state_space.proofs.ReadTurns.{turns_read}
use Rattle.amo_state_space.proofs.laws.shown_runs_are_read.Goals as goal

pub returns : goal.returns
returns c = λ version g turns run short. turns_read version g turns run short
