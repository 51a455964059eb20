-- `attempts_fail_by_their_own_job`: its promises, by the lemmas of Worlds (amo_kk) and Meetings.
use Rattle.std.proofs.Common.{false}
use Rattle.amo_kk.specs.World.{opening_world}
use Rattle.amo_kk.proofs.Worlds.{opening_lawful}
use Rattle.amo_trace.proofs.Meetings.{decided, opening_stands}
use Rattle.amo_trace.proofs.laws.attempts_fail_by_their_own_job.Goals as goal

pub returns : goal.returns
returns c g moves before after s e = decided g (opening_world g) 1 moves g.limits (opening_lawful g g.limits) (λ _. false) (opening_stands g) before after s e
