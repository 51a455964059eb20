-- `Life::hand_over`: its promises, directly from definitions and clauses.
use Rattle.std.proofs.Common.{subst}
use Rattle.amo_driver.specs.Stage.{Intending}
use Rattle.amo_driver.proofs.life.Life.hand_over.Goals as goal

pub returns-then-self-clause-stops : goal.returns-then-self-clause-stops
returns-then-self-clause-stops g c = (
  c.args.self.now.process,
  c.args.job,
  subst (λ n. g.O.Outside.stands c.args.outside.now (Intending n c.args.self.now.process c.args.job)) c.if-self.true c.requires.claimed,
)
