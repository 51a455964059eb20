-- `Life::turn`: its promises, directly from definitions and clauses.
use Rattle.std.proofs.Common.{sym, ◌∙◌}
use Rattle.amo_driver.proofs.life.Life.turn.Goals as goal

pub returns-in-Nothing-clause-turns : goal.returns-in-Nothing-clause-turns
returns-in-Nothing-clause-turns g c =
    let l = c.args.self.now in
    (l.next, l.process, l.way, c.requires.goes.0, sym c.want.ensures.access ∙ c.in-Nothing.is, c.requires.goes.1)
