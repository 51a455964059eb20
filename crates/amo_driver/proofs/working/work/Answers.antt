-- `work`: its promises, directly from definitions and clauses.
use Rattle.std.proofs.Common.{arith}
use Rattle.amo_driver.proofs.working.work.Goals as goal

pub returns-clause-stops : goal.returns-clause-stops
returns-clause-stops g c =
    let l = c.loop-turn in
    (l.life.next, l.life.process, l.life.way, l.invariant.goes.0, λ n done. let it = l.invariant.done n done in (it.0, omega (arith, it.1), it.2))
