-- The facts that each pass of a loop of `work` keeps.
use Rattle.amo_driver.specs.Standing.{DoesMore}
use Rattle.amo_driver.specs.Life.{IsGoing}
use Rattle.amo_driver.proofs.working.work.Given as goal

-- the process goes on, and each turn has done a deed
abbrev pub invariant-loop-turn : goal.invariant-loop-turn
invariant-loop-turn g l =
    record {
      goes : IsGoing (g.O.Outside.stands l.outside) l.life;
      done : DoesMore l._turn (g.O.Outside.has_done l.fn.outside) (g.O.Outside.has_done l.outside);
    }
