-- The facts that each pass of a loop of `judge` keeps.
use Rattle.std.proofs.Common.{◌≡◌, take, drop}
use Rattle.amo_kk.specs.Object.{first_object}
use Rattle.amo_kk.specs.Run.{object_after_all, IsRun, first_bad}
use Rattle.amo_world.proofs.Verdicts.{later}
use Rattle.amo_world.proofs.judging.judge.Given as goal

abbrev pub invariant-loop-event : goal.invariant-loop-event
invariant-loop-event l =
    record {
      givens : l.state.givens ≡ l.fn.givens;
      place : l.place ≡ l.event-index;
      run : IsRun l.fn.givens (first_object l.fn.givens) (take l.event-index l.events);
      object : l.state.object ≡ object_after_all (first_object l.fn.givens) (take l.event-index l.events);
      rest : first_bad l.fn.givens (first_object l.fn.givens) l.events ≡ later l.event-index (first_bad l.fn.givens l.state.object (drop l.event-index l.events));
    }
