-- `run_all`: the premises of its calls, directly from definitions and clauses.
use mathlib.Core.Bool.{Bool, true, false}
use mir.Syntax.{of_param}
use base.Shift.{Keyless}
use denote.Exit.{if_kept, unseen, Last, left}
use denote.Param.Send.{sendable}
use Rattle.amo_crew.proofs.run.threads.run_all.Goals as goal

-- a value of which nothing is seen leaves nothing of a thread's own
quiet : {D : Type 0} (b : Bool) (x : D) (w : Last (if_kept b (unseen {D = D}) (unseen {D = D})) x) → Keyless (left (if_kept b (unseen {D = D}) (unseen {D = D})) x w)
quiet true x w = tt
quiet false x w = tt

pub scoped-requires : goal.scoped-requires
scoped-requires g c = record {
  at = λ s. (
    c.requires.crew,
    (
      c.requires.finishes,
      (
        record { owned = c.type_bounds.send-P.owned; leaving = λ k x w. quiet (k (of_param 0)) x w },
        record { owned = c.type_bounds.send-W-Out.owned; leaving = λ k x w. quiet (k (of_param 3)) x w },
        search (sendable, c.type_bounds.sync-W) depth 20,
        search (sendable, c.type_bounds.sync-R) depth 20,
      ),
    ),
  );
}
