-- The sequential object: its states and its steps.
use Rattle.std.specs.Prelude.{ℕ, ◌+◌, Bool, true, false, not, ◌&&◌, [], ◌∷◌, ◌++◌, length, nat_le, ◌==◌}
use Rattle.amo_sets.specs.Lists.{numbered, put, table}
use Rattle.amo_sets.specs.Sets.{has, without_number}
use Rattle.amo_params.specs.Givens.{is_within}
use Rattle.amo_params.specs.declared.givens.Givens.{Givens}
use Rattle.amo_kk.specs.declared.event.Event.{Event}
use Rattle.amo_kk.specs.declared.event.Event.TheVariants.{Claimed, Done, Ended, Halted, Left}
use Rattle.amo_kk.specs.declared.model.Object.{Object}

-- at first no job is claimed, nobody has a job in hand, nothing is performed and nobody is gone
abbrev pub first_object : Givens → Object
first_object g =
    record {
      unclaimed = table g.jobs (λ j. j);
      in_hand = table g.workers (λ _. 0);
      performed = [];
      gone = table g.workers (λ _. false);
    }

-- p is a worker that isn't gone
abbrev pub is_here : Givens → Object → ℕ → Bool
is_here g s p = is_within g.workers p && not (numbered true s.gone p)

-- worker p has j in its hand; with 0 for j, it has nothing in its hand
abbrev pub has_in_hand : Object → ℕ → ℕ → Bool
has_in_hand s p j = numbered 0 s.in_hand p == j

-- whether the event is a step of the object from this state
abbrev pub is_step : Givens → Object → Event → Bool
is_step g s (Claimed p j) = is_here g s p && (is_within g.jobs j && (has_in_hand s p 0 && has s.unclaimed j))
is_step g s (Done p j) = is_here g s p && (is_within g.jobs j && has_in_hand s p j)
is_step g s (Ended p) = is_here g s p && (has_in_hand s p 0 && nat_le (g.jobs + 2) (length s.performed + g.beta + g.workers))
is_step g s (Halted p) = is_here g s p
is_step g s (Left p) = is_here g s p && has_in_hand s p 0

-- the state after the step
abbrev pub object_after : Object → Event → Object
object_after s (Claimed p j) = record s { unclaimed = without_number j s.unclaimed; in_hand = put s.in_hand p j }
object_after s (Done p j) = record s { in_hand = put s.in_hand p 0; performed = s.performed ++ (p, j) ∷ [] }
object_after s (Ended p) = record s { gone = put s.gone p true }
object_after s (Halted p) = record s { gone = put s.gone p true }
object_after s (Left p) = record s { gone = put s.gone p true }
