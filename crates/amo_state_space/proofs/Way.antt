-- Turns that were all taken, one after the other.
use Rattle.std.proofs.Common.{◌≡◌, ℕ, suc, ◌-◌, ◌<◌, true, false, List, [], ◌∷◌, ◌++◌, length, map, refl, sym, ap, ◌∙◌, subst, length-append, Option, Some, None, arith}
use Rattle.std.proofs.lemmas.List.{length-map, map-append}
use Rattle.amo_sets.proofs.Tables.{numbered-table}
use Rattle.amo_params.specs.Givens.{IsWorker}
use Rattle.amo_kk.specs.Record.{wants_nothing}
use Rattle.amo_params.specs.Moves.{are_in_range}
use Rattle.amo_kk.specs.World.{nobody, process, first_process, world_of, world_after_turn, opening_world}
use Rattle.amo_params.specs.declared.givens.Givens.{Givens}
use Rattle.amo_params.specs.declared.moves.Move.{Move}
use Rattle.amo_params.specs.declared.moves.Move.TheVariants.{Turn}
use Rattle.amo_kk.specs.declared.model.Process.{Process}
use Rattle.amo_kk.specs.declared.model.World.{World}
use Rattle.amo_kk.proofs.FirstChoice.{first_over}
use Rattle.amo_kk.proofs.Moves.{world_more}
use Rattle.amo_bounds.specs.Fewest.{stopped, leavers}
use Rattle.amo_bounds.specs.Rest.{turns_taken}
use Rattle.amo_world.specs.Views.{WorldView}
use Rattle.amo_state_space.specs.Runs.{IsWholeRun}
use Rattle.amo_state_space.specs.Search.{IsNext}
use Rattle.amo_plan.proofs.WithinLemmas.{in_range-append, one_in_range}
use Rattle.amo_state_space.proofs.Left.{most_taken, few_taken, one_taken}

-- the turns of these workers were all taken, and led to the world
pub record IsOnTheWay (g : Givens) (w : WorldView) (turns : List ℕ) : Type 0 where
  pub led : w ≡ record { givens = g; world = world_of g (map Turn turns) }
  pub in_range : are_in_range g (map Turn turns) ≡ true
  pub taken : turns_taken g (opening_world g) (map Turn turns) ≡ length turns

abbrev turned : WorldView → ℕ → WorldView
turned w p = record { givens = w.givens; world = world_after_turn w.givens w.world p }

-- and one turn more of a worker that isn't gone
pub way_more : (g : Givens) (w v : WorldView) (turns : List ℕ) (p : ℕ) → IsOnTheWay g w turns → IsWorker w.givens p → (process w.world p).gone ≡ false
    → v ≡ record { givens = w.givens; world = world_after_turn w.givens w.world p } → IsOnTheWay g v (turns ++ p ∷ [])
way_more g w v turns p on worker here e = record {
  led = e ∙ ap (λ (x : WorldView). turned x p) on.led ∙ ap leads (sym (world_more g (opening_world g) (map Turn turns) (Turn p)) ∙ ap (world_of g) more);
  in_range = subst (λ (ms : List Move). are_in_range g ms ≡ true) more
      (in_range-append g (map Turn turns) (Turn p ∷ []) on.in_range (one_in_range g (Turn p) (subst (λ (x : WorldView). IsWorker x.givens p) on.led worker)));
  taken = ap (turns_taken g (opening_world g)) (sym more) ∙ one_taken g (map Turn turns) p (subst (λ (x : WorldView). (process x.world p).gone ≡ false) on.led here)
      ∙ ap suc on.taken ∙ omega (arith, length-append turns (p ∷ []));
}
  where
    leads : World → WorldView
    leads x = record { givens = g; world = x }

    more : map Turn turns ++ Turn p ∷ [] ≡ map Turn (turns ++ p ∷ [])
    more = sym (map-append Turn turns (p ∷ []))

-- there are not many
pub way_less : (g : Givens) (w : WorldView) (turns : List ℕ) (p : ℕ) → IsOnTheWay g w (turns ++ p ∷ []) → most_taken g - length (turns ++ p ∷ []) < most_taken g - length turns
way_less g w turns p on =
    let few = few_taken g (map Turn (turns ++ p ∷ [])) in
    let taken = on.taken in
    omega (arith, length-append turns (p ∷ []))

turns_leave : (turns : List ℕ) → leavers (map Turn turns) ≡ []
turns_leave [] = refl
turns_leave (p ∷ ps) = turns_leave ps

turns_stop : (turns : List ℕ) → stopped (map Turn turns) ≡ []
turns_stop [] = refl
turns_stop (p ∷ ps) = turns_stop ps

-- if all are gone they are a whole run
pub way_whole : (g : Givens) (w : WorldView) (turns : List ℕ) → IsOnTheWay g w turns → ((p : ℕ) → IsWorker w.givens p → (process w.world p).gone ≡ true) → IsWholeRun g (map Turn turns)
way_whole g w turns on gone = record {
  comes_to_end = record {
    none_leaves = turns_leave turns;
    few_stops = let some = g.limits.some in omega (arith, ap length (turns_stop turns));
    gone = subst (λ (x : WorldView). (p : ℕ) → IsWorker x.givens p → (process x.world p).gone ≡ true) on.led gone;
  };
  nobody_stops = turns_stop turns;
  in_range = on.in_range;
  all_taken = on.taken ∙ sym (length-map turns Turn);
}

-- with fewer jobs than the threshold no turn is needed: all have ended from birth
pub whole_from_birth : (g : Givens) → g.jobs < g.beta → IsWholeRun g []
whole_from_birth g few = way_whole g (record { givens = g; world = opening_world g }) [] (record { led = refl; in_range = refl; taken = refl })
    (λ p o. ap (λ (x : Process). x.gone) (numbered-table nobody (first_process g) g.workers p o.low o.high) ∙ ap wants_nothing (first_over g p few))

-- the next worker isn't gone; without a next worker, all are gone
pub next_here : (g : Givens) (w : World) (next : Option ℕ) (p : ℕ) → next ≡ Some p → IsNext g w next → IsWorker g p × ((process w p).gone ≡ false)
next_here g w next p e h = subst (λ (n : Option ℕ). IsNext g w n) e h

pub next_none : (g : Givens) (w : World) (next : Option ℕ) → next ≡ None → IsNext g w next → (p : ℕ) → IsWorker g p → (process w p).gone ≡ true
next_none g w next e h = subst (λ (n : Option ℕ). IsNext g w n) e h
