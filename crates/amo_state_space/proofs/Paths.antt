-- Moves that a search makes and takes back.
use Rattle.std.proofs.Common.{◌≡◌, ℕ, true, List, [], ◌∷◌, ◌++◌, take, refl, sym, ap, ◌∙◌, subst}
use Rattle.amo_params.specs.Givens.{IsWorker}
use Rattle.amo_params.specs.Moves.{worker_of, are_in_range}
use Rattle.amo_kk.specs.World.{world_after_moves, opening_world}
use Rattle.amo_params.specs.declared.givens.Givens.{Givens}
use Rattle.amo_params.specs.declared.moves.Move.{Move}
use Rattle.amo_kk.proofs.Moves.{world_after_moves-append}
use Rattle.amo_plan.proofs.WithinLemmas.{in_range-append, in_range-take, one_in_range}
use Rattle.amo_world.specs.Views.{WorldView}
use Rattle.amo_state_space.specs.Search.{IsSearch}

-- one move more
pub search_more : (w v : WorldView) (moves : List Move) (m : Move) → IsSearch w moves → IsWorker w.givens (worker_of m)
    → v ≡ record { givens = w.givens; world = world_after_moves w.givens w.world (m ∷ []) } → IsSearch v (moves ++ m ∷ [])
search_more w v moves m s is e = subst (λ (x : WorldView). IsSearch x (moves ++ m ∷ [])) (sym e) (record {
  led = ap (λ x. world_after_moves w.givens x (m ∷ [])) s.led ∙ sym (world_after_moves-append w.givens (opening_world w.givens) moves (m ∷ []));
  in_range = in_range-append w.givens moves (m ∷ []) s.in_range (one_in_range w.givens m is);
})

-- and back to the world after fewer moves
pub search_back : (g : Givens) (n : ℕ) (moves kept : List Move) (w v : WorldView) → are_in_range g moves ≡ true → w ≡ record { givens = g; world = opening_world g }
    → kept ≡ take n moves → v ≡ record { givens = w.givens; world = world_after_moves w.givens w.world kept } → IsSearch v (take n moves)
search_back g n moves kept w v h e k f = subst (λ (x : WorldView). IsSearch x (take n moves)) (sym (f ∙ ap (λ (x : WorldView). after x kept) e ∙ ap (after (record { givens = g; world = opening_world g })) k))
    (record { led = refl; in_range = in_range-take g n moves h })
  where
    after : WorldView → List Move → WorldView
    after x ms = record { givens = x.givens; world = world_after_moves x.givens x.world ms }
