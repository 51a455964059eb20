-- Once all workers are gone, no move changes anything.
use Rattle.std.proofs.Common.{◌≡◌, ℕ, zero, suc, ◌+◌, ◌<◌, ◌≤◌, true, false, List, [], ◌∷◌, refl, sym, ap, ◌∙◌, subst, inl, inr, ◌⊎◌, add-one, arith}
use Rattle.std.proofs.Math.Bool.{and-false}
use Rattle.std.proofs.lemmas.Bool.{and_parts}
use Rattle.std.proofs.lemmas.Bool.Decides.{nat_tests}
use Rattle.amo_params.specs.Givens.{is_within}
use Rattle.amo_params.specs.Moves.{worker_of, are_in_range}
use Rattle.amo_kk.specs.World.{process, world_after_move, world_after_moves}
use Rattle.amo_params.specs.declared.moves.Move.{Move}
use Rattle.amo_params.specs.declared.moves.Move.TheVariants.{Turn, Halt, Leave}
use Rattle.amo_params.specs.declared.givens.Givens.{Givens}
use Rattle.amo_kk.specs.declared.model.World.{World}
use Rattle.amo_trace.specs.Transitions.{are_gone, all_gone, transitions}

split_last : (k n : ℕ) → k < suc n → (k ≡ n) ⊎ (k < n)
split_last k n l = grind arith

-- one that is here is among them
pub one_is_here : (w : World) (n k : ℕ) → k < n → (process w (k + 1)).gone ≡ false → are_gone w n ≡ false
one_is_here w zero k l here = absurd (omega arith)
one_is_here w (suc n) k l here =
    elim (split_last k n l) [
      | inl e ↦ let last : (process w (suc n)).gone ≡ false = subst (λ x. (process w x).gone ≡ false) (add-one k ∙ ap suc e) here in rw last (and-false (are_gone w n))
      | inr l ↦ rw (one_is_here w n k l here) refl
    ]

-- each of them is gone
pub each_is_gone : (w : World) (n p : ℕ) → are_gone w n ≡ true → 1 ≤ p → p ≤ n → (process w p).gone ≡ true
each_is_gone w zero p h low high = absurd (omega arith)
each_is_gone w (suc n) zero h low high = absurd (omega arith)
each_is_gone w (suc n) (suc k) h low high =
    let parts = and_parts (are_gone w n) (process w (suc n)).gone h in
    elim (split_last k n (omega arith)) [
      | inl e ↦ subst (λ x. (process w (suc x)).gone ≡ true) (sym e) parts.1
      | inr l ↦ each_is_gone w n (suc k) parts.0 low (omega arith)
    ]

move_of_gone : (g : Givens) (w : World) (m : Move) → (process w (worker_of m)).gone ≡ true → world_after_move g w m ≡ w
move_of_gone g w (Turn p) h = rw h refl
move_of_gone g w (Halt p) h = rw h refl
move_of_gone g w (Leave p) h = rw h refl

within_parts : (n p : ℕ) → is_within n p ≡ true → (1 ≤ p) × (p ≤ n)
within_parts n p h = (grind (arith, nat_tests), grind (arith, nat_tests))

-- so moves of theirs lead nowhere
pub moves_of_gone : (g : Givens) (w : World) (ms : List Move) → all_gone g w ≡ true → are_in_range g ms ≡ true → world_after_moves g w ms ≡ w
moves_of_gone g w [] h within = refl
moves_of_gone g w (m ∷ ms) h within =
    let parts = and_parts _ _ within in
    let p = within_parts _ _ parts.0 in
    let stays = move_of_gone g w m (each_is_gone w g.workers (worker_of m) h p.0 p.1) in
    ap (λ (x : World). world_after_moves g x ms) stays ∙ moves_of_gone g w ms h parts.1

-- and are no transitions
pub transitions_of_gone : (g : Givens) (w : World) (i : ℕ) (ms : List Move) → all_gone g w ≡ true → transitions g w i ms ≡ []
transitions_of_gone g w i [] h = refl
transitions_of_gone g w i (m ∷ ms) h = rw h refl
