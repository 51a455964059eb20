-- The workers above one, without p.
use Rattle.std.proofs.Common.{◌≡◌, ◌≢◌, ℕ, suc, ◌+◌, ◌-◌, ◌<◌, ◌≤◌, Bool, true, false, not, refl, sym, ap, ◌∙◌, arith, List, [], ◌∷◌, ◌++◌, append-nil, append_assoc}
use Rattle.std.specs.Prelude.{if◌then◌else◌, ◌==◌, map, cond}
use Rattle.std.specs.List.{filter, range_with_len}
use Rattle.std.proofs.lemmas.Bool.{eq-eqb, ne_eqb, eqb-true, eqb-false}
use Rattle.std.proofs.Common.{⊎_elim}
use Rattle.std.proofs.lemmas.Bool.{cases_lt}
use Rattle.amo_params.specs.Givens.{next_other}
use Rattle.amo_params.specs.declared.givens.Givens.{Givens}
use Rattle.amo_process.specs.Batch.{others_above}

-- the numbers from a on and below e, without p
abbrev pub others_up : ℕ → ℕ → ℕ → List ℕ
others_up p a e = filter (λ i. not (i == p)) (range_with_len a (e - a))

pub range_here : (a b e : ℕ) → a < e → b ≡ a + 1 → range_with_len a (e - a) ≡ a ∷ range_with_len b (e - b)
range_here a b e h s =
    let n : e - a ≡ suc (e - (a + 1)) = omega arith in
    ap (range_with_len a) n ∙ ap (λ k. a ∷ range_with_len k (e - k)) (sym s)

pub up_past : (p a e : ℕ) → e ≤ a → others_up p a e ≡ []
up_past p a e h = let n : e - a ≡ 0 = omega arith in ap (λ k. filter (λ i. not (i == p)) (range_with_len a k)) n

pub up_same : (p a b e : ℕ) → a < e → b ≡ a + 1 → a ≡ p → others_up p a e ≡ others_up p b e
up_same p a b e h s is =
    ap (filter (λ i. not (i == p))) (range_here a b e h s)
    ∙ ap (λ t. cond (not t) (a ∷ others_up p b e) (others_up p b e)) (eq-eqb a p is)

pub up_other : (p a b e : ℕ) → a < e → b ≡ a + 1 → a ≢ p → others_up p a e ≡ a ∷ others_up p b e
up_other p a b e h s is =
    ap (filter (λ i. not (i == p))) (range_here a b e h s)
    ∙ ap (λ t. cond (not t) (a ∷ others_up p b e) (others_up p b e)) (ne_eqb a p is)

-- what is added for the numbers from a on
module _ {X : Type 0} (f : ℕ → X) where
  pub added_past : (xs : List X) (p a e : ℕ) → e ≤ a → xs ++ map f (others_up p a e) ≡ xs
  added_past xs p a e h = ap (λ l. xs ++ map f l) (up_past p a e h) ∙ append-nil xs

  pub added_same : (xs : List X) (p a e : ℕ) → a < e → a ≡ p → xs ++ map f (others_up p (a + 1) e) ≡ xs ++ map f (others_up p a e)
  added_same xs p a e h is = ap (λ l. xs ++ map f l) (sym (up_same p a (a + 1) e h refl is))

  pub added_other : (xs : List X) (p a e : ℕ) → a < e → a ≢ p → (xs ++ f a ∷ []) ++ map f (others_up p (a + 1) e) ≡ xs ++ map f (others_up p a e)
  added_other xs p a e h is = append_assoc xs (f a ∷ []) (map f (others_up p (a + 1) e)) ∙ ap (λ l. xs ++ map f l) (sym (up_other p a (a + 1) e h refl is))

pub above_up : (g : Givens) (p q b : ℕ) → b ≡ q + 1 → others_above g p q ≡ others_up p b (g.workers + 1)
above_up g p q b s =
    let n : g.workers - q ≡ g.workers + 1 - b = omega arith in
    ap (λ k. filter (λ i. not (i == p)) (range_with_len (q + 1) k)) n ∙ ap (λ k. filter (λ i. not (i == p)) (range_with_len k (g.workers + 1 - b))) (sym s)

-- the first of them is the next other
pub above_next : (g : Givens) (p q : ℕ) → next_other p q ≤ g.workers → others_above g p q ≡ next_other p q ∷ others_above g p (next_other p q)
above_next g p q = go (q + 1 == p) refl
  where
    go : (t : Bool) → (q + 1 == p) ≡ t → (if t then q + 2 else q + 1) ≤ g.workers
        → others_above g p q ≡ (if t then q + 2 else q + 1) ∷ others_above g p (if t then q + 2 else q + 1)
    go true e h =
        let s : q + 1 ≡ p = eqb-true _ _ e in
        above_up g p q (q + 1) refl
        ∙ up_same p (q + 1) (q + 2) (g.workers + 1) (omega arith) (omega arith) s
        ∙ up_other p (q + 2) (q + 3) (g.workers + 1) (omega arith) (omega arith) (λ i. omega arith)
        ∙ ap (λ l. (q + 2) ∷ l) (sym (above_up g p (q + 2) (q + 3) (omega arith)))
    go false e h =
        above_up g p q (q + 1) refl
        ∙ up_other p (q + 1) (q + 2) (g.workers + 1) (omega arith) (omega arith) (eqb-false _ _ e)
        ∙ ap (λ l. (q + 1) ∷ l) (sym (above_up g p (q + 1) (q + 2) (omega arith)))

pub above_none : (g : Givens) (p q : ℕ) → g.workers < next_other p q → others_above g p q ≡ []
above_none g p q = go (q + 1 == p) refl
  where
    go : (t : Bool) → (q + 1 == p) ≡ t → g.workers < (if t then q + 2 else q + 1) → others_above g p q ≡ []
    go true e h =
        let s : q + 1 ≡ p = eqb-true _ _ e in
        above_up g p q (q + 1) refl ∙ ⊎_elim
        (λ (l : q + 1 < g.workers + 1). up_same p (q + 1) (q + 2) (g.workers + 1) l (omega arith) s ∙ up_past p (q + 2) (g.workers + 1) (omega arith))
        (λ (l : g.workers + 1 ≤ q + 1). up_past p (q + 1) (g.workers + 1) l)
        (cases_lt (q + 1) (g.workers + 1))
    go false e h = above_up g p q (q + 1) refl ∙ up_past p (q + 1) (g.workers + 1) (omega arith)
