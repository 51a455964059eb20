-- No number stands twice in a list that was put in another order.
use Rattle.std.proofs.Common.{◌≡◌, ℕ, ◌+◌, ◌≤◌, Bool, true, false, ◌||◌, List, [], ◌∷◌, ◌++◌, refl, sym, ap, ◌∙◌, subst, arith}
use Rattle.std.specs.Prelude.{◌==◌, if◌then◌else◌, sum_by}
use Rattle.std.specs.List.Sorted.{IsPermutation}
use Rattle.std.proofs.lemmas.Bool.{true≢false, eq-eqb, eqb-true}
use Rattle.std.proofs.lemmas.List.Recursion.{is_sum_by}
use Rattle.std.proofs.lemmas.List.Sorted.{sum_by-IsPermutation}
use Rattle.std.proofs.lemmas.List.Sums.{sum_by-append}
use Rattle.amo_sets.specs.Sets.{has, AreDistinct}

abbrev one_if : Bool → ℕ
one_if b = if b then 1 else 0

-- how often j stands in the list
abbrev times : ℕ → List ℕ → ℕ
times j [] = 0
times j (x ∷ xs) = one_if (x == j) + times j xs

absent : (j : ℕ) (xs : List ℕ) → has xs j ≡ false → times j xs ≡ 0
absent j [] h = refl
absent j (x ∷ xs) h = go (x == j) h (absent j xs)
  where
    go : (b : Bool) → (b || has xs j) ≡ false → (has xs j ≡ false → times j xs ≡ 0) → one_if b + times j xs ≡ 0
    go true e rest = absurd (true≢false e)
    go false e rest = let none = rest e in omega arith

present : (j : ℕ) (xs : List ℕ) → has xs j ≡ true → 1 ≤ times j xs
present j [] h = absurd (true≢false (sym h))
present j (x ∷ xs) h = go (x == j) h (present j xs)
  where
    go : (b : Bool) → (b || has xs j) ≡ true → (has xs j ≡ true → 1 ≤ times j xs) → 1 ≤ one_if b + times j xs
    go true e rest = omega arith
    go false e rest = let some = rest e in omega arith

at_most_once : (xs : List ℕ) → AreDistinct xs → (j : ℕ) → times j xs ≤ 1
at_most_once [] d j = omega arith
at_most_once (x ∷ xs) d j = go (at_most_once xs d.1 j) (x == j) refl
  where
    go : times j xs ≤ 1 → (b : Bool) → (x == j) ≡ b → one_if b + times j xs ≤ 1
    go rest true e = let none = ap (λ k. times k xs) (sym (eqb-true x j e)) ∙ absent x xs d.0 in omega arith
    go rest false e = omega arith

distinct : (xs : List ℕ) → ((j : ℕ) → times j xs ≤ 1) → AreDistinct xs
distinct [] h = tt
distinct (x ∷ xs) h = (go (has xs x) refl, distinct xs (λ j. let all = h j in omega arith))
  where
    here : 1 + times x xs ≤ 1
    here = subst (λ b. one_if b + times x xs ≤ 1) (eq-eqb x x refl) (h x)

    go : (b : Bool) → has xs x ≡ b → b ≡ false
    go true e = let some = present x xs e in absurd (omega (arith, here))
    go false e = refl

-- two lists that share nothing, one after the other, in whatever order
pub none_twice : (xs ys zs : List ℕ) → AreDistinct xs → AreDistinct ys → ((j : ℕ) → has xs j ≡ true → has ys j ≡ false) → IsPermutation (xs ++ ys) zs → AreDistinct zs
none_twice xs ys zs d e apart moved = distinct zs (λ j. subst (λ n. n ≤ 1) (sym (count j zs ∙ sum_by-IsPermutation (λ x. one_if (x == j)) (xs ++ ys) zs moved ∙ sum_by-append (λ x. one_if (x == j)) xs ys)) (both j (has xs j) refl))
  where
    count : (j : ℕ) (ws : List ℕ) → times j ws ≡ sum_by (λ x. one_if (x == j)) ws
    count j ws = is_sum_by (times j) (λ x. one_if (x == j)) refl (λ _ _. refl) ws

    both : (j : ℕ) (b : Bool) → has xs j ≡ b → sum_by (λ x. one_if (x == j)) xs + sum_by (λ x. one_if (x == j)) ys ≤ 1
    both j true h = let here = at_most_once xs d j in let none = absent j ys (apart j h) in let m = count j xs in let n = count j ys in omega arith
    both j false h = let none = absent j xs h in let here = at_most_once ys e j in let m = count j xs in let n = count j ys in omega arith
