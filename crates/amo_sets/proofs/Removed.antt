-- Lists that a number was taken out of.
use Rattle.std.proofs.Common.{⊎_elim, ◌≡◌, ◌≢◌, ℕ, suc, ◌+◌, Bool, true, false, not, ◌&&◌, ◌||◌, List, [], ◌∷◌, length, refl, sym, ap, ◌∙◌, subst, arith}
use Rattle.std.specs.Prelude.{if◌then◌else◌, ◌==◌}
use Rattle.std.proofs.lemmas.Bool.{cases_eq, true≢false}
use Rattle.std.proofs.lemmas.Bool.Decides.{nat_tests}
use Rattle.amo_sets.specs.Sets.{has, AreDistinct, without_number}

pub has-without_other : (j : ℕ) (xs : List ℕ) (i : ℕ) → j ≢ i → has (without_number j xs) i ≡ has xs i
has-without_other j [] i n = refl
has-without_other j (x ∷ xs) i n = step x (without_number j xs) xs n (has-without_other j xs i n)
  where
    step : (x : ℕ) (ys xs : List ℕ) → j ≢ i → has ys i ≡ has xs i → has (if j == x then ys else x ∷ ys) i ≡ ((x == i) || has xs i)
    step x ys xs n h = grind (arith, nat_tests)

pub has-without_same : (j : ℕ) (xs : List ℕ) → has (without_number j xs) j ≡ false
has-without_same j [] = refl
has-without_same j (x ∷ xs) = step x (without_number j xs) (has-without_same j xs)
  where
    step : (x : ℕ) (ys : List ℕ) → has ys j ≡ false → has (if j == x then ys else x ∷ ys) j ≡ false
    step x ys h = grind (arith, nat_tests)

pub has-without : (i : ℕ) (xs : List ℕ) (j : ℕ) → has (without_number i xs) j ≡ (not (i == j) && has xs j)
has-without i xs j = ⊎_elim
    (λ (e : i ≡ j). ap (λ k. has (without_number i xs) k) (sym e) ∙ has-without_same i xs ∙ sym (same (has xs j) e))
    (λ (n : i ≡ j → ⊥). has-without_other i xs j n ∙ sym (other (has xs j) n))
    (cases_eq i j)
  where
    same : (b : Bool) → i ≡ j → (not (i == j) && b) ≡ false
    same b e = grind (arith, nat_tests)

    other : (b : Bool) → (i ≡ j → ⊥) → (not (i == j) && b) ≡ b
    other b n = grind (arith, nat_tests)

-- nothing goes if the number is not there
pub without_stranger : (j : ℕ) (xs : List ℕ) → has xs j ≡ false → without_number j xs ≡ xs
without_stranger j [] h = refl
without_stranger j (x ∷ xs) h = ⊎_elim
    (λ (e : x ≡ j). absurd (here x (has xs j) e h))
    (λ (n : x ≡ j → ⊥). step x (without_number j xs) n (without_stranger j xs (rest x (has xs j) n h)))
    (cases_eq x j)
  where
    here : (x : ℕ) (b : Bool) → x ≡ j → ((x == j) || b) ≡ false → ⊥
    here x b e h = grind (arith, nat_tests)

    rest : (x : ℕ) (b : Bool) → (x ≡ j → ⊥) → ((x == j) || b) ≡ false → b ≡ false
    rest x b n h = grind (arith, nat_tests)

    step : (x : ℕ) (ys : List ℕ) → (x ≡ j → ⊥) → ys ≡ xs → (if j == x then ys else x ∷ ys) ≡ x ∷ xs
    step x ys n e = grind (arith, nat_tests)

-- just one goes if it is there, and no number stands twice
pub length-without : (j : ℕ) (xs : List ℕ) → AreDistinct xs → has xs j ≡ true → length (without_number j xs) + 1 ≡ length xs
length-without j [] d h = absurd (true≢false (sym h))
length-without j (x ∷ xs) d h = ⊎_elim
    (λ (e : x ≡ j). here x (without_number j xs) e (without_stranger j xs (subst (λ k. has xs k ≡ false) e d.0)))
    (λ (n : x ≡ j → ⊥). there x (without_number j xs) n (length-without j xs d.1 (rest x (has xs j) n h)))
    (cases_eq x j)
  where
    rest : (x : ℕ) (b : Bool) → (x ≡ j → ⊥) → ((x == j) || b) ≡ true → b ≡ true
    rest x b n h = grind (arith, nat_tests)

    here : (x : ℕ) (ys : List ℕ) → x ≡ j → ys ≡ xs → length (if j == x then ys else x ∷ ys) + 1 ≡ suc (length xs)
    here x ys e f = grind (arith, nat_tests)

    there : (x : ℕ) (ys : List ℕ) → (x ≡ j → ⊥) → length ys + 1 ≡ length xs → length (if j == x then ys else x ∷ ys) + 1 ≡ suc (length xs)
    there x ys n f = grind (arith, nat_tests)

pub distinct-without : (j : ℕ) (xs : List ℕ) → AreDistinct xs → AreDistinct (without_number j xs)
distinct-without j [] d = tt
distinct-without j (x ∷ xs) d = go (j == x) (distinct-without j xs d.1)
  where
    off : (b c : Bool) → b ≡ false → (c && b) ≡ false
    off b true e = e
    off b false e = refl

    go : (b : Bool) → AreDistinct (without_number j xs) → AreDistinct (if b then without_number j xs else x ∷ without_number j xs)
    go true rest = rest
    go false rest = (has-without j xs x ∙ off (has xs x) (not (j == x)) d.0, rest)
