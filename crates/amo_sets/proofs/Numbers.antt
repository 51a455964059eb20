-- Sets of numbers, counts and ranks.
use Rattle.std.proofs.Common.{⊎_elim, ◌≡◌, ◌≢◌, ◌⊎◌, inl, inr, ℕ, zero, suc, ◌+◌, ◌<◌, ◌≤◌, Bool, true, false, not, ◌&&◌, ◌||◌, List, [], ◌∷◌, ◌++◌, length, get_or, refl, sym, ap, ◌∙◌, subst, arith}
use Rattle.std.specs.Prelude.{◌==◌, if◌then◌else◌}
use Rattle.std.proofs.lemmas.Bool.Decides.{nat_tests}
use Rattle.std.proofs.lemmas.Bool.{and_parts, and_from, or_parts, or_left, or_right, true≢false, eq-eqb, ne_eqb, eqb-true}
use Rattle.std.proofs.lemmas.List.{get_or-set_same, get_or-set_other, length-set, length-append}
use Rattle.amo_sets.specs.Lists.{numbered, put, table}
use Rattle.amo_sets.specs.Sets.{has, AreDistinct, with_number}
use Rattle.amo_sets.specs.Rank.{count, has_rank, number_of_rank}

-- numbered and put

pub numbered-put_same : {X : Type 0} (d x : X) (xs : List X) (p : ℕ) → 1 ≤ p → p ≤ length xs → numbered d (put xs p x) p ≡ x
numbered-put_same d x xs zero l h = absurd (omega arith)
numbered-put_same d x xs (suc k) l h = get_or-set_same xs k x d h

pub numbered-put_other : {X : Type 0} (d x : X) (xs : List X) (p q : ℕ) → q ≢ p → numbered d (put xs p x) q ≡ numbered d xs q
numbered-put_other d x xs zero q n = refl
numbered-put_other d x xs (suc k) zero n = refl
numbered-put_other d x xs (suc k) (suc i) n = get_or-set_other xs k i x d (λ e. n (ap suc e))

pub length-put : {X : Type 0} (x : X) (xs : List X) (p : ℕ) → length (put xs p x) ≡ length xs
length-put x xs zero = refl
length-put x xs (suc k) = length-set xs k x

pub length-table : {X : Type 0} (f : ℕ → X) (n : ℕ) → length (table n f) ≡ n
length-table f zero = refl
length-table f (suc n) = let h = length-table f n in simp (length-append) (omega arith)

-- sets

with_step : (i x : ℕ) (xs : List ℕ) (j : ℕ) → has (with_number i xs) j ≡ ((i == j) || has xs j) → has (with_number i (x ∷ xs)) j ≡ ((i == j) || has (x ∷ xs) j)
with_step i x xs j h = grind (arith, nat_tests)

or_assoc : (a b c : Bool) → (a || (b || c)) ≡ ((a || b) || c)
or_assoc a b c = grind arith

pub has-with_number : (i : ℕ) (xs : List ℕ) (j : ℕ) → has (with_number i xs) j ≡ ((i == j) || has xs j)
has-with_number i [] j = refl
has-with_number i (x ∷ xs) j = with_step i x xs j (has-with_number i xs j)

pub has-append : (xs ys : List ℕ) (j : ℕ) → has (xs ++ ys) j ≡ (has xs j || has ys j)
has-append [] ys j = refl
has-append (x ∷ xs) ys j = ap (λ b. (x == j) || b) (has-append xs ys j) ∙ or_assoc (x == j) (has xs j) (has ys j)

pub has-get_or : (xs : List ℕ) (k : ℕ) → k < length xs → has xs (get_or xs k 0) ≡ true
has-get_or [] k h = absurd (omega arith)
has-get_or (x ∷ xs) zero h = grind (arith, nat_tests)
has-get_or (x ∷ xs) (suc k) h = let e = has-get_or xs k (omega arith) in grind (arith, nat_tests)

found : (x : ℕ) (xs : List ℕ) (j : ℕ) → (has xs j ≡ true → (k : ℕ) × (k < length xs) × (get_or xs k 0 ≡ j)) → ((x == j) || has xs j) ≡ true → (k : ℕ) × (k < suc (length xs)) × (get_or (x ∷ xs) k 0 ≡ j)
found x xs j f h = go (x == j) refl h
  where
    go : (b : Bool) → (x == j) ≡ b → (b || has xs j) ≡ true → (k : ℕ) × (k < suc (length xs)) × (get_or (x ∷ xs) k 0 ≡ j)
    go true e h = (0, omega arith, eqb-true x j e)
    go false e h = let r = f h in (suc r.0, omega arith, r.2)

pub get_or-has : (xs : List ℕ) (j : ℕ) → has xs j ≡ true → (k : ℕ) × (k < length xs) × (get_or xs k 0 ≡ j)
get_or-has [] j h = absurd (cc)
get_or-has (x ∷ xs) j h = found x xs j (get_or-has xs j) h

length_step : (i x : ℕ) (xs : List ℕ) → length (with_number i xs) ≤ suc (length xs) → length (with_number i (x ∷ xs)) ≤ suc (suc (length xs))
length_step i x xs h = grind (arith, nat_tests)

pub length-with_number : (i : ℕ) (xs : List ℕ) → length (with_number i xs) ≤ suc (length xs)
length-with_number i [] = omega arith
length-with_number i (x ∷ xs) = length_step i x xs (length-with_number i xs)

-- all of 1..n pass
pub count_every : (n : ℕ) (t : ℕ → Bool) → ((j : ℕ) → 1 ≤ j → j ≤ n → t j ≡ true) → count n t ≡ n
count_every zero t h = refl
count_every (suc n) t h =
    let before = count_every n t (λ j l m. h j l (omega arith)) in
    ap (λ b. count n t + (if b then 1 else 0)) (h (suc n) (omega arith) (omega arith)) ∙ omega (arith, before)

pub count_true : (n : ℕ) → count n (λ _. true) ≡ n
count_true n = count_every n (λ _. true) (λ _ _ _. refl)

-- none of 1..n passes
pub count_nothing : (n : ℕ) (t : ℕ → Bool) → ((j : ℕ) → 1 ≤ j → j ≤ n → t j ≡ false) → count n t ≡ 0
count_nothing zero t h = refl
count_nothing (suc n) t h = λ i. count_nothing n t (λ j l m. h j l (omega arith)) i + (if h (suc n) (omega arith) (omega arith) i then 1 else 0)

-- where j passes, some do
pub count_pos : (n : ℕ) (t : ℕ → Bool) (j : ℕ) → 1 ≤ j → j ≤ n → t j ≡ true → 1 ≤ count n t
count_pos zero t j l h passes = absurd (omega arith)
count_pos (suc n) t j l h passes = let r = count_pos n t j l in grind (arith, nat_tests)

pub count_le : (t u : ℕ → Bool) → ((k : ℕ) → t k ≡ true → u k ≡ true) → (n : ℕ) → count n t ≤ count n u
count_le t u h zero = omega arith
count_le t u h (suc n) = let l = count_le t u h n in let m = h (suc n) in grind (arith, nat_tests)

-- whoever isn't in one or the other is in neither
pub count_neither : (t u : ℕ → Bool) (n : ℕ) → n ≤ count n (λ k. not (t k) && not (u k)) + count n t + count n u
count_neither t u zero = omega arith
count_neither t u (suc n) = let l = count_neither t u n in grind (arith, nat_tests)

pub count_without : (t u : ℕ → Bool) (n : ℕ) → count n (λ k. not (t k)) ≤ count n (λ k. not (t k) && not (u k)) + count n u
count_without t u zero = omega arith
count_without t u (suc n) = let l = count_without t u n in grind (arith, nat_tests)

count_one : (x n : ℕ) → count n (λ k. x == k) ≤ 1
count_one x zero = omega arith
count_one x (suc n) =
    let above : n < x → count n (λ k. x == k) ≡ 0 = λ h. count_nothing n (λ k. x == k) (λ k l m. ne_eqb x k (λ e. omega arith)) in
    let l = count_one x n in
    grind (arith, nat_tests)

count_or : (t u : ℕ → Bool) (n : ℕ) → count n (λ k. t k || u k) ≤ count n t + count n u
count_or t u zero = omega arith
count_or t u (suc n) = let l = count_or t u n in grind (arith, nat_tests)

pub count_has : (xs : List ℕ) (n : ℕ) → count n (has xs) ≤ length xs
count_has [] n = let c = count_nothing n (has []) (λ _ _ _. refl) in omega arith
count_has (x ∷ xs) n = let a = count_or (λ k. x == k) (has xs) n in let b = count_one x n in let c = count_has xs n in omega arith

pub count_apart : (t u : ℕ → Bool) (n : ℕ) → ((k : ℕ) → t k ≡ true → u k ≡ false) → count n t + count n u ≤ count n (λ k. t k || u k)
count_apart t u zero h = omega arith
count_apart t u (suc n) h = let l = count_apart t u n h in let m = h (suc n) in grind (arith, nat_tests)

-- a list of distinct numbers of 1..n has at most n
pub length_distinct : (xs : List ℕ) (n : ℕ) → AreDistinct xs → ((j : ℕ) → has xs j ≡ true → (1 ≤ j) × (j ≤ n)) → length xs ≤ count n (has xs)
length_distinct [] n d h = omega arith
length_distinct (x ∷ xs) n d h =
    let here = h x (grind (arith, nat_tests)) in
    let one = count_pos n (λ k. x == k) x here.0 here.1 (eq-eqb x x refl) in
    let rest = length_distinct xs n d.1 (λ j k. h j (or_right (x == j) (has xs j) k)) in
    let both = count_apart (λ k. x == k) (has xs) n (λ k e. subst (λ y. has xs y ≡ false) (eqb-true x k e) d.0) in
    omega arith

pub count_le_all : (t : ℕ → Bool) (n : ℕ) → count n t ≤ n
count_le_all t zero = omega arith
count_le_all t (suc n) = let l = count_le_all t n in grind (arith, nat_tests)

-- the member of a rank
pub record IsRanked (n : ℕ) (test : ℕ → Bool) (i e : ℕ) : Type 0 where
  pub low : 1 ≤ e
  pub high : e ≤ n
  pub passes : test e ≡ true
  pub rank : count e test ≡ i

below_rank : (n : ℕ) (test : ℕ → Bool) (i : ℕ) → i ≤ count (suc n) test → has_rank test i (suc n) ≡ false → i ≤ count n test
below_rank n test i h e = grind (arith, nat_tests)

ranked_step : (n : ℕ) (test : ℕ → Bool) (i : ℕ) → 1 ≤ i → i ≤ count (suc n) test → (i ≤ count n test → IsRanked n test i (number_of_rank n test i)) → IsRanked (suc n) test i (number_of_rank (suc n) test i)
ranked_step n test i l h before = go (has_rank test i (suc n)) refl
  where
    go : (b : Bool) → has_rank test i (suc n) ≡ b → IsRanked (suc n) test i (if b then suc n else number_of_rank n test i)
    go true e =
        let both = and_parts _ _ e in
        record { low = omega arith; high = omega arith; passes = both.0; rank = eqb-true _ _ both.1 }
    go false e =
        let f = before (below_rank n test i h e) in
        record { low = f.low; high = omega (arith, f.high); passes = f.passes; rank = f.rank }

pub ranked_is : (n : ℕ) (test : ℕ → Bool) (i : ℕ) → 1 ≤ i → i ≤ count n test → IsRanked n test i (number_of_rank n test i)
ranked_is zero test i l h = absurd (omega arith)
ranked_is (suc n) test i l h = ranked_step n test i l h (ranked_is n test i l)

-- the same set with one more number

pub is_itself : (j : ℕ) (b : Bool) → ((j == j) || b) ≡ true
is_itself j b = or_left (j == j) b (eq-eqb j j refl)

pub has_with_same : (j : ℕ) (xs : List ℕ) → has (with_number j xs) j ≡ true
has_with_same j xs = has-with_number j xs j ∙ is_itself j (has xs j)

pub has_with_kept : (i : ℕ) (xs : List ℕ) (j : ℕ) → has xs j ≡ true → has (with_number i xs) j ≡ true
has_with_kept i xs j h = has-with_number i xs j ∙ or_right (i == j) (has xs j) h

pub has_with_cases : (i : ℕ) (xs : List ℕ) (j : ℕ) → has (with_number i xs) j ≡ true → (i ≡ j) ⊎ (has xs j ≡ true)
has_with_cases i xs j h = split (i == j) refl
  where
    e : ((i == j) || has xs j) ≡ true
    e = sym (has-with_number i xs j) ∙ h

    split : (b : Bool) → (i == j) ≡ b → (i ≡ j) ⊎ (has xs j ≡ true)
    split true t = inl (eqb-true i j t)
    split false t = inr (ap (λ c. c || has xs j) (sym t) ∙ e)

pub has_with_none : (i : ℕ) (xs : List ℕ) (j : ℕ) → has (with_number i xs) j ≡ false → (i ≢ j) × (has xs j ≡ false)
has_with_none i xs j h = let e : ((i == j) || has xs j) ≡ false = sym (has-with_number i xs j) ∙ h in none i j (has xs j) e
  where
    none : (i j : ℕ) (b : Bool) → ((i == j) || b) ≡ false → (i ≢ j) × (b ≡ false)
    none i j b e = ((λ x. ne i j b e x), (or_parts (i == j) b e).1)
      where
        ne : (i j : ℕ) (b : Bool) → ((i == j) || b) ≡ false → i ≢ j
        ne i j b e = grind (arith, nat_tests)

pub has_push : (xs : List ℕ) (i : ℕ) → has (xs ++ i ∷ []) i ≡ true
has_push xs i = has-append xs (i ∷ []) i ∙ last i (has xs i)
  where
    last : (i : ℕ) (b : Bool) → (b || ((i == i) || false)) ≡ true
    last i b = grind (arith, nat_tests)

pub has_push_kept : (xs : List ℕ) (i j : ℕ) → has xs j ≡ true → has (xs ++ i ∷ []) j ≡ true
has_push_kept xs i j h = has-append xs (i ∷ []) j ∙ or_left (has xs j) ((i == j) || false) h

pub has_push_cases : (xs : List ℕ) (i j : ℕ) → has (xs ++ i ∷ []) j ≡ true → (has xs j ≡ true) ⊎ (i ≡ j)
has_push_cases xs i j h = cases i j (has xs j) (sym (has-append xs (i ∷ []) j) ∙ h)
  where
    cases : (i j : ℕ) (b : Bool) → (b || ((i == j) || false)) ≡ true → (b ≡ true) ⊎ (i ≡ j)
    cases i j b e = grind (arith, nat_tests)

pub has_push_none : (xs : List ℕ) (i j : ℕ) → i ≢ j → has xs j ≡ false → has (xs ++ i ∷ []) j ≡ false
has_push_none xs i j n h = has-append xs (i ∷ []) j ∙ none i j (has xs j) n h
  where
    none : (i j : ℕ) (b : Bool) → i ≢ j → b ≡ false → (b || ((i == j) || false)) ≡ false
    none i j b n e = grind (arith, nat_tests)

pub distinct_push : (xs : List ℕ) (i : ℕ) → AreDistinct xs → has xs i ≡ false → AreDistinct (xs ++ i ∷ [])
distinct_push [] i d h = (refl, tt)
distinct_push (x ∷ xs) i d h = (has_push_none xs i x (λ e. ne x i (has xs i) h e) d.0, distinct_push xs i d.1 (or_parts (x == i) (has xs i) h).1)
  where
    ne : (x i : ℕ) (b : Bool) → ((x == i) || b) ≡ false → i ≢ x
    ne x i b e = grind (arith, nat_tests)

pub count_more : (test : ℕ → Bool) (k n : ℕ) → k ≤ n → count k test ≤ count n test
count_more test k zero h = let e : k ≡ 0 = omega arith in subst (λ x. count x test ≤ 0) (sym e) (omega arith)
count_more test k (suc n) h = ⊎_elim
    (λ (l : k ≤ n). let r = count_more test k n l in omega arith)
    (λ (l : n < k). let e : suc n ≡ k = omega arith in subst (λ x. count x test ≤ count (suc n) test) e (omega arith))
    (cases_le k n)
  where
    cases_le : (k n : ℕ) → (k ≤ n) ⊎ (n < k)
    cases_le k n = grind arith

-- who has the rank is found
pub ranked_found : (n : ℕ) (test : ℕ → Bool) (i k : ℕ) → 1 ≤ k → k ≤ n → test k ≡ true → count k test ≡ i → number_of_rank n test i ≡ k
ranked_found zero test i k l h t c = absurd (omega arith)
ranked_found (suc n) test i k l h t c = ⊎_elim here (λ (m : k ≤ n). below m (ranked_found n test i k l m t c)) (cases k n h)
  where
    cases : (k n : ℕ) → k ≤ suc n → (k ≡ suc n) ⊎ (k ≤ n)
    cases k n h = grind arith

    here : k ≡ suc n → number_of_rank (suc n) test i ≡ k
    here e = ap (λ b. if b then suc n else number_of_rank n test i) (and_from (test (suc n)) (count (suc n) test == i) (ap test (sym e) ∙ t) (eq-eqb (count (suc n) test) i (ap (λ x. count x test) (sym e) ∙ c))) ∙ sym e

    below : k ≤ n → number_of_rank n test i ≡ k → number_of_rank (suc n) test i ≡ k
    below m e = go (has_rank test i (suc n)) refl
      where
        go : (b : Bool) → has_rank test i (suc n) ≡ b → (if b then suc n else number_of_rank n test i) ≡ k
        go true f =
            let both = and_parts (test (suc n)) (count (suc n) test == i) f in
            let same = eqb-true (count (suc n) test) i both.1 in
            let more = count_more test k n m in
            absurd (clash (test (suc n)) (count n test) both.0 same more)
          where
            clash : (b : Bool) (c' : ℕ) → b ≡ true → c' + (if b then 1 else 0) ≡ i → count k test ≤ c' → ⊥
            clash true c' e s l = omega arith
            clash false c' e s l = true≢false (sym e)
        go false f = e
