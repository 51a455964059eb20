-- The list f 1 .. f n, item by item.
use Rattle.std.proofs.Common.{⊎_elim, ◌≡◌, ℕ, zero, suc, ◌+◌, ◌<◌, ◌≤◌, true, List, [], ◌∷◌, ◌++◌, length, get_or, replicate, sym, ◌∙◌, ap, subst, refl, add-one, arith}
use Rattle.std.proofs.lemmas.Bool.{cases_lt, cases_eq, true≢false, false_from_ne_true}
use Rattle.std.proofs.lemmas.List.{get_or_append_left, get_or_at, ext_get_or, get_or-replicate, get_or_past, length-replicate}
use Rattle.amo_sets.specs.Lists.{numbered, table}
use Rattle.amo_sets.specs.Sets.{has, AreDistinct}
use Rattle.amo_sets.proofs.Numbers.{length-table, has_push, has_push_kept, has_push_cases, distinct_push}

pub get_or-table : {X : Type 0} (d : X) (f : ℕ → X) (n k : ℕ) → k < n → get_or (table n f) k d ≡ f (suc k)
get_or-table d f zero k lt = absurd (omega arith)
get_or-table d f (suc n) k lt = ⊎_elim
    (λ (l : k < n). get_or_append_left (table n f) (f (suc n) ∷ []) d k (let e = length-table f n in omega arith) ∙ get_or-table d f n k l)
    (λ (l : n ≤ k). let e : k ≡ n = omega arith in ap (λ (m : ℕ). get_or (table n f ++ f (suc n) ∷ []) m d) e ∙ get_or_at (table n f) (f (suc n)) [] d n (length-table f n) ∙ sym (ap (λ (m : ℕ). f (suc m)) e))
    (cases_lt k n)

pub numbered-table : {X : Type 0} (d : X) (f : ℕ → X) (n j : ℕ) → 1 ≤ j → j ≤ n → numbered d (table n f) j ≡ f j
numbered-table d f n zero l h = absurd (omega arith)
numbered-table d f n (suc k) l h = get_or-table d f n k (omega arith)

-- a table of one value gives that everywhere
pub numbered-table_same : {X : Type 0} (d : X) (n p : ℕ) → numbered d (table n (λ _. d)) p ≡ d
numbered-table_same d n zero = refl
numbered-table_same d n (suc k) = ⊎_elim (λ (l : k < n). get_or-table d (λ _. d) n k l) (λ (l : n ≤ k). get_or_past (table n (λ _. d)) k d (let e = length-table (λ _. d) n in omega arith)) (cases_lt k n)

-- the table is the list whose items are the same
pub table_is : {X : Type 0} (d : X) (f : ℕ → X) (n : ℕ) (xs : List X) → length xs ≡ n → ((j : ℕ) → 1 ≤ j → j ≤ n → f j ≡ numbered d xs j) → table n f ≡ xs
table_is d f n xs len same =
    ext_get_or d (table n f) xs (length-table f n ∙ sym len) (λ k lt. let e = length-table f n in get_or-table d f n k (omega arith) ∙ same (suc k) (omega arith) (omega arith))

pub table_constant : {X : Type 0} (x : X) (f : ℕ → X) (n : ℕ) → ((j : ℕ) → 1 ≤ j → j ≤ n → f j ≡ x) → table n f ≡ replicate n x
table_constant x f n same = table_is x f n (replicate n x) (length-replicate n x) (λ j l h. same j l h ∙ sym (at j l h))
  where
    at : (j : ℕ) → 1 ≤ j → j ≤ n → numbered x (replicate n x) j ≡ x
    at zero l h = refl
    at (suc k) l h = get_or-replicate n k x x (omega arith)

-- no item stands past the end
pub numbered_past : {X : Type 0} (d : X) (xs : List X) (j : ℕ) → length xs < j → numbered d xs j ≡ d
numbered_past d xs zero h = refl
numbered_past d xs (suc k) h = get_or_past xs k d (omega arith)

-- one item more
pub table_next : {X : Type 0} (n : ℕ) (f : ℕ → X) → table n f ++ f (n + 1) ∷ [] ≡ table (n + 1) f
table_next n f = rw add-one refl

-- the numbers 1 .. n

pub has-numbers : (n j : ℕ) → 1 ≤ j → j ≤ n → has (table n (λ i. i)) j ≡ true
has-numbers zero j l h = absurd (omega arith)
has-numbers (suc n) j l h = ⊎_elim
    (λ (e : j ≡ suc n). subst (λ k. has (table n (λ i. i) ++ suc n ∷ []) k ≡ true) (sym e) (has_push (table n (λ i. i)) (suc n)))
    (λ (m : j ≡ suc n → ⊥). has_push_kept (table n (λ i. i)) (suc n) j (has-numbers n j l (omega arith)))
    (cases_eq j (suc n))

pub numbers_low : (n j : ℕ) → has (table n (λ i. i)) j ≡ true → j ≤ n
numbers_low zero j h = absurd (true≢false (sym h))
numbers_low (suc n) j h = ⊎_elim (λ t. let low = numbers_low n j t in omega arith) (λ (e : suc n ≡ j). omega arith) (has_push_cases (table n (λ i. i)) (suc n) j h)

pub distinct_numbers : (n : ℕ) → AreDistinct (table n (λ i. i))
distinct_numbers zero = tt
distinct_numbers (suc n) = distinct_push (table n (λ i. i)) (suc n) (distinct_numbers n) (false_from_ne_true (has (table n (λ i. i)) (suc n)) (λ t. let low = numbers_low n (suc n) t in omega arith))
