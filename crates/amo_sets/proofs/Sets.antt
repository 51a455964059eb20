-- A set as bits give it: its members, its size, and one more member.
use Rattle.std.proofs.Common.{◌≡◌, ⊎_elim, ℕ, zero, suc, ◌<◌, ◌≤◌, Bool, true, false, ◌&&◌, ◌||◌, List, [], ◌∷◌, ◌++◌, length, get_or, replicate, refl, sym, ap, ◌∙◌, subst, arith}
use Rattle.std.specs.Prelude.{if◌then◌else◌, nat_lt, nat_le, ◌==◌}
use Rattle.std.proofs.lemmas.Bool.{cases_eq, cases_lt, eq-eqb, ne_eqb, lt-ltb, le-ltb, le-leb, and_from, and_right, or_right}
use Rattle.std.proofs.lemmas.List.{get_or_past, get_or-replicate, length-replicate}
use Rattle.std.proofs.lemmas.Bool.Decides.{nat_tests}
use Rattle.amo_sets.specs.Sets.{has, with_number, members, set_of_bits}
use Rattle.amo_sets.specs.Lists.{numbered, put}
use Rattle.amo_sets.proofs.Numbers.{has-append, is_itself, numbered-put_same, numbered-put_other, length-put}

-- tests that agree on 1..n give one list
pub members_agree : (n : ℕ) (t u : ℕ → Bool) → ((k : ℕ) → 1 ≤ k → k ≤ n → t k ≡ u k) → members n t ≡ members n u
members_agree zero t u h = refl
members_agree (suc n) t u h =
    step (t (suc n)) (u (suc n)) (members n t) (members n u) (h (suc n) (omega arith) (omega arith)) (members_agree n t u (λ k l m. h k l (omega arith)))
  where
    step : (a b : Bool) (xs ys : List ℕ) → a ≡ b → xs ≡ ys → (if a then xs ++ suc n ∷ [] else xs) ≡ (if b then ys ++ suc n ∷ [] else ys)
    step a b xs ys e f = λ i. if e i then f i ++ suc n ∷ [] else f i

-- what the list has
pub has-members : (n : ℕ) (t : ℕ → Bool) (j : ℕ) → has (members n t) j ≡ ((nat_le 1 j && nat_le j n) && t j)
has-members zero t j = none j (t j)
  where
    none : (j : ℕ) (b : Bool) → false ≡ ((nat_le 1 j && nat_le j 0) && b)
    none j b = grind (arith, nat_tests)
has-members (suc n) t j = step (t (suc n)) refl (has-members n t j)
  where
    at : (b c : Bool) → c ≡ b → (suc n ≡ j → c ≡ t j) → (((nat_le 1 j && nat_le j n) && t j) || (if b then (suc n == j) || false else false)) ≡ ((nat_le 1 j && nat_le j (suc n)) && t j)
    at b c e f = grind (arith, nat_tests)

    step : (b : Bool) → t (suc n) ≡ b → has (members n t) j ≡ ((nat_le 1 j && nat_le j n) && t j) → has (if b then members n t ++ suc n ∷ [] else members n t) j ≡ ((nat_le 1 j && nat_le j (suc n)) && t j)
    step true e h = has-append (members n t) (suc n ∷ []) j ∙ ap (λ c. c || ((suc n == j) || false)) h ∙ at true (t (suc n)) e (λ x. ap t x)
    step false e h = h ∙ same ((nat_le 1 j && nat_le j n) && t j) ∙ at false (t (suc n)) e (λ x. ap t x)
      where
        same : (c : Bool) → c ≡ (c || false)
        same c = grind arith

-- one more number at its place
with_last : (j : ℕ) (xs : List ℕ) → ((k : ℕ) → has xs k ≡ true → k < j) → with_number j xs ≡ xs ++ j ∷ []
with_last j [] h = refl
with_last j (x ∷ xs) h =
    let l = h x (is_itself x (has xs x)) in
    ap (λ b. if b then x ∷ xs else (if nat_lt j x then j ∷ x ∷ xs else x ∷ with_number j xs)) (ne_eqb j x (λ e. omega arith))
    ∙ ap (λ b. if b then j ∷ x ∷ xs else x ∷ with_number j xs) (le-ltb j x (omega arith))
    ∙ ap (λ l. x ∷ l) (with_last j xs (λ k m. h k (or_right (x == k) (has xs k) m)))

with_there : (j : ℕ) (xs : List ℕ) → ((k : ℕ) → has xs k ≡ true → k < j) → with_number j (xs ++ j ∷ []) ≡ xs ++ j ∷ []
with_there j [] h = ap (λ b. if b then j ∷ [] else (if nat_lt j j then j ∷ j ∷ [] else j ∷ j ∷ [])) (eq-eqb j j refl)
with_there j (x ∷ xs) h =
    let l = h x (is_itself x (has xs x)) in
    ap (λ b. if b then x ∷ (xs ++ j ∷ []) else (if nat_lt j x then j ∷ x ∷ (xs ++ j ∷ []) else x ∷ with_number j (xs ++ j ∷ []))) (ne_eqb j x (λ e. omega arith))
    ∙ ap (λ b. if b then j ∷ x ∷ (xs ++ j ∷ []) else x ∷ with_number j (xs ++ j ∷ [])) (le-ltb j x (omega arith))
    ∙ ap (λ l. x ∷ l) (with_there j xs (λ k m. h k (or_right (x == k) (has xs k) m)))

with_before : (j y : ℕ) (xs : List ℕ) → j < y → with_number j (xs ++ y ∷ []) ≡ with_number j xs ++ y ∷ []
with_before j y [] h =
    ap (λ b. if b then y ∷ [] else (if nat_lt j y then j ∷ y ∷ [] else y ∷ j ∷ [])) (ne_eqb j y (λ e. omega arith)) ∙ ap (λ b. if b then j ∷ y ∷ [] else y ∷ j ∷ []) (lt-ltb j y h)
with_before j y (x ∷ xs) h = step (j == x) (nat_lt j x) (with_before j y xs h)
  where
    step : (a b : Bool) → with_number j (xs ++ y ∷ []) ≡ with_number j xs ++ y ∷ []
        → (if a then x ∷ (xs ++ y ∷ []) else (if b then j ∷ x ∷ (xs ++ y ∷ []) else x ∷ with_number j (xs ++ y ∷ []))) ≡ (if a then x ∷ xs else (if b then j ∷ x ∷ xs else x ∷ with_number j xs)) ++ y ∷ []
    step true b e = refl
    step false true e = refl
    step false false e = ap (λ l. x ∷ l) e

members_le : (n : ℕ) (t : ℕ → Bool) (k : ℕ) → has (members n t) k ≡ true → k ≤ n
members_le n t k h = le k n (t k) (sym (has-members n t k) ∙ h)
  where
    le : (k n : ℕ) (b : Bool) → ((nat_le 1 k && nat_le k n) && b) ≡ true → k ≤ n
    le k n b e = grind (arith, nat_tests)

-- setting the bit of j puts j into the list
pub with_member : (n : ℕ) (t : ℕ → Bool) (j : ℕ) → 1 ≤ j → j ≤ n → with_number j (members n t) ≡ members n (λ k. (j == k) || t k)
with_member zero t j l h = absurd (omega arith)
with_member (suc n) t j l h = ⊎_elim last (λ m. before m (with_member n t j l m)) (cases_lt n j)
  where
    last : n < j → with_number j (members (suc n) t) ≡ members (suc n) (λ k. (j == k) || t k)
    last m =
        let e : j ≡ suc n = omega arith in
        let same : members n t ≡ members n (λ k. (j == k) || t k) = members_agree n t (λ k. (j == k) || t k) (λ k a b. sym (ap (λ c. c || t k) (ne_eqb j k (λ x. omega arith)))) in
        subst (λ x. with_number x (members (suc n) t) ≡ members (suc n) (λ k. (x == k) || t k)) (sym e) (
        go (t (suc n)) ∙ ap (λ l. l ++ suc n ∷ []) (subst (λ x. members n t ≡ members n (λ k. (x == k) || t k)) e same) ∙ sym (ap (λ b. if b || t (suc n) then members n (λ k. (suc n == k) || t k) ++ suc n ∷ [] else members n (λ k. (suc n == k) || t k)) (eq-eqb (suc n) (suc n) refl)))
      where
        go : (b : Bool) → with_number (suc n) (if b then members n t ++ suc n ∷ [] else members n t) ≡ members n t ++ suc n ∷ []
        go true = with_there (suc n) (members n t) (λ k m. let x = members_le n t k m in omega arith)
        go false = with_last (suc n) (members n t) (λ k m. let x = members_le n t k m in omega arith)

    before : j ≤ n → with_number j (members n t) ≡ members n (λ k. (j == k) || t k) → with_number j (members (suc n) t) ≡ members (suc n) (λ k. (j == k) || t k)
    before m rest = go (t (suc n)) rest ∙ sym (ap (λ b. if b || t (suc n) then members n (λ k. (j == k) || t k) ++ suc n ∷ [] else members n (λ k. (j == k) || t k)) (ne_eqb j (suc n) (λ x. omega arith)))
      where
        go : (b : Bool) → with_number j (members n t) ≡ members n (λ k. (j == k) || t k) → with_number j (if b then members n t ++ suc n ∷ [] else members n t) ≡ (if b then members n (λ k. (j == k) || t k) ++ suc n ∷ [] else members n (λ k. (j == k) || t k))
        go true e = with_before j (suc n) (members n t) (omega arith) ∙ ap (λ l. l ++ suc n ∷ []) e
        go false e = e

-- bits

-- a number is in the set of the bits just where its bit is true
pub has-set_of_bits : (bits : List Bool) (j : ℕ) → has (set_of_bits bits) j ≡ numbered false bits j
has-set_of_bits bits zero = has-members (length bits) (numbered false bits) zero
has-set_of_bits bits (suc k) = has-members (length bits) (numbered false bits) (suc k) ∙ ⊎_elim
    (λ (l : k < length bits). ap (λ b. b && get_or bits k false) (and_from _ _ (le-leb 1 (suc k) (omega arith)) (le-leb (suc k) (length bits) (omega arith))))
    (λ (l : length bits ≤ k). ap (λ b. (nat_le 1 (suc k) && nat_le (suc k) (length bits)) && b) (get_or_past bits k false l) ∙ and_right (nat_le 1 (suc k) && nat_le (suc k) (length bits)) false refl ∙ sym (get_or_past bits k false l))
    (cases_lt k (length bits))

-- setting the bit of j puts j into the set
pub set_of_bits-put : (bits : List Bool) (j : ℕ) → 1 ≤ j → j ≤ length bits → set_of_bits (put bits j true) ≡ with_number j (set_of_bits bits)
set_of_bits-put bits j l h =
    ap (λ n. members n (numbered false (put bits j true))) (length-put true bits j)
    ∙ members_agree (length bits) (numbered false (put bits j true)) (λ k. (j == k) || numbered false bits k) bit
    ∙ sym (with_member (length bits) (numbered false bits) j l h)
  where
    bit : (k : ℕ) → 1 ≤ k → k ≤ length bits → numbered false (put bits j true) k ≡ ((j == k) || numbered false bits k)
    bit k a b = ⊎_elim
        (λ (e : j ≡ k). subst (λ x. numbered false (put bits j true) x ≡ ((j == x) || numbered false bits x)) e (numbered-put_same false true bits j l h ∙ sym (ap (λ c. c || numbered false bits j) (eq-eqb j j refl))))
        (λ n. numbered-put_other false true bits j k (λ e. n (sym e)) ∙ sym (ap (λ c. c || numbered false bits k) (ne_eqb j k n)))
        (cases_eq j k)

-- with no bit set, the set is empty
pub members_none : (n : ℕ) → members n (λ _. false) ≡ []
members_none zero = refl
members_none (suc n) = members_none n

pub set_of_bits-replicate : (n : ℕ) → set_of_bits (replicate n false) ≡ []
set_of_bits-replicate n = members_agree (length (replicate {A = Bool} n false)) (numbered false (replicate n false)) (λ _. false) (λ k a b. none k) ∙ members_none (length (replicate {A = Bool} n false))
  where
    none : (k : ℕ) → numbered false (replicate n false) k ≡ false
    none zero = refl
    none (suc k) = ⊎_elim (λ (l : k < n). get_or-replicate n k false false l) (λ (l : n ≤ k). get_or_past (replicate n false) k false (let e : length (replicate {A = Bool} n false) ≡ n = length-replicate n false in omega arith)) (cases_lt k n)
