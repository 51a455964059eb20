-- Counting part by part: `tally` is `count`, kept closed so that a count of 64 isn't taken apart.
use Rattle.std.proofs.Common.{⊎_elim, ◌≡◌, ◌≢◌, ℕ, zero, suc, ◌+◌, ◌-◌, ◌<◌, ◌≤◌, Bool, true, false, refl, sym, ap, ◌∙◌, arith, add-zero, add-suc}
use Rattle.std.specs.Prelude.{if◌then◌else◌}
use Rattle.std.proofs.lemmas.Bool.{cases_lt, cases_eq}
use Rattle.std.proofs.lemmas.Bool.Decides.{nat_tests}
use Rattle.amo_sets.specs.Rank.{count}
use Rattle.amo_sets.proofs.Numbers.{count_le_all, count_nothing}

unfoldable pub tally : ℕ → (ℕ → Bool) → ℕ
tally n test = count n test

pub tally_count : (n : ℕ) (test : ℕ → Bool) → tally n test ≡ count n test
unfolding tally
tally_count n test = refl

pub tally-zero : (test : ℕ → Bool) → tally 0 test ≡ 0
unfolding tally
tally-zero test = refl

pub tally-suc : (n : ℕ) (test : ℕ → Bool) → tally (suc n) test ≡ tally n test + (if test (suc n) then 1 else 0)
unfolding tally
tally-suc n test = refl

pub tally_same : (n : ℕ) (t u : ℕ → Bool) → ((j : ℕ) → 1 ≤ j → j ≤ n → t j ≡ u j) → tally n t ≡ tally n u
tally_same zero t u h = tally-zero t ∙ sym (tally-zero u)
tally_same (suc n) t u h =
    tally-suc n t ∙ (λ i. tally_same n t u (λ j l m. h j l (omega arith)) i + (if h (suc n) (omega arith) (omega arith) i then 1 else 0)) ∙ sym (tally-suc n u)

pub tally_none : (n : ℕ) (t : ℕ → Bool) → ((j : ℕ) → 1 ≤ j → j ≤ n → t j ≡ false) → tally n t ≡ 0
tally_none n t h = tally_count n t ∙ count_nothing n t h

-- in two parts
pub tally-add : (a b : ℕ) (t : ℕ → Bool) → tally (a + b) t ≡ tally a t + tally b (λ r. t (a + r))
tally-add a zero t = ap (λ (n : ℕ). tally n t) (add-zero a) ∙ (let z = tally-zero (λ r. t (a + r)) in omega arith)
tally-add a (suc b) t =
    let before = tally-add a b t in
    let last : tally (suc (a + b)) t ≡ tally (a + b) t + (if t (a + suc b) then 1 else 0) = tally-suc (a + b) t ∙ ap (λ (n : ℕ). tally (a + b) t + (if t n then 1 else 0)) (sym (add-suc a b)) in
    let part = tally-suc b (λ r. t (a + r)) in
    ap (λ (n : ℕ). tally n t) (add-suc a b) ∙ sums (tally (suc (a + b)) t) (tally (a + b) t) (tally a t) (tally b (λ r. t (a + r))) (tally (suc b) (λ r. t (a + r))) (if t (a + suc b) then 1 else 0) last before part
  where
    sums : (all both first second more one : ℕ) → all ≡ both + one → both ≡ first + second → more ≡ second + one → all ≡ first + more
    sums all both first second more one e f g = omega arith

-- none passes above n
pub tally_rest : (n b : ℕ) (t : ℕ → Bool) → ((j : ℕ) → n < j → t j ≡ false) → tally (n + b) t ≡ tally n t
tally_rest n b t h = tally-add n b t ∙ ap (λ (m : ℕ). tally n t + m) (tally_none b (λ r. t (n + r)) (λ j l m. h (n + j) (omega arith))) ∙ add-zero (tally n t)

-- if none passes above n, a count past n is the count to n
pub tally_all : (n m : ℕ) (t : ℕ → Bool) → ((j : ℕ) → n < j → t j ≡ false) → n ≤ m → tally m t ≡ tally n t
tally_all n m t h le =
    let e : m ≡ n + (m - n) = omega arith in
    ap (λ (k : ℕ). tally k t) e ∙ tally_rest n (m - n) t h

tally_le : (n : ℕ) (t : ℕ → Bool) → tally n t ≤ n
tally_le n t = let e = tally_count n t in let l = count_le_all t n in omega arith

-- if none passes above n, no more than n pass
pub tally_le_range : (n m : ℕ) (t : ℕ → Bool) → ((j : ℕ) → n < j → t j ≡ false) → tally m t ≤ n
tally_le_range n m t h = ⊎_elim
    (λ (l : m < n). let e = tally_le m t in omega arith)
    (λ (l : n ≤ m). let e = tally_le n t in let s = tally_all n m t h l in omega arith)
    (cases_lt m n)

-- one more passes, and the others as before
pub count_gain : (n : ℕ) (t u : ℕ → Bool) (j : ℕ) → 1 ≤ j → j ≤ n → t j ≡ false → u j ≡ true → ((k : ℕ) → k ≢ j → u k ≡ t k) → count n u ≡ count n t + 1
count_gain zero t u j l h fails passes same = absurd (omega arith)
count_gain (suc n) t u j l h fails passes same = ⊎_elim
    (λ (e : j ≡ suc n). here (t (suc n)) (u (suc n)) (count n t) (count n u) (ap t (sym e) ∙ fails) (ap u (sym e) ∙ passes) (agree n (λ k m e'. omega arith)))
    (λ (ne : j ≢ suc n). below (t (suc n)) (u (suc n)) (count n t) (count n u) (same (suc n) (λ e. ne (sym e))) (count_gain n t u j l (omega arith) fails passes same))
    (cases_eq j (suc n))
  where
    agree : (m : ℕ) → ((k : ℕ) → k ≤ m → k ≢ j) → count m u ≡ count m t
    agree zero ne = refl
    agree (suc m) ne = λ i. agree m (λ k le. ne k (omega arith)) i + (if same (suc m) (ne (suc m) (omega arith)) i then 1 else 0)

    here : (a b : Bool) (c d : ℕ) → a ≡ false → b ≡ true → d ≡ c → d + (if b then 1 else 0) ≡ c + (if a then 1 else 0) + 1
    here a b c d fails passes e = grind arith

    below : (a b : Bool) (c d : ℕ) → b ≡ a → d ≡ c + 1 → d + (if b then 1 else 0) ≡ c + (if a then 1 else 0) + 1
    below a b c d e f = grind arith

-- where j doesn't pass, not all of 1..n do
pub count_lt : (n : ℕ) (t : ℕ → Bool) (j : ℕ) → 1 ≤ j → j ≤ n → t j ≡ false → count n t < n
count_lt zero t j l h fails = absurd (omega arith)
count_lt (suc n) t j l h fails = let r = count_lt n t j l in let all = count_le_all t n in grind (arith, nat_tests)

pub count_same : (n : ℕ) (t u : ℕ → Bool) → ((j : ℕ) → 1 ≤ j → j ≤ n → t j ≡ u j) → count n t ≡ count n u
count_same n t u h = sym (tally_count n t) ∙ tally_same n t u h ∙ tally_count n u
