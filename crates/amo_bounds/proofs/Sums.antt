-- Sums over the workers.
use Rattle.std.proofs.Common.{◌≡◌, ◌≢◌, ⊎_elim, ℕ, zero, suc, ◌+◌, ◌*◌, ◌<◌, ◌≤◌, refl, sym, ap, subst, arith}
use Rattle.std.specs.Prelude.{◌==◌, if◌then◌else◌}
use Rattle.std.proofs.lemmas.Bool.{cases_eq, eq-eqb, ne_eqb}

-- f 1 + .. + f n
abbrev pub total : ℕ → (ℕ → ℕ) → ℕ
total zero f = 0
total (suc n) f = total n f + f (suc n)

-- f, but k at p
abbrev pub with_at : ℕ → ℕ → (ℕ → ℕ) → ℕ → ℕ
with_at p k f q = if q == p then k else f q

pub with_at_same : (p k : ℕ) (f : ℕ → ℕ) → with_at p k f p ≡ k
with_at_same p k f = ap (λ b. if b then k else f p) (eq-eqb p p refl)

pub with_at_other : (p k q : ℕ) (f : ℕ → ℕ) → q ≢ p → with_at p k f q ≡ f q
with_at_other p k q f n = ap (λ b. if b then k else f q) (ne_eqb q p n)

total_same : (n : ℕ) (f h : ℕ → ℕ) → ((q : ℕ) → 1 ≤ q → q ≤ n → f q ≡ h q) → total n f ≡ total n h
total_same zero f h e = refl
total_same (suc n) f h e = let here = e (suc n) (omega arith) (omega arith) in let rest = total_same n f h (λ q a b. e q a (omega arith)) in omega arith

pub total_constant : (n k : ℕ) → total n (λ _. k) ≡ n * k
total_constant zero k = omega arith
total_constant (suc n) k = let rest = total_constant n k in grind arith

-- where two sums differ at p alone
pub total_changed : (n p : ℕ) (f h : ℕ → ℕ) → 1 ≤ p → p ≤ n → ((q : ℕ) → q ≢ p → h q ≡ f q) → total n h + f p ≡ total n f + h p
total_changed zero p f h a b e = absurd (omega arith)
total_changed (suc n) p f h a b e = ⊎_elim
    (λ (i : p ≡ suc n).
    let rest = total_same n h f (λ q c d. e q (λ x. omega arith)) in
    let l = ap f i in let m = ap h i in omega arith)
    (λ n_is. let rest = total_changed n p f h a (omega arith) e in let here = e (suc n) (λ x. n_is (sym x)) in omega arith)
    (cases_eq p (suc n))

pub total_with : (n p k : ℕ) (f : ℕ → ℕ) → 1 ≤ p → p ≤ n → total n (with_at p k f) + f p ≡ total n f + k
total_with n p k f a b = let c = total_changed n p f (with_at p k f) a b (λ q d. with_at_other p k q f d) in let s = with_at_same p k f in omega arith

pub total_le : (n : ℕ) (f h : ℕ → ℕ) → ((q : ℕ) → 1 ≤ q → q ≤ n → f q ≤ h q) → total n f ≤ total n h
total_le zero f h l = omega arith
total_le (suc n) f h l = let here = l (suc n) (omega arith) (omega arith) in let rest = total_le n f h (λ q a b. l q a (omega arith)) in omega arith

pub total_less : (n q : ℕ) (f h : ℕ → ℕ) → 1 ≤ q → q ≤ n → f q < h q → ((i : ℕ) → i ≢ q → f i ≤ h i) → total n f < total n h
total_less zero q f h a b l rest = absurd (omega arith)
total_less (suc n) q f h a b l rest = ⊎_elim
    (λ (e : q ≡ suc n). let here : f (suc n) < h (suc n) = subst (λ x. f x < h x) e l in let all = total_le n f h (λ i c d. rest i (λ x. omega arith)) in omega arith)
    (λ m. let below = total_less n q f h a (omega arith) l rest in let here = rest (suc n) (λ x. m (sym x)) in omega arith)
    (cases_eq q (suc n))

pub times_le : (u a b : ℕ) → a ≤ b → u * a ≤ u * b
times_le u a b l = grind arith
