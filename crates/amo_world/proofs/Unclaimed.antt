-- The set of the unclaimed jobs, as bits.
use Rattle.std.proofs.Common.{◌≡◌, ⊎_elim, ℕ, zero, suc, ◌≤◌, Bool, true, false, not, ◌&&◌, List, [], ◌∷◌, ◌++◌, length, replicate, refl, sym, ap, ◌∙◌, arith, append-nil}
use Rattle.std.specs.Prelude.{if◌then◌else◌, ◌==◌, nat_le}
use Rattle.std.proofs.lemmas.Bool.{cases_eq, and_parts, leb-true}
use Rattle.std.proofs.lemmas.Bool.Decides.{nat_tests}
use Rattle.std.proofs.lemmas.List.{get_or-replicate, length-replicate}
use Rattle.amo_sets.specs.Lists.{numbered, put, table}
use Rattle.amo_sets.specs.Sets.{has, without_number, members, set_of_bits}
use Rattle.amo_sets.proofs.Numbers.{numbered-put_same, numbered-put_other, length-put}
use Rattle.amo_sets.proofs.Sets.{members_agree}
use Rattle.amo_params.specs.Givens.{is_within}
use Rattle.amo_kk.specs.Object.{is_step, is_here, has_in_hand}
use Rattle.amo_kk.specs.declared.event.Event.TheVariants.{Claimed}
use Rattle.amo_kk.proofs.Claims.{claim_parts}
use Rattle.amo_world.specs.Views.{StateView}

without-append : (j : ℕ) (xs ys : List ℕ) → without_number j (xs ++ ys) ≡ without_number j xs ++ without_number j ys
without-append j [] ys = refl
without-append j (x ∷ xs) ys = step (j == x) (without-append j xs ys)
  where
    step : (b : Bool) → without_number j (xs ++ ys) ≡ without_number j xs ++ without_number j ys
        → (if b then without_number j (xs ++ ys) else x ∷ without_number j (xs ++ ys)) ≡ (if b then without_number j xs else x ∷ without_number j xs) ++ without_number j ys
    step true h = h
    step false h = ap (λ l. x ∷ l) h

without-members : (n : ℕ) (t : ℕ → Bool) (j : ℕ) → without_number j (members n t) ≡ members n (λ k. t k && not (j == k))
without-members zero t j = refl
without-members (suc n) t j = step (t (suc n)) (without-members n t j)
  where
    last : (b : Bool) (xs ys : List ℕ) → xs ≡ ys → xs ++ (if b then [] else suc n ∷ []) ≡ (if not b then ys ++ suc n ∷ [] else ys)
    last true xs ys e = append-nil xs ∙ e
    last false xs ys e = ap (λ l. l ++ suc n ∷ []) e

    step : (b : Bool) → without_number j (members n t) ≡ members n (λ k. t k && not (j == k))
        → without_number j (if b then members n t ++ suc n ∷ [] else members n t) ≡ (if b && not (j == suc n) then members n (λ k. t k && not (j == k)) ++ suc n ∷ [] else members n (λ k. t k && not (j == k)))
    step true h = without-append j (members n t) (suc n ∷ []) ∙ last (j == suc n) (without_number j (members n t)) (members n (λ k. t k && not (j == k))) h
    step false h = h

-- the bit of j is taken out
pub bits_without : (bits : List Bool) (j : ℕ) → 1 ≤ j → j ≤ length bits → set_of_bits (put bits j false) ≡ without_number j (set_of_bits bits)
bits_without bits j l h =
    ap (λ n. members n (numbered false (put bits j false))) (length-put false bits j)
    ∙ members_agree (length bits) (numbered false (put bits j false)) (λ k. numbered false bits k && not (j == k)) (λ k a b. same k)
    ∙ sym (without-members (length bits) (numbered false bits) j)
  where
    gone : (b : Bool) (k : ℕ) → k ≡ j → (b && not (j == k)) ≡ false
    gone true k e = grind (arith, nat_tests)
    gone false k e = refl

    stays : (b : Bool) (k : ℕ) → (k ≡ j → ⊥) → (b && not (j == k)) ≡ b
    stays true k n = grind (arith, nat_tests)
    stays false k n = refl

    same : (k : ℕ) → numbered false (put bits j false) k ≡ (numbered false bits k && not (j == k))
    same k = ⊎_elim
        (λ (e : k ≡ j). ap (λ x. numbered false (put bits j false) x) e ∙ numbered-put_same false false bits j l h ∙ sym (gone (numbered false bits k) k e))
        (λ (n : k ≡ j → ⊥). numbered-put_other false false bits j k n ∙ sym (stays (numbered false bits k) k n))
        (cases_eq k j)

all_members : (n : ℕ) → members n (λ _. true) ≡ table n (λ j. j)
all_members zero = refl
all_members (suc n) = ap (λ l. l ++ suc n ∷ []) (all_members n)

-- at first all jobs are in it
pub bits_full : (n : ℕ) → set_of_bits (replicate n true) ≡ table n (λ j. j)
bits_full n =
    ap (λ k. members k (numbered false (replicate n true))) (length-replicate n true)
    ∙ members_agree n (numbered false (replicate n true)) (λ _. true) each
    ∙ all_members n
  where
    each : (k : ℕ) → 1 ≤ k → k ≤ n → numbered false (replicate n true) k ≡ true
    each zero l h = absurd (omega arith)
    each (suc k) l h = get_or-replicate n k true false (omega arith)

-- a claim that is a step is of a worker and a job
pub claim_range : (x v : StateView) (p j : ℕ) → x ≡ v → is_step v.givens v.object (Claimed p j) ≡ true → (1 ≤ p) × (1 ≤ j) × (j ≤ x.givens.jobs)
claim_range x v p j same step =
    let s : is_step x.givens x.object (Claimed p j) ≡ true = ap (λ (y : StateView). is_step y.givens y.object (Claimed p j)) same ∙ step in
    let parts = claim_parts x.givens x.object p j s in
    let inner = and_parts (is_here x.givens x.object p) (is_within x.givens.jobs j && (has_in_hand x.object p 0 && has x.object.unclaimed j)) s in
    let job = and_parts (is_within x.givens.jobs j) (has_in_hand x.object p 0 && has x.object.unclaimed j) inner.1 in
    let high = and_parts (nat_le 1 j) (nat_le j x.givens.jobs) job.0 in
    (parts.0.low, parts.0.job, leb-true j x.givens.jobs high.1)
