-- Numbers without a rank, and the contract of `rank_without` for a number that has one.
use Rattle.std.proofs.Common.{⊎_elim, ◌≡◌, ◌⊎◌, inl, inr, ℕ, zero, suc, ◌+◌, ◌<◌, ◌≤◌, Bool, true, false, ◌&&◌, refl, sym, ap, ◌∙◌, arith}
use Rattle.std.specs.Prelude.{◌==◌, if◌then◌else◌}
use Rattle.std.proofs.lemmas.Bool.{and_from, eq-eqb}
use Rattle.std.proofs.lemmas.Bool.Decides.{nat_tests}
use Rattle.amo_sets.specs.Rank.{count, has_rank, number_of_rank}
use Rattle.amo_sets.proofs.Numbers.{IsRanked, count_more, count_pos, ranked_found}

pub number_of_no_rank : (n : ℕ) (test : ℕ → Bool) (i : ℕ) → (i ≡ 0) ⊎ (count n test < i) → number_of_rank n test i ≡ 0
number_of_no_rank zero test i h = refl
number_of_no_rank (suc n) test i h = ⊎_elim
    (λ (e : i ≡ 0). ap (λ b. if b then suc n else number_of_rank n test i) (none (test (suc n)) (count n test) i e) ∙ number_of_no_rank n test i (inl e))
    (λ (l : count (suc n) test < i). ap (λ b. if b then suc n else number_of_rank n test i) (above (test (suc n)) (count n test) i l) ∙ number_of_no_rank n test i (inr (omega arith)))
    h
  where
    none : (b : Bool) (c i : ℕ) → i ≡ 0 → (b && (c + (if b then 1 else 0) == i)) ≡ false
    none b c i e = grind (arith, nat_tests)

    above : (b : Bool) (c i : ℕ) → c + (if b then 1 else 0) < i → (b && (c + (if b then 1 else 0) == i)) ≡ false
    above b c i l = grind (arith, nat_tests)

-- a rank that a number has lies within 1..count
pub rank_within : (n : ℕ) (test : ℕ → Bool) (i e : ℕ) → IsRanked n test i e → (1 ≤ i) × (i ≤ count n test)
rank_within n test i e r =
    let first = count_pos e test e r.low (omega arith) r.passes in
    let more = count_more test e n r.high in
    let is = r.rank in
    (omega arith, omega arith)

pub has_rank_of : (n : ℕ) (test : ℕ → Bool) (i e : ℕ) → IsRanked n test i e → has_rank test i e ≡ true
has_rank_of n test i e r = and_from (test e) (count e test == i) r.passes (eq-eqb (count e test) i r.rank)

pub number_of : (n : ℕ) (test : ℕ → Bool) (i e : ℕ) → IsRanked n test i e → e ≡ number_of_rank n test i
number_of n test i e r = sym (ranked_found n test i e r.low r.high r.passes r.rank)
