-- Claims that are noted one by one, and list by list.
use Rattle.std.proofs.Common.{◌≡◌, ⊎_elim, ℕ, ◌+◌, ◌≤◌, Bool, true, false, ◌||◌, List, ◌∷◌, length, Option, Some, None, refl, sym, ap, ◌∙◌, subst}
use Rattle.std.specs.Prelude.{if◌then◌else◌}
use Rattle.std.specs.Option.{option_or}
use Rattle.std.proofs.lemmas.Bool.{cases_eq, eq-eqb, ne_eqb}
use Rattle.amo_sets.specs.Lists.{numbered, put}
use Rattle.amo_sets.specs.Sets.{has}
use Rattle.amo_sets.proofs.Numbers.{numbered-put_same, numbered-put_other}
use Rattle.amo_run_plan.specs.Became.{claimer_from}
use Rattle.amo_run_plan.specs.Noted.{claimed_by}

-- nobody comes later
pub alone : (o : Option ℕ) → option_or o None ≡ o
alone None = refl
alone (Some p) = refl

-- a claim to come is noted
pub claim_noted : (claimers : List (Option ℕ)) (p job k : ℕ) (later : List ℕ) (all : Option ℕ) → 1 ≤ k → k ≤ length claimers
    → option_or (numbered None claimers k) (claimed_by p (job ∷ later) k) ≡ all
    → option_or (numbered None (put claimers job (option_or (numbered None claimers job) (Some p))) k) (claimed_by p later k) ≡ all
claim_noted claimers p job k later all low high h = ⊎_elim
    (λ (e : job ≡ k). same e)
    (λ n. ap (λ (o : Option ℕ). option_or o (claimed_by p later k)) (numbered-put_other None (option_or (numbered None claimers job) (Some p)) claimers job k (λ e. n (sym e)))
    ∙ ap (λ b. option_or (numbered None claimers k) (if b || has later k then Some p else None)) (sym (ne_eqb job k n)) ∙ h)
    (cases_eq job k)
  where
    same : job ≡ k → option_or (numbered None (put claimers job (option_or (numbered None claimers job) (Some p))) k) (claimed_by p later k) ≡ all
    same e = subst (λ j. option_or (numbered None (put claimers j (option_or (numbered None claimers j) (Some p))) k) (claimed_by p later k) ≡ all) (sym e)
        (ap (λ (o : Option ℕ). option_or o (claimed_by p later k)) (numbered-put_same None (option_or (numbered None claimers k) (Some p)) claimers k low high)
        ∙ twice (has later k) (numbered None claimers k)
        ∙ sym (ap (λ b. option_or (numbered None claimers k) (if b || has later k then Some p else None)) (eq-eqb job k e)) ∙ h)
      where
        twice : (b : Bool) (o : Option ℕ) → option_or (option_or o (Some p)) (if b then Some p else None) ≡ option_or o (Some p)
        twice b None = refl
        twice b (Some q) = refl

-- a list to come is noted
pub claims_noted : (o : Option ℕ) (p k : ℕ) (claims : List ℕ) (later : List (List ℕ)) → option_or (option_or o (claimed_by p claims k)) (claimer_from (p + 1) later k) ≡ option_or o (claimer_from p (claims ∷ later) k)
claims_noted None p k claims later = joined (has claims k)
  where
    joined : (b : Bool) → option_or (if b then Some p else None) (claimer_from (p + 1) later k) ≡ (if b then Some p else claimer_from (p + 1) later k)
    joined true = refl
    joined false = refl
claims_noted (Some q) p k claims later = refl
