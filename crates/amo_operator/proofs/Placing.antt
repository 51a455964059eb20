-- Findings that are in place, and one that isn't.
use Rattle.std.proofs.Common.{◌≡◌, ℕ, zero, suc, ◌-◌, Bool, ◌&&◌, true, false, List, [], ◌∷◌, ◌++◌, take, Option, None, Some, refl, sym, ap, subst, ◌∙◌, append_assoc, append-nil}
use Rattle.std.specs.Prelude.{slice_get, IfSome}
use Rattle.amo_run_log.specs.declared.finding.Finding.{Finding}
use Rattle.amo_run_log.specs.declared.journal.Attempt.{Attempt}
use Rattle.amo_run_log.specs.Findings.{may_join, AreInPlace, IsOutOfPlace}
use Rattle.amo_operator.specs.Knowing.{are_in_place}

never : (b : Bool) → b && false ≡ false
never true = refl
never false = refl

module _ (js : List (List Attempt)) where
  placed_from : (before fs : List Finding) → ((k : ℕ) (f : Finding) → slice_get fs k ≡ Some f → may_join js (before ++ take k fs) f ≡ true) → are_in_place js before fs ≡ true
  placed_from before [] each = refl
  placed_from before (f ∷ fs) each =
      let first : may_join js before f ≡ true = subst (λ (b : List Finding). may_join js b f ≡ true) (append-nil before) (each 0 f refl) in
      let rest : are_in_place js (before ++ f ∷ []) fs ≡ true =
      placed_from (before ++ f ∷ []) fs (λ k g is. subst (λ (b : List Finding). may_join js b g ≡ true) (sym (append_assoc before (f ∷ []) (take k fs))) (each (suc k) g is)) in
      ap (λ b. b && are_in_place js (before ++ f ∷ []) fs) first ∙ rest

  pub placed : (fs : List Finding) → AreInPlace js fs → are_in_place js [] fs ≡ true
  placed fs all = placed_from [] fs all

  misplaced_from : (before fs : List Finding) (k : ℕ) (f : Finding) → slice_get fs k ≡ Some f → may_join js (before ++ take k fs) f ≡ false → are_in_place js before fs ≡ false
  misplaced_from before [] zero f is low = absurd (cc)
  misplaced_from before [] (suc k) f is low = absurd (cc)
  misplaced_from before (g ∷ fs) zero f is low =
      let same : f ≡ g = cc in
      let first : may_join js before g ≡ false =
      subst (λ (h : Finding). may_join js before h ≡ false) same (subst (λ (b : List Finding). may_join js b f ≡ false) (append-nil before) low) in
      ap (λ b. b && are_in_place js (before ++ g ∷ []) fs) first
  misplaced_from before (g ∷ fs) (suc k) f is low =
      let rest : are_in_place js (before ++ g ∷ []) fs ≡ false =
      misplaced_from (before ++ g ∷ []) fs k f is (subst (λ (b : List Finding). may_join js b f ≡ false) (sym (append_assoc before (g ∷ []) (take k fs))) low) in
      ap (λ r. may_join js before g && r) rest ∙ never (may_join js before g)

  pub misplaced : (fs : List Finding) (n : ℕ) → IsOutOfPlace js fs n → are_in_place js [] fs ≡ false
  misplaced fs n it = misplaced_from [] fs (n - 1) it.1 it.2 it.3

-- the same of what may be a number
pub misplaced_if : (js : List (List Attempt)) (fs : List Finding) (o : Option ℕ) → IfSome o (IsOutOfPlace js fs) → IfSome o (λ n. are_in_place js [] fs ≡ false)
misplaced_if js fs None it = it
misplaced_if js fs (Some n) it = misplaced js fs n it
