-- The journals that are left.
use Rattle.std.proofs.Common.{◌≡◌, ℕ, suc, ◌+◌, ◌-◌, ◌≤◌, List, ◌∷◌, ap, subst, arith}
use Rattle.amo_params.specs.declared.limits.TheConstants.{MAX_WORKERS}
use Rattle.amo_dir_admission.specs.declared.model.Purpose.{Purpose}
use Rattle.amo_dir_admission.specs.declared.model.RunFile.{RunFile}
use Rattle.amo_dir_admission.specs.declared.model.RunFile.TheVariants.{Journal}
use Rattle.amo_dir_admission.specs.Files.{journals_from, journals_since}
use Rattle.amo_dir_admission.specs.Phase.{Phase, Fills, Puts, Whole}

-- the first of them is the next
pub since : (w : ℕ) → w ≤ MAX_WORKERS → journals_since w ≡ Journal w ∷ journals_since (w + 1)
since w few =
    let n : (MAX_WORKERS + 1) - w ≡ suc ((MAX_WORKERS + 1) - (w + 1)) = omega arith in
    ap (journals_from w) n

module _ (stands : Phase → Type 0) (w : ℕ) (few : w ≤ MAX_WORKERS) where
  pub fills_next : stands (Fills (journals_since w)) → stands (Fills (Journal w ∷ journals_since (w + 1)))
  fills_next here = subst (λ (fs : List RunFile). stands (Fills fs)) (since w few) here

  pub puts_next : stands (Puts (journals_since w)) → stands (Puts (Journal w ∷ journals_since (w + 1)))
  puts_next here = subst (λ (fs : List RunFile). stands (Puts fs)) (since w few) here

  pub whole_next : (p : Purpose) → stands (Whole p (journals_since w)) → stands (Whole p (Journal w ∷ journals_since (w + 1)))
  whole_next p here = subst (λ (fs : List RunFile). stands (Whole p fs)) (since w few) here
