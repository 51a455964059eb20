-- The workers that are left.
use Rattle.std.proofs.Common.{◌≡◌, ℕ, suc, ◌+◌, ◌-◌, ◌≤◌, List, ◌∷◌, ap, subst, arith}
use Rattle.amo_params.specs.declared.limits.TheConstants.{MAX_WORKERS}
use Rattle.amo_run_files.specs.declared.round_file.RoundFile.{RoundFile}
use Rattle.std.specs.Prelude.{Option}
use Rattle.amo_operator.specs.declared.model.Command.{Command}
use Rattle.amo_operator.specs.Knowing.{workers_from, workers_since}
use Rattle.amo_operator.specs.Phase.{Phase, Texts, Looks, Reads}
use Rattle.amo_operator.specs.Protocol.{reads_to}

-- the first of them is the next
pub since : (w : ℕ) → w ≤ MAX_WORKERS → workers_since w ≡ w ∷ workers_since (w + 1)
since w few =
    let n : (MAX_WORKERS + 1) - w ≡ suc ((MAX_WORKERS + 1) - (w + 1)) = omega arith in
    ap (workers_from w) n

module _ (stands : Phase → Type 0) (command : Command) (last : Option RoundFile) (t : Texts) (w : ℕ) (few : w ≤ MAX_WORKERS) where
  pub reads_next : stands (reads_to command last t (workers_since w)) → stands (Reads command last t (w ∷ workers_since (w + 1)))
  reads_next here = subst (λ (ws : List ℕ). stands (reads_to command last t ws)) (since w few) here

  pub looks_next : stands (Looks command last t (workers_since w)) → stands (Looks command last t (w ∷ workers_since (w + 1)))
  looks_next here = subst (λ (ws : List ℕ). stands (Looks command last t ws)) (since w few) here
