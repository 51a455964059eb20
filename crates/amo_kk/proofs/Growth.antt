-- The job that a step adds to the claims of a worker.
use Rattle.std.proofs.Common.{◌≡◌, ℕ, suc, ◌≤◌, true, false, List, [], ◌∷◌, ◌++◌, length, refl, sym, ap, ◌∙◌, arith, append-nil, length-append}
use Rattle.std.proofs.lemmas.Bool.{true≢false}
use Rattle.std.proofs.lemmas.List.{length_push}
use Rattle.amo_kk.specs.Alone.{is_claiming}
use Rattle.amo_kk.specs.Record.{is_over, wants_nothing}
use Rattle.amo_kk.specs.Step.{record_after_phase, record_after}
use Rattle.amo_params.specs.declared.givens.Givens.{Givens}
use Rattle.amo_kk.specs.declared.phase.Phase.{Phase}
use Rattle.amo_kk.specs.declared.phase.Phase.TheVariants.{Announcing, Claiming, Left}
use Rattle.amo_kk.specs.declared.model.Record.{Record}
use Rattle.amo_kk.proofs.Runs.{HasDone, has_done}

-- the jobs that the step of this phase claims
abbrev claimed_in : Phase → List ℕ
claimed_in (Claiming j) = j ∷ []
claimed_in phase = []

claims_are : (r x : Record) (phase : Phase) → HasDone r x phase → x.claimed ≡ r.claimed ++ claimed_in phase
claims_are r x (Announcing j) d = d.claimed
claims_are r x phase d = d.claimed

-- whoever has ended wants nothing
pub over_wants : (phase : Phase) → is_over phase ≡ true → wants_nothing phase ≡ true
over_wants Left h = refl
over_wants phase h = h

module _ (g : Givens) (p v : ℕ) (r : Record) where
  claims_after : (record_after g p v r).claimed ≡ r.claimed ++ claimed_in r.phase
  claims_after = claims_are r (record_after_phase g p v r r.phase) r.phase (has_done g p v r r.phase refl)

  -- a step that isn't a claim claims nothing
  pub claims_stay : is_claiming r.phase ≡ false → (record_after g p v r).claimed ≡ r.claimed
  claims_stay h = claims_after ∙ ap (λ l. r.claimed ++ l) (none r.phase h) ∙ append-nil r.claimed
    where
      none : (phase : Phase) → is_claiming phase ≡ false → claimed_in phase ≡ []
      none (Claiming j) h = absurd (true≢false h)
      none phase h = refl

  -- a claim of j claims j
  pub claims_grow : (j : ℕ) → r.phase ≡ Claiming j → (record_after g p v r).claimed ≡ r.claimed ++ j ∷ []
  claims_grow j is = claims_after ∙ ap (λ x. r.claimed ++ claimed_in x) is

  -- so a claim is one more
  pub claims_more : is_claiming r.phase ≡ true → suc (length r.claimed) ≤ length (record_after g p v r).claimed
  claims_more h = let one = one_of r.phase h in let size = ap length (claims_after ∙ ap (λ l. r.claimed ++ l) one.1) ∙ length_push r.claimed one.0 in omega arith
    where
      one_of : (phase : Phase) → is_claiming phase ≡ true → (j : ℕ) × (claimed_in phase ≡ j ∷ [])
      one_of (Claiming j) h = (j, refl)
      one_of phase h = absurd (true≢false (sym h))

  -- and no step takes a claim back
  pub keeps_claims : length r.claimed ≤ length (record_after g p v r).claimed
  keeps_claims = let size = ap length claims_after ∙ length-append r.claimed (claimed_in r.phase) in omega arith
