-- The job that may be performed, before and after a step.
use Rattle.std.proofs.Common.{◌≡◌, ◌≢◌, ◌⊎◌, ⊎_elim, ℕ, Bool, true, false, [], ◌∷◌, refl, sym, ap, ◌∙◌}
use Rattle.std.specs.Prelude.{if◌then◌else◌}
use Rattle.std.proofs.lemmas.Bool.{true≢false, eq-eqb, ne_eqb}
use Rattle.amo_kk.specs.Record.{is_over, wants_nothing, job_in_hand}
use Rattle.amo_kk.specs.Step.{record_after, record_after_phase, shown, events_of, ended_if_over}
use Rattle.amo_params.specs.declared.givens.Givens.{Givens}
use Rattle.amo_kk.specs.declared.phase.Phase.{Phase}
use Rattle.amo_kk.specs.declared.phase.Phase.TheVariants.{Announcing, Trying, Reading, Claiming, Holding}
use Rattle.amo_kk.specs.declared.model.Record.{Record}
use Rattle.amo_kk.specs.declared.event.Event.TheVariants.{Ended as EndedEvent}
use Rattle.amo_kk.specs.declared.event.Shown.{Shown}
use Rattle.amo_kk.specs.declared.event.Shown.TheVariants.{Quiet, Claimed, Done, DoneEnded, Ended, Left as LeftShown}
use Rattle.amo_kk.proofs.Runs.{HasDone, has_done}
use Rattle.amo_restart.specs.Return.{entries_for}
use Rattle.amo_restart.specs.Story.{may_perform}

-- what another worker shows changes nothing
pub other_may : (p q h : ℕ) (s : Shown) → p ≢ q → may_perform q h (entries_for (events_of p s)) ≡ h
other_may p q h Quiet n = refl
other_may p q h (Claimed j) n = ap (λ b. if b then j else h) (ne_eqb p q n)
other_may p q h (Done j) n = ap (λ b. if b then 0 else h) (ne_eqb p q n)
other_may p q h (DoneEnded j) n = ap (λ b. if b then 0 else h) (ne_eqb p q n)
other_may p q h Ended n = refl
other_may p q h LeftShown n = refl

-- an end changes nothing
pub end_may : (p q h : ℕ) (phase : Phase) → may_perform q h (entries_for (ended_if_over p phase)) ≡ h
end_may p q h phase = go (is_over phase)
  where
    go : (b : Bool) → may_perform q h (entries_for (if b then EndedEvent p ∷ [] else [])) ≡ h
    go true = refl
    go false = refl

-- a step of p: what may be performed after it is what is in the hand then
pub step_may : (g : Givens) (p v h : ℕ) (r : Record) → wants_nothing r.phase ≡ false → (h ≡ 0) ⊎ (h ≡ job_in_hand r.phase)
    → may_perform p h (entries_for (events_of p (shown r.phase (record_after g p v r).phase))) ≡ job_in_hand (record_after g p v r).phase
step_may g p v h r wants was = go r.phase refl (has_done g p v r r.phase refl) was
  where
    x : Record
    x = record_after_phase g p v r r.phase

    quiet : (b : Bool) → may_perform p h (entries_for (events_of p (if b then Ended else Quiet))) ≡ h
    quiet true = refl
    quiet false = refl

    filed : (j : ℕ) (b : Bool) → may_perform p h (entries_for (events_of p (if b then DoneEnded j else Done j))) ≡ 0
    filed j true = ap (λ b. if b then 0 else h) (eq-eqb p p refl)
    filed j false = ap (λ b. if b then 0 else h) (eq-eqb p p refl)

    nothing : (h ≡ 0) ⊎ (h ≡ 0) → h ≡ 0
    nothing e = ⊎_elim (λ a. a) (λ a. a) e

    go : (phase : Phase) → r.phase ≡ phase → HasDone r x phase → (h ≡ 0) ⊎ (h ≡ job_in_hand phase)
        → may_perform p h (entries_for (events_of p (shown phase x.phase))) ≡ job_in_hand x.phase
    go (Announcing j) is d e = quiet (is_over x.phase) ∙ nothing e ∙ sym d.held_now
    go (Trying j q) is d e = quiet (is_over x.phase) ∙ nothing e ∙ sym d.held_now
    go (Reading j q) is d e = quiet (is_over x.phase) ∙ nothing e ∙ sym d.held_now
    go (Claiming j) is d e = ap (λ b. if b then j else h) (eq-eqb p p refl) ∙ sym d.held_now
    go (Holding j) is d e = filed j (is_over x.phase) ∙ sym d.held_now
    go ended is d e = absurd (true≢false (sym (ap wants_nothing is) ∙ wants))
