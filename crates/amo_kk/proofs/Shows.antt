-- The results of calls, as the history has them.
use Rattle.std.proofs.Common.{◌≡◌, ℕ, Bool, true, false, [], ◌∷◌, ◌++◌, refl, sym, ap, ◌∙◌}
use Rattle.std.specs.Prelude.{if◌then◌else◌}
use Rattle.std.proofs.lemmas.Bool.{true≢false}
use Rattle.amo_kk.specs.Record.{can_leave}
use Rattle.amo_kk.specs.Step.{record_after_leave, events_of}
use Rattle.amo_kk.specs.World.{process, process_after, world_with, world_after_step, world_after_turn, world_after_leave}
use Rattle.amo_kk.specs.Answer.{turn_shown, leaving, leave_answer}
use Rattle.amo_params.specs.declared.givens.Givens.{Givens}
use Rattle.amo_kk.specs.declared.phase.Phase.{Phase}
use Rattle.amo_kk.specs.declared.phase.Phase.TheVariants.{Announcing, Trying, Reading, Claiming, Holding, Over, Left as LeftPhase}
use Rattle.amo_kk.specs.declared.event.Event.TheVariants.{Left as LeftEvent}
use Rattle.amo_kk.specs.declared.event.Leaving.{Leaving}
use Rattle.amo_kk.specs.declared.event.Leaving.TheVariants.{Left as LeftNow, InHand, Gone}
use Rattle.amo_kk.specs.declared.phase.Want.TheVariants.{StoreNext}
use Rattle.amo_kk.specs.declared.model.World.{World}

pub turn_history : (g : Givens) (w : World) (p : ℕ) → (process w p).gone ≡ false → (world_after_turn g w p).history ≡ w.history ++ events_of p (turn_shown g w p)
turn_history g w p here = ap (λ b. (if b then w else world_after_step g w p (process w p)).history) here

pub idle : (g : Givens) (w : World) (p : ℕ) → (process w p).gone ≡ true → world_after_turn g w p ≡ w
idle g w p gone = ap (λ b. if b then w else world_after_step g w p (process w p)) gone

-- the results of leaving differ from one another
abbrev is_left : Leaving → Bool
is_left LeftNow = true
is_left (InHand j) = false
is_left Gone = false

abbrev job_of : Leaving → ℕ
job_of LeftNow = 0
job_of (InHand j) = j
job_of Gone = 0

abbrev is_in_hand : Leaving → Bool
is_in_hand LeftNow = false
is_in_hand (InHand j) = true
is_in_hand Gone = false

abbrev gone_after : World → ℕ → Bool → Bool → World
gone_after w p b c = if b then w else (if c then world_with w p (process_after (StoreNext 0) (process w p) (record_after_leave (process w p).local)) (LeftEvent p ∷ []) else w)

pub left_history : (w : World) (p : ℕ) → leave_answer w p ≡ LeftNow → (world_after_leave w p).history ≡ w.history ++ LeftEvent p ∷ []
left_history w p h = go (process w p).gone (process w p).local.phase refl refl h
  where
    go : (b : Bool) (phase : Phase) → (process w p).gone ≡ b → (process w p).local.phase ≡ phase → (if b then Gone else leaving phase) ≡ LeftNow → (world_after_leave w p).history ≡ w.history ++ LeftEvent p ∷ []
    go true phase e is h = absurd (true≢false (sym (ap is_left h)))
    go false (Announcing j) e is h = λ i. (gone_after w p (e i) (can_leave (is i))).history
    go false (Trying j q) e is h = λ i. (gone_after w p (e i) (can_leave (is i))).history
    go false (Reading j q) e is h = λ i. (gone_after w p (e i) (can_leave (is i))).history
    go false (Claiming j) e is h = λ i. (gone_after w p (e i) (can_leave (is i))).history
    go false (Holding j) e is h = absurd (true≢false (sym (ap is_left h)))
    go false Over e is h = absurd (true≢false (sym (ap is_left h)))
    go false LeftPhase e is h = absurd (true≢false (sym (ap is_left h)))

pub kept_in_hand : (w : World) (p j : ℕ) → leave_answer w p ≡ InHand j → ((process w p).local.phase ≡ Holding j) × (world_after_leave w p ≡ w)
kept_in_hand w p j h = go (process w p).gone (process w p).local.phase refl refl h
  where
    go : (b : Bool) (phase : Phase) → (process w p).gone ≡ b → (process w p).local.phase ≡ phase → (if b then Gone else leaving phase) ≡ InHand j → ((process w p).local.phase ≡ Holding j) × (world_after_leave w p ≡ w)
    go true phase e is h = absurd (true≢false (sym (ap is_in_hand h)))
    go false (Announcing i) e is h = absurd (true≢false (sym (ap is_in_hand h)))
    go false (Trying i q) e is h = absurd (true≢false (sym (ap is_in_hand h)))
    go false (Reading i q) e is h = absurd (true≢false (sym (ap is_in_hand h)))
    go false (Claiming i) e is h = absurd (true≢false (sym (ap is_in_hand h)))
    go false (Holding i) e is h = (is ∙ ap Holding (ap job_of h), λ k. gone_after w p (e k) (can_leave (is k)))
    go false Over e is h = absurd (true≢false (sym (ap is_in_hand h)))
    go false LeftPhase e is h = absurd (true≢false (sym (ap is_in_hand h)))

pub gone_stays : (w : World) (p : ℕ) → leave_answer w p ≡ Gone → world_after_leave w p ≡ w
gone_stays w p h = go (process w p).gone (process w p).local.phase refl refl h
  where
    abbrev_gone : Leaving → Bool
    abbrev_gone LeftNow = false
    abbrev_gone (InHand j) = false
    abbrev_gone Gone = true

    go : (b : Bool) (phase : Phase) → (process w p).gone ≡ b → (process w p).local.phase ≡ phase → (if b then Gone else leaving phase) ≡ Gone → world_after_leave w p ≡ w
    go true phase e is h = λ k. gone_after w p (e k) (can_leave (process w p).local.phase)
    go false (Announcing i) e is h = absurd (true≢false (sym (ap abbrev_gone h)))
    go false (Trying i q) e is h = absurd (true≢false (sym (ap abbrev_gone h)))
    go false (Reading i q) e is h = absurd (true≢false (sym (ap abbrev_gone h)))
    go false (Claiming i) e is h = absurd (true≢false (sym (ap abbrev_gone h)))
    go false (Holding i) e is h = λ k. gone_after w p (e k) (can_leave (is k))
    go false Over e is h = λ k. gone_after w p (e k) (can_leave (is k))
    go false LeftPhase e is h = λ k. gone_after w p (e k) (can_leave (is k))
