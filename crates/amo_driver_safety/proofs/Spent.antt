-- Where no performance comes before the next access.
use Rattle.std.proofs.Common.{◌≡◌, ℕ, ◌≤◌, Bool, true, false, refl, sym, ap, ◌∙◌, subst, List, Some}
use Rattle.std.proofs.lemmas.Bool.{true≢false}
use Rattle.amo_params.specs.declared.givens.Givens.{Givens}
use Rattle.amo_process.specs.Heard.{standing_of, told_by}
use Rattle.amo_process.specs.Stepped.{ProcessView}
use Rattle.amo_driver.specs.declared.answer.JobResult.{JobResult}
use Rattle.amo_driver.specs.declared.answer.Reply.{Reply}
use Rattle.amo_driver.specs.declared.answer.Way.{Way}
use Rattle.amo_driver.specs.declared.model.Deed.{Deed}
use Rattle.amo_driver.specs.declared.model.Deed.TheVariants.{Found, Intended, Cleared, Performed, Noted, Asked, Fell}
use Rattle.amo_driver.specs.declared.model.Try.TheVariants.{Intend, Clear, Perform}
use Rattle.amo_driver.specs.declared.past.Intent.{Intent}
use Rattle.amo_driver.specs.Stage.{Stage, Finding, Intending, Clearing, Performing, Noting, Asking, Settling}
use Rattle.amo_driver.specs.Course.{try_of, due, stage_replied, stage_asking, stage_asked, stage_after}
use Rattle.amo_driver_safety.proofs.Stages.{after_reply, after_settling, after_question, process_of, Shown, performing_only, intending_at, clearing_at, standing_is}

-- The job in its hand, if there is one, was handed to the partner already: no performance is to
-- come before the next access.
abbrev pub is_spent : Stage → Bool
is_spent (Intending s a j) = false
is_spent (Clearing s a j) = false
is_spent (Performing s a j) = false
is_spent s = true

pub replied_spent : (s : ℕ) (a : ProcessView) (reply : Reply) → is_spent (stage_replied s a reply) ≡ true
replied_spent s a reply = after_reply (λ z. is_spent z ≡ true) s a reply (λ c way. refl) (λ way. refl) (λ r. refl)

asking_spent : (way : Way) (rest : List Intent) → is_spent (stage_asking way rest) ≡ true
asking_spent way rest = after_settling (λ z. is_spent z ≡ true) (λ left. refl) (λ left. refl) way rest

asked_spent : (intents : List Intent) (reply : Reply) → is_spent (stage_asked intents reply) ≡ true
asked_spent intents reply = after_question (λ z. is_spent z ≡ true) (λ left. refl) (λ left. refl) intents reply (λ s c way left. refl) (λ s r. refl)

-- it stays spent after a deed that is no access

pub found_spent : (s : Stage) (j : ℕ) → is_spent s ≡ true → is_spent (stage_after s (Found j)) ≡ true
found_spent (Finding s a i) j h = refl
found_spent s j h = h

pub intended_spent : (s : Stage) (n j : ℕ) → is_spent s ≡ true → is_spent (stage_after s (Intended n j)) ≡ true
intended_spent (Intending s a i) n j h = absurd (true≢false (sym h))
intended_spent s n j h = h

pub cleared_spent : (s : Stage) (n j : ℕ) (clear : Bool) → is_spent s ≡ true → is_spent (stage_after s (Cleared n j clear)) ≡ true
cleared_spent (Clearing s a i) n j clear h = absurd (true≢false (sym h))
cleared_spent s n j clear h = h

pub performed_spent : (s : Stage) (n j : ℕ) (reply : Reply) → is_spent s ≡ true → is_spent (stage_after s (Performed n j reply)) ≡ true
performed_spent (Performing s a i) n j reply h = absurd (true≢false (sym h))
performed_spent s n j reply h = h

pub noted_spent : (s : Stage) (n : ℕ) (c : JobResult) → is_spent s ≡ true → is_spent (stage_after s (Noted n c)) ≡ true
noted_spent (Noting s a x way) n c h = refl
noted_spent (Settling s x way rest) n c h = asking_spent way rest
noted_spent s n c h = h

pub asked_for_spent : (s : Stage) (n line : ℕ) (reply : Reply) → is_spent s ≡ true → is_spent (stage_after s (Asked n line reply)) ≡ true
asked_for_spent (Asking intents) n line reply h = asked_spent intents reply
asked_for_spent s n line reply h = h

-- it is spent once it was handed over
pub after_handing : (s : Stage) (d : Deed) (n j : ℕ) → due s ≡ Some (Perform n j) → try_of d ≡ Perform n j → is_spent (stage_after s d) ≡ true
after_handing s (Performed m i reply) n j e is =
    let at = performing_only s n j e in
    ap (λ (z : Stage). is_spent (stage_after z (Performed m i reply))) at.2 ∙ replied_spent at.0 at.1 reply
after_handing s (Fell t) n j e is = refl
after_handing s d n j e is = cc

-- and once it was found taken
pub after_taking : (s : Stage) (n j : ℕ) → due s ≡ Some (Clear n j) → is_spent (stage_after s (Cleared n j false)) ≡ true
after_taking s n j e = let at = clearing_at s n j e in ap (λ (z : Stage). is_spent (stage_after z (Cleared n j false))) at.1

-- If a process tries the intent of job j, asks whether j is clear, or hands j to its partner, it is
-- to perform j, by the numbers it received.
pub record IsTold (g : Givens) (p : ℕ) (hs : List ℕ) (s : Stage) (j : ℕ) : Type 0 where
  pub job : told_by (standing_of g p hs) ≡ j
  pub low : 1 ≤ j
  pub unspent : is_spent s ≡ false

told_there : (g : Givens) (p : ℕ) (hs : List ℕ) (s : Stage) (a : ProcessView) (j : ℕ) → (a ≡ process_of g p hs) × (told_by a.standing ≡ j) × (1 ≤ j) → is_spent s ≡ false → IsTold g p hs s j
told_there g p hs s a j shown unspent = record {
  job = sym (ap told_by (standing_is g p hs a shown.0)) ∙ shown.1;
  low = shown.2;
  unspent = unspent;
}

pub here_told : (g : Givens) (p : ℕ) (hs : List ℕ) (s : Stage) (n j : ℕ) → Shown g p hs s → due s ≡ Some (Perform n j) → IsTold g p hs s j
here_told g p hs s n j f e = let at = performing_only s n j e in told_there g p hs s at.1 j (subst (Shown g p hs) at.2 f) (ap is_spent at.2)

pub here_intends : (g : Givens) (p : ℕ) (hs : List ℕ) (s : Stage) (n j : ℕ) → Shown g p hs s → due s ≡ Some (Intend n j) → IsTold g p hs s j
here_intends g p hs s n j f e = let at = intending_at s n j e in told_there g p hs s at.0 j (subst (Shown g p hs) at.1 f) (ap is_spent at.1)

pub here_asks : (g : Givens) (p : ℕ) (hs : List ℕ) (s : Stage) (n j : ℕ) → Shown g p hs s → due s ≡ Some (Clear n j) → IsTold g p hs s j
here_asks g p hs s n j f e = let at = clearing_at s n j e in told_there g p hs s at.0 j (subst (Shown g p hs) at.1 f) (ap is_spent at.1)
