-- An operator answers an attempt, while a process may have it in hand.
use Rattle.std.proofs.Common.{◌≡◌, ◌⊎◌, inl, inr, ⊎_elim, ℕ, List, [], ◌∷◌, ◌++◌, Option, Some, None, refl, sym, ap, ◌∙◌, subst, append_assoc}
use Rattle.amo_safety_by_journals.specs.Model.{Attempt as Name, Handing, IsOneOf, Stage as ModelStage, Away, Free, Clearing as ModelClearing, Site, Opens, line_of}
use Rattle.amo_safety_by_journals.specs.Runs.{IsOver as ModelIsOver}
use Rattle.amo_driver.specs.Stage.{Stage, Going, Finding, Intending, Clearing, Performing, Noting, Leaving, Asking, Settling, Dismissed, Gone, Unanswered, Refused, Broken}
use Rattle.amo_host.specs.declared.model.LogFile.TheVariants.{Answers}
use Rattle.amo_host.specs.Phase.{Start, Unborn, Guards, Checked, Knows as KnowsRound, HasRecovered, Settled as HasSettled, Phase, Starts as Starting, Asks, Idle, Begins, Joins, Reads, Works, Clears, Unclear, Over, Stays, Ended}
use Rattle.amo_run_log.specs.declared.finding.Finding.{Finding as Answer}
use Rattle.amo_run_log.specs.declared.finding.Resolution.{Resolution}
use Rattle.amo_run_log.specs.declared.finding.Resolution.TheVariants.{Done, NotDone}
use Rattle.amo_run_log.specs.Findings.{finding_in, text_of_finding}
use Rattle.amo_program_safety.specs.World.{Process, World, Resolves, world_after}
use Rattle.amo_program_safety.specs.Runs.{IsFirst, IsNamed, held_at, held_in, IsOver, MayFollow}
use Rattle.amo_program_safety.proofs.Texts.{finding_says, of_both, of_right, of_same}
use Rattle.amo_program_safety.proofs.Standing.{IsOpened, Settled, Holds, AsksAt, WorksAt, StartsAt, At, all_of, Goes}
use Rattle.amo_program_safety.proofs.Moves.{Reaches, Same}
use Rattle.amo_program_safety.proofs.Frame.{frame_stand}

-- ---- options

some_is : {A : Type 0} {a b : A} → Some a ≡ Some b → a ≡ b
some_is e = cc

none_some : {A : Type 0} {a : A} → None ≡ Some a → ⊥
none_some e = cc

-- ---- the attempt that a process has in hand

-- The process has this attempt in hand, has not handed it over, and writes nothing.
record Has (w : World) (p : Process) (in_hand : Option ℕ) (s : ℕ) : Type 0 where
  pub held : in_hand ≡ Some s
  pub idle : p.writes ≡ None
  pub first : IsFirst w p.worker s

-- If the model's process holds an attempt, the process has this attempt in hand in the world too.
abbrev MayHold : World → Process → ModelStage → Option ℕ → Type 0
MayHold w p st held = (st ≡ Free) ⊎ ((st ≡ Away) ⊎ ((s : ℕ) × (line : ℕ) × (seen : List ℕ) × (st ≡ ModelClearing s line seen) × Has w p held s))

module _ (w : World) (v : Site) (pid : ℕ) (p : Process) (guard : w.guard p.worker ≡ Some pid) where
  has : (held : Option ℕ) (jobs : List ℕ) (s j line : ℕ) (seen : List ℕ) → held ≡ Some s → Holds w v pid p jobs s j line seen → MayHold w p (v.stage p.worker) held
  has held jobs s j line seen is h = inr (inr (s, line, seen, h.stage, record { held = is; idle = h.idle; first = h.first }))

  starts_hold : (start : Start) (held : Option ℕ) → StartsAt w v pid p start → MayHold w p (v.stage p.worker) held
  starts_hold Unborn held h = absurd (h.0 p.worker guard)
  starts_hold Guards held h = inr (inl h.away)
  starts_hold Checked held h = inr (inl h.away)
  starts_hold (KnowsRound last) held h = inr (inl h.away)
  starts_hold (HasRecovered last texts) held h = inl h.0.free
  starts_hold (HasSettled last texts) held h = inl h.0.free

  asks_hold : (st : Stage) (held : Option ℕ) → AsksAt w v pid p st → MayHold w p (v.stage p.worker) held
  asks_hold (Asking is) held h = inl h.0.free
  asks_hold (Settling s c way is) held h = inl h.0.free
  asks_hold (Dismissed is) held h = inr (inl (h guard))
  asks_hold (Unanswered s reply) held h = inr (inl (h guard))
  asks_hold Broken held h = inr (inl (h guard))
  asks_hold _ held h = absurd h

  hold_at : (ph : Phase) → At w v pid p ph → MayHold w p (v.stage p.worker) (held_in ph)
  hold_at (Starting k start) h = starts_hold start None h.2
  hold_at (Asks me st) h = asks_hold st None h.2
  hold_at (Idle me logs) h = inl h.2.free
  hold_at (Begins me begin) h = inl h.2.free
  hold_at (Joins me join) h = inl h.2.free
  hold_at (Reads me purpose logs counts left) h = inl h.2.free
  hold_at (Works me jobs (Going s a way) owes logs) h = inl h.2.0.free
  hold_at (Works me jobs (Finding s a j) owes logs) h = inl h.2.0.free
  hold_at (Works me jobs (Intending s a j) owes logs) h = inl h.2.0.free
  hold_at (Works me jobs (Clearing s a j) owes logs) h = has (Some s) jobs s j h.2.0 [] refl h.2.1
  hold_at (Works me jobs (Performing s a j) owes logs) h = ⊎_elim
      (λ holds. has (Some s) jobs s j holds.0 holds.1 refl holds.2)
      (λ gave. inl gave.quiet.free)
      h.2
  hold_at (Works me jobs (Noting s a c way) owes logs) h = inl h.2.0.free
  hold_at (Works me jobs (Leaving a) owes logs) h = inl h.2.free
  hold_at (Works me jobs Gone owes logs) h = inl h.2.free
  hold_at (Works me jobs (Unanswered s reply) owes logs) h = inl h.2.free
  hold_at (Works me jobs (Refused word value) owes logs) h = inl h.2.free
  hold_at (Works me jobs Broken owes logs) h = inl h.2.free
  hold_at (Works me jobs _ owes logs) h = absurd h.2
  hold_at (Clears me jobs s a j logs left) h = ⊎_elim
      (λ clears. has (Some s) jobs s j clears.0 clears.1 refl clears.2)
      (λ drops. inr (inl drops.away))
      h.2
  hold_at (Unclear s) h = inl h.0.free
  hold_at (Over me logs) h = inl h.2.free
  hold_at (Stays me logs) h = inl h.2.free
  hold_at Ended h = inr (inl (h guard))

  held_says : (ph : Phase) (s line : ℕ) (seen : List ℕ) → At w v pid p ph → v.stage p.worker ≡ ModelClearing s line seen → Has w p (held_in ph) s
  held_says ph s line seen at is = ⊎_elim
      (λ (free : v.stage p.worker ≡ Free). let both : Free ≡ ModelClearing s line seen = sym free ∙ is in absurd (cc both))
      (λ rest. ⊎_elim
      (λ (away : v.stage p.worker ≡ Away). let both : Away ≡ ModelClearing s line seen = sym away ∙ is in absurd (cc both))
      (λ holds. subst (Has w p (held_in ph)) (serial_is holds.0 s holds.1 line holds.2 seen (sym holds.3 ∙ is)) holds.4)
      rest)
      (hold_at ph at)
    where
      serial_is : (a b c d : ℕ) (x y : List ℕ) → ModelClearing a c x ≡ ModelClearing b d y → a ≡ b
      serial_is a b c d x y e = cc

module _ (w : World) (v : Site) (pid : ℕ) (p : Process) where
  -- The model's process holds the attempt, or the attempt was handed over.
  abbrev HeldOrGiven : (serial : ℕ) → Type 0
  HeldOrGiven s = ((line : ℕ) × (seen : List ℕ) × (v.stage p.worker ≡ ModelClearing s line seen)) ⊎ ((h : Handing) × IsOneOf w.handed h × IsNamed p.worker s h)

  works_held : (jobs : List ℕ) (st : Stage) (s : ℕ) → WorksAt w v pid p jobs st → held_at st ≡ Some s → HeldOrGiven s
  works_held jobs (Clearing n a j) s h is = subst HeldOrGiven (some_is is) (inl (h.0, [], h.1.stage))
  works_held jobs (Performing n a j) s h is = subst HeldOrGiven (some_is is) (⊎_elim (λ holds. inl (holds.0, holds.1, holds.2.stage)) (λ gave. inr gave.given) h)
  works_held jobs st s h is = absurd (cc is)

  held_by : (ph : Phase) (s : ℕ) → At w v pid p ph → p.writes ≡ None → held_in ph ≡ Some s → HeldOrGiven s
  held_by (Works me jobs st owes logs) s h idle is = works_held jobs st s h.2 is
  held_by (Clears me jobs n a j logs left) s h idle is = subst HeldOrGiven (some_is is) (⊎_elim
      (λ clears. inl (clears.0, clears.1, clears.2.stage))
      (λ drops. absurd (none_some (sym idle ∙ drops.writes)))
      h.2)
  held_by ph s h idle is = absurd (cc is)

-- A process that has a settled attempt in hand has handed it over, unless it appends that the
-- attempt was not started.
pub not_held_by : (w : World) (v : Site) → Goes w v → (q s : ℕ) → Settled v q s
    → (pid : ℕ) (p : Process) → w.process pid ≡ Some p → p.worker ≡ q → p.writes ≡ None → held_in p.phase ≡ Some s
    → (h : Handing) × IsOneOf w.handed h × IsNamed q s h
not_held_by w v goes q s settled pid p lives same idle held = ⊎_elim
    (λ holds. absurd (settled.1 holds.0 holds.1 (ap v.stage (sym same) ∙ holds.2)))
    (λ given. (given.0, given.1, (given.2.0 ∙ same, given.2.1)))
    (held_by w v pid p p.phase s (goes.stand pid p lives).here idle held)

-- ---- an operator answers

module _ (w : World) (v : Site) (f : Answer) (goes : Goes w v) where
  abbrev answered_now : Name
  answered_now = record { worker = f.worker; serial = f.serial }

  is_over : IsOver w f.worker f.serial → ModelIsOver v answered_now
  is_over over = record {
    kept = (over.kept.0, ap (λ (ls : List ℕ). line_of ls f.serial) (goes.kept f.worker) ∙ over.kept.1);
    not_held = λ line seen is. not_held line seen is (w.guard f.worker) refl;
    not_alive = λ h one named. over.untouched.not_alive h (subst (λ (hs : List Handing). IsOneOf hs h) goes.alive one) named;
    not_performed = λ h one named. over.untouched.not_performed h (subst (λ (hs : List Handing). IsOneOf hs h) goes.performed one) named;
  }
    where
      not_held : (line : ℕ) (seen : List ℕ) → v.stage f.worker ≡ ModelClearing f.serial line seen → (g : Option ℕ) → w.guard f.worker ≡ g → ⊥
      not_held line seen is None none = let both : Away ≡ ModelClearing f.serial line seen = sym (goes.away f.worker none) ∙ is in absurd (cc both)
      not_held line seen is (Some r) holds =
          let old = goes.owner f.worker r holds in
          let mine = held_says w v r old.0 (ap w.guard old.2 ∙ holds) old.0.phase f.serial line seen (goes.stand r old.0 old.1).here (ap v.stage old.2 ∙ is) in
          let given = over.not_held r old.0 old.1 old.2 mine.idle mine.held in
          mine.first given.0 given.1 (given.2.0 ∙ sym old.2, given.2.1)

  -- The answer opens the attempts `more`.
  module _ (more : List Name) (says : finding_in (text_of_finding f) ≡ Some f) (now : f.verdict ≡ NotDone → IsOneOf (more ++ v.opened) answered_now) where
    abbrev site_answered : Site
    site_answered = record v { opened = more ++ v.opened }

    abbrev world_answered : World
    world_answered = world_after w (Resolves f)

    opened_still : (q s : ℕ) → IsOpened v q s → IsOpened site_answered q s
    opened_still q s one = of_right more v.opened (record { worker = q; serial = s }) one

    answered_undone : (text : List ℕ) → IsOneOf (all_of (world_answered.logs Answers)) text → (g : Answer) → finding_in text ≡ Some g → g.verdict ≡ NotDone → IsOpened site_answered g.worker g.serial
    answered_undone text one g is not = ⊎_elim
        (λ old. opened_still g.worker g.serial (goes.undone text old g is not))
        (λ new. ⊎_elim
        (λ (same : text_of_finding f ≡ text).
        let f_is : f ≡ g = some_is (sym says ∙ (ap finding_in same ∙ is)) in
        subst (λ (x : Answer). IsOpened site_answered x.worker x.serial) f_is (now (ap (λ (x : Answer). x.verdict) f_is ∙ not)))
        (λ none. absurd none)
        new)
        (of_both (all_of (w.logs Answers)) (text_of_finding f ∷ []) text
        (of_same _ _ text (sym (append_assoc (w.logs Answers).kept (w.logs Answers).rest (text_of_finding f ∷ []))) one))

    answered_same : (r : ℕ) (o : Process) → Same w v world_answered site_answered r o
    answered_same r o = record {
      lost = λ q holds. holds;
      guard = λ holds. holds;
      stage = λ holds. refl;
      kept = λ holds. refl;
      log = λ holds. refl;
      first = λ holds n first. first;
      handed = λ h one. one;
      opened = opened_still;
      settled = λ q n settled. settled;
    }

    answered_goes : Goes world_answered site_answered
    answered_goes = record {
      alive = goes.alive;
      performed = goes.performed;
      kept = goes.kept;
      nobody = goes.nobody;
      unbegun = λ q s text one is. opened_still q s (goes.unbegun q s text one is);
      answered = goes.answered;
      undone = answered_undone;
      alive_handed = goes.alive_handed;
      performed_handed = goes.performed_handed;
      handed = goes.handed;
      away = goes.away;
      owner = goes.owner;
      stand = λ r o is. frame_stand w v world_answered site_answered r o (answered_same r o) (goes.stand r o is);
    }

pub resolves : (w : World) (v : Site) (f : Answer) → MayFollow w (Resolves f) → Goes w v → Reaches v (world_after w (Resolves f))
resolves w v f may goes = by f.verdict refl
  where
    by : (r : Resolution) → f.verdict ≡ r → Reaches v (world_after w (Resolves f))
    by NotDone is = record {
      events = Opens (record { worker = f.worker; serial = f.serial }) ∷ [];
      run = (is_over w v f goes (may.1 is), tt);
      goes = answered_goes w v f goes (record { worker = f.worker; serial = f.serial } ∷ []) (finding_says f may.0) (λ _. inl refl);
    }
    by Done is = record {
      events = [];
      run = tt;
      goes = answered_goes w v f goes [] (finding_says f may.0) (λ not. let both : Done ≡ NotDone = sym is ∙ not in absurd (cc both));
    }
