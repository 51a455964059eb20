-- An intent that is noted as not begun or not done is handed over no more.
use Rattle.std.proofs.Common.{◌≡◌, ⊎_elim, ℕ, ◌≤◌, Bool, true, false, ◌&&◌, List, [], ◌∷◌, ◌++◌, Option, Some, None, refl, sym, ap, ◌∙◌, subst, arith}
use Rattle.std.specs.Prelude.{◌==◌, if◌then◌else◌}
use Rattle.std.proofs.lemmas.Bool.{true≢false, and_parts, or_cases, eqb-true, cases_eq}
use Rattle.amo_driver.specs.declared.model.Try.{Try}
use Rattle.amo_driver.specs.declared.model.Try.TheVariants.{Load, Store, Find, Intend, Clear, Perform, Note, Ask}
use Rattle.amo_driver.specs.Stage.{Stage, Clearing, Performing}
use Rattle.amo_driver.specs.Course.{try_of, due}
use Rattle.amo_driver_safety.specs.Scene.{stage_at, scene_of}
use Rattle.amo_driver_safety.specs.declared.model.Moment.TheVariants.{Does, Loses}
use Rattle.amo_run_log.specs.declared.finding.Finding.{Finding}
use Rattle.amo_run_log.specs.Findings.{is_not_done}
use Rattle.amo_run_log.specs.Grammar.{intents}
use Rattle.amo_run_log.specs.Open.{opens}
use Rattle.amo_run_files.proofs.SeatLaws.{in_range}
use Rattle.amo_run_safety.specs.Site.{Whereabouts, Away, Before, Inside, Round, Site, Event, Acts, Misses, Says, SaysUnheard, SaysUnread, lines_at}
use Rattle.amo_run_safety.specs.Run.{entries_of_try, as_noted, site_after, IsOfIntent, MayBeIn, MayAct, MayMiss, MayHappen, Handing, opened_by_entries, opened_by_finding, openings_by, is_among}
use Rattle.amo_run_safety.proofs.Openings.{among_either}
use Rattle.amo_run_safety.proofs.Records.{sound_parts}
use Rattle.amo_run_safety.proofs.Counted.{size_is, IsCounted, IsBehind}
use Rattle.amo_run_safety.proofs.Sane.{IsGoodIf, FitsIn, Fits, IsSane}
use Rattle.amo_run_safety.proofs.Named.{BehindIn, BehindAt, WasNamed, named_after}
use Rattle.amo_run_safety.proofs.Low.{LowAt, AreAllLow, noted_low, noted_counted}

-- an intent by its name
abbrev pub named : (p n : ℕ) → Handing
named p n = record { worker = p; serial = n; line = 0 }

-- each of these has its number, and what its worker is still to hand over has another
abbrev pub AreNamed : Site → List (ℕ × ℕ) → Type 0
AreNamed w said = (p n : ℕ) → is_among said p n ≡ true → WasNamed w (named p n)

-- nobody is about to ask whether it may be handed over, or to hand it over
abbrev pub IsNotDue : Site → (p n : ℕ) → Type 0
IsNotDue w p n = (j : ℕ) → (MayMiss w.rounds (w.whereabouts p) (Clear n j) → ⊥) × (MayMiss w.rounds (w.whereabouts p) (Perform n j) → ⊥)

-- what is said of an intent by an entry

pub one_among : (a b p n : ℕ) → is_among ((a, b) ∷ []) p n ≡ true → (p ≡ a) × (n ≡ b)
one_among a b p n h =
    let parts = and_parts (a == p) (b == n) (⊎_elim (λ (e : ((a == p) && (b == n)) ≡ true). e) (λ (none : false ≡ true). absurd (true≢false (sym none))) (or_cases ((a == p) && (b == n)) false h)) in
    (sym (eqb-true a p parts.0), sym (eqb-true b n parts.1))

record IsNoted (t : Try) (p q n : ℕ) : Type 0 where
  pub answer : _
  pub is : t ≡ Note n answer
  pub worker : p ≡ q

noted_by : (q : ℕ) (lines : List ℕ) (time : ℕ) (t : Try) (p n : ℕ) → is_among (opened_by_entries q (entries_of_try lines time t)) p n ≡ true → IsNoted t p q n
noted_by q lines time (Note m c) p n h = by (opens (as_noted time c)) h
  where
    by : (b : Bool) → is_among (if b then (q, m) ∷ [] else []) p n ≡ true → IsNoted (Note m c) p q n
    by true h = let at = one_among q m p n h in record { answer = c; is = ap (λ k. Note k c) (sym at.1); worker = at.0 }
    by false h = absurd (true≢false (sym h))
noted_by q lines time (Load a) p n h = absurd (true≢false (sym h))
noted_by q lines time (Store a b) p n h = absurd (true≢false (sym h))
noted_by q lines time (Find j) p n h = absurd (true≢false (sym h))
noted_by q lines time (Intend m j) p n h = absurd (true≢false (sym h))
noted_by q lines time (Clear m j) p n h = absurd (true≢false (sym h))
noted_by q lines time (Perform m j) p n h = absurd (true≢false (sym h))
noted_by q lines time (Ask m l) p n h = absurd (true≢false (sym h))

found_by : (f : Finding) (p n : ℕ) → is_among (opened_by_finding f) p n ≡ true → (p ≡ f.worker) × (n ≡ f.serial)
found_by f p n h = by (is_not_done f.verdict) h
  where
    by : (b : Bool) → is_among (if b then (f.worker, f.serial) ∷ [] else []) p n ≡ true → (p ≡ f.worker) × (n ≡ f.serial)
    by true h = one_among f.worker f.serial p n h
    by false h = absurd (true≢false (sym h))

module _ (w : Site) (said : List (ℕ × ℕ)) (sane : IsSane w said) (low : AreAllLow w) where
  -- a note is of an intent of the journal

  note_in : (o : Option Round) (q seat n : ℕ) → FitsIn o (w.journals q) q seat → ((r : Round) → o ≡ Some r → (c : _) × (due (stage_at (scene_of r.givens r.moments) seat) ≡ Some (Note n c))) → n ≤ intents (w.journals q).kept
  note_in None q seat n fits noted = absurd fits
  note_in (Some r) q seat n fits noted =
      let it = noted r refl in
      noted_counted (intents (w.journals q).kept) (stage_at (scene_of r.givens r.moments) seat) n it.0 it.1 fits.1.2

  note_at : (whereabouts : Whereabouts) (q n : ℕ) → w.whereabouts q ≡ whereabouts → (whereabouts ≡ Away → ⊥) → ((s : Stage) → whereabouts ≡ Before s → (c : _) × (due s ≡ Some (Note n c)))
      → ((k seat : ℕ) (r : Round) → whereabouts ≡ Inside k seat → w.rounds k ≡ Some r → (c : _) × (due (stage_at (scene_of r.givens r.moments) seat) ≡ Some (Note n c))) → n ≤ intents (w.journals q).kept
  note_at Away q n at away asks being = absurd (away refl)
  note_at (Before s) q n at away asks being =
      let it = asks s refl in
      let fits : Fits w.rounds w.last (w.journals q) q (Before s) = subst (λ whereabouts. Fits w.rounds w.last (w.journals q) q whereabouts) at (sane.whereabouts q) in
      noted_low (intents (w.journals q).kept) s n it.0 it.1 fits.0 (subst (LowAt (intents (w.journals q).kept)) at (low q))
  note_at (Inside k seat) q n at away asks being =
      let fits : Fits w.rounds w.last (w.journals q) q (Inside k seat) = subst (λ whereabouts. Fits w.rounds w.last (w.journals q) q whereabouts) at (sane.whereabouts q) in
      note_in (w.rounds k) q seat n fits.1 (λ r is. being k seat r refl is)

  of_intent : (f : Finding) → IsOfIntent w f → f.serial ≤ intents (w.journals f.worker).kept
  of_intent f may = let size = size_is w.lines (w.journals f.worker).kept may.attempts may.journal in let high = may.high in omega (arith, size, high)

  said_low : (e : Event) → MayHappen w e → (p n : ℕ) → is_among (openings_by w e) p n ≡ true → n ≤ intents (w.journals p).kept
  said_low (Acts q time d) may p n h =
      let it = noted_by q (lines_at w.rounds (w.whereabouts q)) time (try_of d) p n h in
      subst (λ x. n ≤ intents (w.journals x).kept) (sym it.worker)
      (note_at (w.whereabouts q) q n refl
      (λ e. subst (λ whereabouts. MayAct w.rounds whereabouts d) e may.1)
      (λ s e. (it.answer, subst (λ whereabouts. MayAct w.rounds whereabouts d) e may.1 ∙ ap (λ x. Some x) it.is))
      (λ k seat r e is. (it.answer, (subst (λ o. MayBeIn o (Does seat d)) is (subst (λ whereabouts. MayAct w.rounds whereabouts d) e may.1)).1 ∙ ap (λ x. Some x) it.is)))
  said_low (Misses q time t) may p n h =
      let it = noted_by q (lines_at w.rounds (w.whereabouts q)) time t p n h in
      subst (λ x. n ≤ intents (w.journals x).kept) (sym it.worker)
      (note_at (w.whereabouts q) q n refl
      (λ e. subst (λ whereabouts. MayMiss w.rounds whereabouts t) e may.1)
      (λ s e. (it.answer, subst (λ whereabouts. MayMiss w.rounds whereabouts t) e may.1 ∙ ap (λ x. Some x) it.is))
      (λ k seat r e is. (it.answer, (subst (λ o. MayBeIn o (Loses seat t)) is (subst (λ whereabouts. MayMiss w.rounds whereabouts t) e may.1)).1 ∙ ap (λ x. Some x) it.is)))
  said_low (Says f) may p n h = let at = found_by f p n h in subst (λ x. n ≤ intents (w.journals x).kept) (sym at.0) (subst (λ k. k ≤ intents (w.journals f.worker).kept) (sym at.1) (of_intent f may))
  said_low (SaysUnheard f) may p n h = let at = found_by f p n h in subst (λ x. n ≤ intents (w.journals x).kept) (sym at.0) (subst (λ k. k ≤ intents (w.journals f.worker).kept) (sym at.1) (of_intent f may))
  said_low (SaysUnread f) may p n h = let at = found_by f p n h in subst (λ x. n ≤ intents (w.journals x).kept) (sym at.0) (subst (λ k. k ≤ intents (w.journals f.worker).kept) (sym at.1) (of_intent f may))
  said_low e may p n h = absurd (true≢false (sym h))

  -- an intent that is in the journal, and that nobody is about to hand over, is handed over no more

  behind_stage : (s : Stage) (n k : ℕ) → n ≤ k → IsCounted k s → ((j : ℕ) → (due s ≡ Some (Clear n j) → ⊥) × (due s ≡ Some (Perform n j) → ⊥)) → IsBehind n s
  behind_stage (Clearing m a j) n k few counted none = ⊎_elim
      (λ (e : n ≡ m). absurd ((none j).0 (ap (λ x. Some (Clear x j)) (sym e))))
      (λ (other : n ≡ m → ⊥). omega (arith, few, counted, other))
      (cases_eq n m)
  behind_stage (Performing m a j) n k few counted none = ⊎_elim
      (λ (e : n ≡ m). absurd ((none j).1 (ap (λ x. Some (Perform x j)) (sym e))))
      (λ (other : n ≡ m → ⊥). omega (arith, few, counted, other))
      (cases_eq n m)
  behind_stage s n k few counted none = tt

  behind_in : (o : Option Round) → IsGoodIf o → (p seat n : ℕ) → n ≤ intents (w.journals p).kept → FitsIn o (w.journals p) p seat
      → ((j : ℕ) → (MayBeIn o (Loses seat (Clear n j)) → ⊥) × (MayBeIn o (Loses seat (Perform n j)) → ⊥)) → BehindIn o seat n
  behind_in None good p seat n few fits none = tt
  behind_in (Some r) good p seat n few fits none =
      let written = r.written in
      let range = in_range p written.first written.workers written.givens.workers seat (sound_parts written good.sound).first fits.0 in
      behind_stage (stage_at (scene_of r.givens r.moments) seat) n (intents (w.journals p).kept) few fits.1.2
      (λ j. (
        (λ e. (none j).0 (record { low = range.0; high = subst (λ k. seat ≤ k) (sym good.workers) range.1 }, e)),
        (λ e. (none j).1 (record { low = range.0; high = subst (λ k. seat ≤ k) (sym good.workers) range.1 }, e)),
      ))

  behind_at : (whereabouts : Whereabouts) (p n : ℕ) → w.whereabouts p ≡ whereabouts → n ≤ intents (w.journals p).kept
      → ((j : ℕ) → (MayMiss w.rounds whereabouts (Clear n j) → ⊥) × (MayMiss w.rounds whereabouts (Perform n j) → ⊥)) → BehindAt w.rounds whereabouts n
  behind_at Away p n at few none = tt
  behind_at (Before s) p n at few none = tt
  behind_at (Inside k seat) p n at few none =
      let fits : Fits w.rounds w.last (w.journals p) p (Inside k seat) = subst (λ whereabouts. Fits w.rounds w.last (w.journals p) p whereabouts) at (sane.whereabouts p) in
      behind_in (w.rounds k) (sane.rounds k) p seat n few fits.1 none

  pub not_due_named : (p n : ℕ) → n ≤ intents (w.journals p).kept → IsNotDue w p n → WasNamed w (named p n)
  not_due_named p n few none = record { few = few; behind = behind_at (w.whereabouts p) p n refl few none }

  pub named_then : AreNamed w said → (e : Event) → MayHappen w e → ((p n : ℕ) → is_among (openings_by w e) p n ≡ true → IsNotDue w p n) → AreNamed (site_after w e) (said ++ openings_by w e)
  named_then before e may over p n h = ⊎_elim
      (λ (old : is_among said p n ≡ true). named_after w said sane (named p n) (before p n old) e may)
      (λ (new : is_among (openings_by w e) p n ≡ true). named_after w said sane (named p n) (not_due_named p n (said_low e may p n new) (over p n new)) e may)
      (among_either said (openings_by w e) p n h)
