-- While a command of a line may begin, or runs, no other intent of the line is read, unless it is
-- noted as not begun or not done.
use Rattle.std.proofs.Common.{◌≡◌, ⊎_elim, ℕ, Bool, true, false, List, [], ◌∷◌, ◌++◌, Some, refl, sym, ap, ◌∙◌, subst}
use Rattle.std.specs.Prelude.{◌==◌}
use Rattle.std.proofs.lemmas.Bool.{true≢false, eqb-true, or_cases}
use Rattle.amo_sets.specs.Sets.{has}
use Rattle.amo_sets.proofs.Numbers.{has-append}
use Rattle.amo_driver.specs.declared.model.Try.{Try}
use Rattle.amo_driver.specs.declared.model.Try.TheVariants.{Intend, Perform}
use Rattle.amo_driver.specs.Course.{try_of}
use Rattle.amo_driver_safety.specs.Scene.{scene_of, MayBe, IsHistory, handed_by_try, handed_by, handed_jobs}
use Rattle.amo_driver_safety.specs.Tries.{tried_in}
use Rattle.amo_driver_safety.specs.declared.model.Moment.{Moment}
use Rattle.amo_driver_safety.specs.declared.model.Moment.TheVariants.{Does, Loses, Begins}
use Rattle.amo_driver_safety.proofs.Intents.{no_intent_after, by_its_intent}
use Rattle.amo_run_files.proofs.SeatLaws.{one_each}
use Rattle.amo_run_safety.specs.File.{read_of}
use Rattle.amo_run_safety.specs.Site.{Inside, Round, Site, Event, Acts, Misses, IsNumber, is_inside, lines_at}
use Rattle.amo_run_safety.specs.Run.{site_after, MayHappen, Handing, handings_by, openings_by, is_among, IsOneOf}
use Rattle.amo_run_safety.specs.Commands.{is_stop}
use Rattle.amo_run_safety.proofs.Openings.{among_parts}
use Rattle.amo_run_safety.proofs.Entries.{HasEntry}
use Rattle.amo_run_safety.proofs.Reading.{TriesIntent, entry_was}
use Rattle.amo_run_safety.proofs.Intending.{intends_here, job_of}
use Rattle.amo_run_safety.proofs.Moments.{longer}
use Rattle.amo_run_safety.proofs.Records.{sound_parts}
use Rattle.amo_run_safety.proofs.Sane.{IsGood, FitsIn, Fits, IsSane}
use Rattle.amo_run_safety.proofs.Handed.{IsPast, WasHanded, IsNow, of_try}
use Rattle.amo_run_safety.proofs.Closing.{HasTried, IsTaken, IsClosing}

-- a job that was handed over was handed over in some moment

record HandedAt (ms : List Moment) (j : ℕ) : Type 0 where
  pub before : List Moment
  pub moment : Moment
  pub after : List Moment
  pub is : ms ≡ before ++ moment ∷ after
  pub serial : ℕ
  pub tries : tried_in moment ≡ Some (Perform serial j)

handed_by_this : (t : Try) (j : ℕ) → has (handed_by_try t) j ≡ true → (n : ℕ) × (t ≡ Perform n j)
handed_by_this (Perform n i) j h = (n, ap (Perform n) (⊎_elim (λ (e : (i == j) ≡ true). eqb-true i j e) (λ (no : false ≡ true). absurd (true≢false (sym no))) (or_cases (i == j) false h)))
handed_by_this t j h = absurd (true≢false (sym h))

handed_in : (m : Moment) (j : ℕ) → has (handed_by m) j ≡ true → (n : ℕ) × (tried_in m ≡ Some (Perform n j))
handed_in (Does p d) j h = let at = handed_by_this (try_of d) j h in (at.0, ap (λ t. Some t) at.1)
handed_in (Loses p t) j h = let at = handed_by_this t j h in (at.0, ap (λ x. Some x) at.1)
handed_in (Begins p n) j h = absurd (true≢false (sym h))

handed_at : (ms : List Moment) (j : ℕ) → has (handed_jobs ms) j ≡ true → HandedAt ms j
handed_at [] j h = absurd (true≢false (sym h))
handed_at (m ∷ ms) j h = ⊎_elim
    (λ (now : has (handed_by m) j ≡ true). let at = handed_in m j now in record { before = []; moment = m; after = ms; is = refl; serial = at.0; tries = at.1 })
    (λ (later : has (handed_jobs ms) j ≡ true).
    let it = handed_at ms j later in
    record { before = m ∷ it.before; moment = it.moment; after = it.after; is = ap (λ l. m ∷ l) it.is; serial = it.serial; tries = it.tries })
    (or_cases (has (handed_by m) j) (has (handed_jobs ms) j) (sym (has-append (handed_by m) (handed_jobs ms) j) ∙ h))

-- no intent of it is tried any more
none_intends : (r : Round) → IsGood r → (m : Moment) (n j : ℕ) → MayBe r.givens (scene_of r.givens r.moments) m → tried_in m ≡ Some (Intend n j) → has (handed_jobs r.moments) j ≡ true → ⊥
none_intends r good m n j may tries handed =
    let at = handed_at r.moments j handed in
    no_intent_after r.givens at.before at.after at.moment m (subst (λ l. IsHistory r.givens (l ++ m ∷ [])) at.is (longer r.givens r.moments good.history m may)) at.serial n j at.tries tries

-- each intent of its line that is read is its own, or was said not to have been begun or done
abbrev pub IsAlone : Site → (said : List (ℕ × ℕ)) → Handing → Type 0
IsAlone w said h = (p n : ℕ) → IsNumber p → HasEntry n h.line (read_of (w.journals p)) → is_among said p n ≡ false → (p ≡ h.worker) × (n ≡ h.serial)

-- it stays so
pub alone_after : (w : Site) (said : List (ℕ × ℕ)) → IsSane w said → (h : Handing) → WasHanded w said h → is_among said h.worker h.serial ≡ false → IsAlone w said h
    → (e : Event) → MayHappen w e → is_stop e ≡ false → IsAlone (site_after w e) (said ++ openings_by w e) h
alone_after w said sane h was unsaid alone e may on p n number there unsaid_then = ⊎_elim
    (λ (old : HasEntry n h.line (read_of (w.journals p))). alone p n number old (among_parts said (openings_by w e) p n unsaid_then).0)
    (λ (new : TriesIntent w e p n h.line). absurd (
    let it = intends_here w said sane e may p n h.line new in
    let past : IsPast (Some it.round) said h = subst (λ o. IsPast o said h) it.stands was.past in
    ⊎_elim
    (λ (yes : is_among said h.worker h.serial ≡ true). true≢false (sym yes ∙ unsaid))
    (λ (handed : has (handed_jobs it.round.moments) it.job ≡ true). none_intends it.round it.good it.moment n it.job it.may it.tries handed)
    (past it.job (job_of it) it.line_is)))
    (entry_was w sane.owing e on p n h.line there)

-- who hands something over tries no intent

abbrev is_performance : Try → Bool
is_performance (Perform n j) = true
is_performance t = false

hands_or_tries : (w : Site) (e : Event) (h : Handing) (p n line : ℕ) → IsOneOf (handings_by w e) h → TriesIntent w e p n line → ⊥
hands_or_tries w (Acts q time d) h p n line one tries =
    let of = of_try q (lines_at w.rounds (w.whereabouts q)) (try_of d) h one in
    true≢false (ap is_performance (sym of.try_is ∙ tries.1.is))
hands_or_tries w (Misses q time t) h p n line one tries =
    let of = of_try q (lines_at w.rounds (w.whereabouts q)) t h one in
    true≢false (ap is_performance (sym of.try_is ∙ tries.1.is))
hands_or_tries w e h p n line one tries = tries

-- it is so of what is handed over now
pub alone_now : (w : Site) (said : List (ℕ × ℕ)) → IsSane w said → IsClosing w said → (e : Event) (h : Handing) → IsOneOf (handings_by w e) h → IsNow w e h → is_stop e ≡ false
    → IsAlone (site_after w e) (said ++ openings_by w e) h
alone_now w said sane closing e h one now on p n number there unsaid_then = ⊎_elim
    (λ (old : HasEntry n h.line (read_of (w.journals p))).
    let here = now.here in
    let inside : is_inside (w.whereabouts h.worker) ≡ true = ap is_inside here.inside in
    let taken : IsTaken (Some here.round) said p n h.line = subst (λ o. IsTaken o said p n h.line) here.stands (closing.taken (closing.joinable h.worker inside) p n h.line number old) in
    ⊎_elim
    (λ (yes : is_among said p n ≡ true). absurd (true≢false (sym yes ∙ (among_parts said (openings_by w e) p n unsaid_then).0)))
    (λ (tried : HasTried here.round p n now.job).
    let r = here.round in
    let its = by_its_intent r.givens tried.before tried.after tried.moment now.moment
    (subst (λ l. IsHistory r.givens (l ++ now.moment ∷ [])) tried.is (longer r.givens r.moments here.good.history now.moment here.may)) n h.serial now.job tried.tries here.tries in
    let fits : Fits w.rounds w.last (w.journals h.worker) h.worker (Inside w.last here.seat) = subst (λ whereabouts. Fits w.rounds w.last (w.journals h.worker) h.worker whereabouts) here.inside (sane.whereabouts h.worker) in
    let seat = (subst (λ o. FitsIn o (w.journals h.worker) h.worker here.seat) here.stands fits.1).0 in (
      one_each p h.worker r.written.first r.written.workers r.written.givens.workers here.seat (sound_parts r.written here.good.sound).first
          (tried.seat ∙ ap (λ x. Some x) (its.0 ∙ here.of)) seat,
      its.1,
    ))
    (taken now.job here.job now.line))
    (λ (new : TriesIntent w e p n h.line). absurd (hands_or_tries w e h p n h.line one new))
    (entry_was w sane.owing e on p n h.line there)
