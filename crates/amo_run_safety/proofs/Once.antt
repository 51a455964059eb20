-- No line is performed twice.
use Rattle.std.proofs.Common.{◌≡◌, inl, inr, ⊎_elim, ℕ, Bool, true, false, List, [], ◌∷◌, ◌++◌, Option, Some, None, refl, sym, ap, ◌∙◌, subst, append_assoc}
use Rattle.std.specs.Prelude.{◌==◌, if◌then◌else◌}
use Rattle.std.proofs.lemmas.Bool.{true≢false, ne_eqb, or_from}
use Rattle.amo_sets.specs.Sets.{has, AreDistinct}
use Rattle.amo_sets.proofs.Numbers.{has-append}
use Rattle.amo_driver_safety.specs.Scene.{IsHistory}
use Rattle.amo_run_log.specs.declared.entry.Entry.{Entry}
use Rattle.amo_run_files.proofs.SeatLaws.{one_each}
use Rattle.amo_run_safety.specs.File.{File}
use Rattle.amo_run_safety.specs.Site.{Inside, Round, Site, first_site, Event}
use Rattle.amo_run_safety.specs.Run.{site_after, IsRunFrom, IsRun, site_after_all, site_of, Handing, handings_by, handings_from, handings, openings_by, openings_from, openings, is_among, AreUnperformed, performed_lines, IsOneOf, IsKept}
use Rattle.amo_run_safety.proofs.Openings.{among_more}
use Rattle.amo_run_safety.proofs.Records.{sound_parts}
use Rattle.amo_run_safety.proofs.Sane.{FitsIn, Fits, IsGoodIf, IsSane, first_sane}
use Rattle.amo_run_safety.proofs.Events.{sane_after, sane_after_all}
use Rattle.amo_run_safety.proofs.Handed.{one_at_most, split_one, WasHanded, handed_after, handed_now, now_handed, opened_before, handed_after_all}

module _ (performed : ℕ → ℕ → Bool) where
  lines-append : (xs ys : List Handing) → performed_lines performed (xs ++ ys) ≡ performed_lines performed xs ++ performed_lines performed ys
  lines-append [] ys = refl
  lines-append (h ∷ xs) ys = by (performed h.worker h.serial) (lines-append xs ys)
    where
      by : (b : Bool) → performed_lines performed (xs ++ ys) ≡ performed_lines performed xs ++ performed_lines performed ys
          → (if b then h.line ∷ performed_lines performed (xs ++ ys) else performed_lines performed (xs ++ ys))
          ≡ (if b then h.line ∷ performed_lines performed xs else performed_lines performed xs) ++ performed_lines performed ys
      by true e = ap (λ l. h.line ∷ l) e
      by false e = e

  -- none of these is of that line
  none_of : (hs : List Handing) (line : ℕ) → ((k : Handing) → IsOneOf hs k → k.line ≡ line → ⊥) → has (performed_lines performed hs) line ≡ false
  none_of [] line none = refl
  none_of (h ∷ hs) line none = by (performed h.worker h.serial) (none_of hs line (λ k one. none k (inr one)))
    where
      by : (b : Bool) → has (performed_lines performed hs) line ≡ false → has (if b then h.line ∷ performed_lines performed hs else performed_lines performed hs) line ≡ false
      by true e = or_from (h.line == line) (has (performed_lines performed hs) line) (ne_eqb h.line line (none h (inl refl))) e
      by false e = e

  -- what was handed over and performed isn't again
  never : (w : Site) (said : List (ℕ × ℕ)) (es : List Event) → IsSane w said → IsRunFrom w es → AreUnperformed performed (said ++ openings_from w es)
      → (h : Handing) → WasHanded w said h → performed h.worker h.serial ≡ true → has (performed_lines performed (handings_from w es)) h.line ≡ false
  never w said [] sane run honest h was done = refl
  never w said (e ∷ es) sane run honest h was done =
      ap (λ l. has l h.line) (lines-append (handings_by w e) (handings_from (site_after w e) es))
      ∙ has-append (performed_lines performed (handings_by w e)) (performed_lines performed (handings_from (site_after w e) es)) h.line
      ∙ or_from _ _
      (none_of (handings_by w e) h.line (λ k one same. true≢false (sym done ∙ honest h.worker h.serial
      (among_more said (openings_from w (e ∷ es)) h.worker h.serial (opened_before w said e h k was (handed_now w said sane e run.0 k one) (sym same))))))
      (never (site_after w e) (said ++ openings_by w e) es (sane_after w said sane e run.0) run.1
      (subst (AreUnperformed performed) (sym (append_assoc said (openings_by w e) (openings_from (site_after w e) es))) honest)
      h (handed_after w said sane h was e run.0) done)

  all_distinct : (w : Site) (said : List (ℕ × ℕ)) (es : List Event) → IsSane w said → IsRunFrom w es → AreUnperformed performed (said ++ openings_from w es)
      → AreDistinct (performed_lines performed (handings_from w es))
  all_distinct w said [] sane run honest = tt
  all_distinct w said (e ∷ es) sane run honest =
      let later = subst (AreUnperformed performed) (sym (append_assoc said (openings_by w e) (openings_from (site_after w e) es))) honest in
      let after = sane_after w said sane e run.0 in
      let rest = all_distinct (site_after w e) (said ++ openings_by w e) es after run.1 later in
      ⊎_elim
      (λ (none : handings_by w e ≡ []). subst (λ l. AreDistinct (performed_lines performed (l ++ handings_from (site_after w e) es))) (sym none) rest)
      (λ (one : (h : Handing) × (handings_by w e ≡ h ∷ [])).
      subst (λ l. AreDistinct (performed_lines performed (l ++ handings_from (site_after w e) es))) (sym one.1)
      (by one.0 (performed one.0.worker one.0.serial) (λ done. never (site_after w e) (said ++ openings_by w e) es after run.1 later one.0
      (now_handed w said e one.0 (handed_now w said sane e run.0 one.0 (subst (λ l. IsOneOf l one.0) (sym one.1) (inl refl)))) done) refl rest))
      (one_at_most w e)
    where
      by : (h : Handing) (b : Bool) → (performed h.worker h.serial ≡ true → has (performed_lines performed (handings_from (site_after w e) es)) h.line ≡ false)
          → performed h.worker h.serial ≡ b → AreDistinct (performed_lines performed (handings_from (site_after w e) es))
          → AreDistinct (if b then h.line ∷ performed_lines performed (handings_from (site_after w e) es) else performed_lines performed (handings_from (site_after w e) es))
      by h true first is rest = (first is, rest)
      by h false first is rest = rest

pub performed_once : (performed : ℕ → ℕ → Bool) (es : List Event) → IsRun es → AreUnperformed performed (openings es) → AreDistinct (performed_lines performed (handings es))
performed_once performed es run honest = all_distinct performed first_site [] es first_sane run honest

-- the site of a run

pub run_parts : (w : Site) (before after : List Event) → IsRunFrom w (before ++ after) → IsRunFrom w before × IsRunFrom (site_after_all w before) after
run_parts w [] after run = (tt, run)
run_parts w (x ∷ before) after run = let parts = run_parts (site_after w x) before after run.1 in ((run.0, parts.0), parts.1)

each_handed : (w : Site) (said : List (ℕ × ℕ)) (es : List Event) → IsSane w said → IsRunFrom w es → (h : Handing) → IsOneOf (handings_from w es) h
    → WasHanded (site_after_all w es) (said ++ openings_from w es) h
each_handed w said [] sane run h one = absurd one
each_handed w said (e ∷ es) sane run h one =
    subst (λ l. WasHanded (site_after_all (site_after w e) es) l h) (append_assoc said (openings_by w e) (openings_from (site_after w e) es))
    (⊎_elim
    (λ (now : IsOneOf (handings_by w e) h). handed_after_all (site_after w e) (said ++ openings_by w e) es h (sane_after w said sane e run.0) run.1
    (now_handed w said e h (handed_now w said sane e run.0 h now)))
    (λ (later : IsOneOf (handings_from (site_after w e) es) h). each_handed (site_after w e) (said ++ openings_by w e) es (sane_after w said sane e run.0) run.1 h later)
    (split_one (handings_by w e) (handings_from (site_after w e) es) h one))

pub sane_of : (es : List Event) → IsRun es → IsSane (site_of es) (openings es)
sane_of es run = sane_after_all first_site [] es first_sane run

pub kept_for_ever : (es : List Event) (h : Handing) → IsRun es → IsOneOf (handings es) h → IsKept (site_of es) h
kept_for_ever es h run one = (each_handed first_site [] es first_sane run h one).entry

pub again_only_opened : (before after : List Event) (e : Event) (h k : Handing) → IsRun (before ++ e ∷ after) → IsOneOf (handings before) h → IsOneOf (handings_by (site_of before) e) k
    → h.line ≡ k.line → is_among (openings before) h.worker h.serial ≡ true
again_only_opened before after e h k run one other same =
    let parts = run_parts first_site before (e ∷ after) run in
    opened_before (site_of before) (openings before) e h k (each_handed first_site [] before first_sane parts.0 h one)
    (handed_now (site_of before) (openings before) (sane_of before parts.0) e parts.1.0 k other) same

pub round_history : (es : List Event) (k : ℕ) (r : Round) → IsRun es → (site_of es).rounds k ≡ Some r → IsHistory r.givens r.moments
round_history es k r run is = (subst IsGoodIf is ((sane_of es run).rounds k)).history

same_seat : (o : Option Round) (f g : File Entry) (p other q : ℕ) → IsGoodIf o → FitsIn o f p q → FitsIn o g other q → p ≡ other
same_seat None f g p other q good a b = absurd a
same_seat (Some r) f g p other q good a b = one_each p other r.written.first r.written.workers r.written.givens.workers q (sound_parts r.written good.sound).first a.0 b.0

module _ (es : List Event) (run : IsRun es) where
  pub fits_there : (p k q : ℕ) → (site_of es).whereabouts p ≡ Inside k q → Fits (site_of es).rounds (site_of es).last ((site_of es).journals p) p (Inside k q)
  fits_there p k q at = subst (λ whereabouts. Fits (site_of es).rounds (site_of es).last ((site_of es).journals p) p whereabouts) at ((sane_of es run).whereabouts p)

  pub in_last : (p k q : ℕ) → (site_of es).whereabouts p ≡ Inside k q → k ≡ (site_of es).last
  in_last p k q at = (fits_there p k q at).0

  pub seats_differ : (p o k q : ℕ) → (site_of es).whereabouts p ≡ Inside k q → (site_of es).whereabouts o ≡ Inside k q → p ≡ o
  seats_differ p o k q here there =
      same_seat ((site_of es).rounds k) ((site_of es).journals p) ((site_of es).journals o) p o q ((sane_of es run).rounds k) (fits_there p k q here).1 (fits_there o k q there).1
