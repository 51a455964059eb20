-- A line is handed over at most once more than it is said of its intents that they weren't begun or
-- done.
use Rattle.std.proofs.Common.{◌≡◌, ⊎_elim, inl, inr, ℕ, suc, ◌+◌, ◌≤◌, Bool, true, false, ◌&&◌, ◌||◌, List, [], ◌∷◌, ◌++◌, length, refl, sym, ap, ◌∙◌, subst, arith, append_assoc}
use Rattle.std.specs.Prelude.{⊤, ◌==◌, if◌then◌else◌}
use Rattle.std.proofs.lemmas.Bool.{true≢false, false_from_ne_true, eq-eqb, eqb-true, and_parts, and_from, or_cases, or_parts, or_from, or_left, or_right}
use Rattle.amo_run_safety.specs.Site.{Site, first_site, Event}
use Rattle.amo_run_safety.specs.Run.{site_after, IsRunFrom, IsRun, Handing, handings_by, handings_from, handings, openings_by, openings_from, openings, is_among, IsOneOf, names_of, AreDifferent, common, names_of_line}
use Rattle.amo_run_safety.proofs.Openings.{among_more}
use Rattle.amo_run_safety.proofs.Sane.{IsSane, first_sane}
use Rattle.amo_run_safety.proofs.Events.{sane_after}
use Rattle.amo_run_safety.proofs.Handed.{WasHanded, handed_after, handed_now, now_handed, opened_before, one_at_most, split_one}
use Rattle.amo_run_safety.proofs.Named.{handed_once}

-- different intents, each of them among others, are no more than these

-- the intents but this one
abbrev without : (p n : ℕ) → List (ℕ × ℕ) → List (ℕ × ℕ)
without p n [] = []
without p n (i ∷ is) = if (i.0 == p) && (i.1 == n) then without p n is else i ∷ without p n is

without_less : (p n : ℕ) (is : List (ℕ × ℕ)) (a b : ℕ) → is_among (without p n is) a b ≡ true → is_among is a b ≡ true
without_less p n [] a b h = h
without_less p n (i ∷ is) a b h = by ((i.0 == p) && (i.1 == n)) h (without_less p n is a b)
  where
    by : (s : Bool) → is_among (if s then without p n is else i ∷ without p n is) a b ≡ true → (is_among (without p n is) a b ≡ true → is_among is a b ≡ true)
        → (((i.0 == a) && (i.1 == b)) || is_among is a b) ≡ true
    by true h rest = or_right ((i.0 == a) && (i.1 == b)) (is_among is a b) (rest h)
    by false h rest = ⊎_elim
        (λ (first : ((i.0 == a) && (i.1 == b)) ≡ true). or_left ((i.0 == a) && (i.1 == b)) (is_among is a b) first)
        (λ (later : is_among (without p n is) a b ≡ true). or_right ((i.0 == a) && (i.1 == b)) (is_among is a b) (rest later))
        (or_cases ((i.0 == a) && (i.1 == b)) (is_among (without p n is) a b) h)

without_it : (p n : ℕ) (is : List (ℕ × ℕ)) → is_among (without p n is) p n ≡ false
without_it p n [] = refl
without_it p n (i ∷ is) = by ((i.0 == p) && (i.1 == n)) refl (without_it p n is)
  where
    by : (s : Bool) → ((i.0 == p) && (i.1 == n)) ≡ s → is_among (without p n is) p n ≡ false → is_among (if s then without p n is else i ∷ without p n is) p n ≡ false
    by true e rest = rest
    by false e rest = or_from ((i.0 == p) && (i.1 == n)) (is_among (without p n is) p n) e rest

without_different : (p n : ℕ) (is : List (ℕ × ℕ)) → AreDifferent is → AreDifferent (without p n is)
without_different p n [] h = tt
without_different p n (i ∷ is) h = by ((i.0 == p) && (i.1 == n)) (without_different p n is h.1)
  where
    by : (s : Bool) → AreDifferent (without p n is) → AreDifferent (if s then without p n is else i ∷ without p n is)
    by true rest = rest
    by false rest = (false_from_ne_true (is_among (without p n is) i.0 i.1) (λ t. true≢false (sym (without_less p n is i.0 i.1 t) ∙ h.0)), rest)

-- how many there are with it
without_none : (p n : ℕ) (is : List (ℕ × ℕ)) → is_among is p n ≡ false → length is ≤ length (without p n is)
without_none p n [] h = omega arith
without_none p n (i ∷ is) h =
    let parts = or_parts ((i.0 == p) && (i.1 == n)) (is_among is p n) h in
    subst (λ s. suc (length is) ≤ length (if s then without p n is else i ∷ without p n is)) (sym parts.0)
    (let rest = without_none p n is parts.1 in omega (arith, rest))

without_one : (p n : ℕ) (is : List (ℕ × ℕ)) → AreDifferent is → length is ≤ length (without p n is) + 1
without_one p n [] h = omega arith
without_one p n (i ∷ is) h = by ((i.0 == p) && (i.1 == n)) refl (without_one p n is h.1)
  where
    by : (s : Bool) → ((i.0 == p) && (i.1 == n)) ≡ s → length is ≤ length (without p n is) + 1 → suc (length is) ≤ length (if s then without p n is else i ∷ without p n is) + 1
    by true e rest =
        let parts = and_parts (i.0 == p) (i.1 == n) e in
        let gone : is_among is p n ≡ false = subst (λ x. is_among is x n ≡ false) (eqb-true i.0 p parts.0) (subst (λ x. is_among is i.0 x ≡ false) (eqb-true i.1 n parts.1) h.0) in
        let all = without_none p n is gone in
        omega (arith, all)
    by false e rest = omega (arith, rest)

no_more : (names os is : List (ℕ × ℕ)) → AreDifferent is → ((p n : ℕ) → is_among is p n ≡ true → is_among os p n ≡ true) → ((p n : ℕ) → is_among is p n ≡ true → is_among names p n ≡ true)
    → length is ≤ length (common names os)
no_more names [] [] different there known = omega arith
no_more names [] (i ∷ is) different there known =
    absurd (true≢false (sym (there i.0 i.1 (or_left ((i.0 == i.0) && (i.1 == i.1)) (is_among is i.0 i.1) (and_from (i.0 == i.0) (i.1 == i.1) (eq-eqb i.0 i.0 refl) (eq-eqb i.1 i.1 refl))))))
no_more names (o ∷ os) is different there known = by (is_among is o.0 o.1) refl (no_more names os (without o.0 o.1 is) (without_different o.0 o.1 is different) others (λ p n h. known p n (without_less o.0 o.1 is p n h)))
  where
    others : (p n : ℕ) → is_among (without o.0 o.1 is) p n ≡ true → is_among os p n ≡ true
    others p n h = ⊎_elim
        (λ (same : ((o.0 == p) && (o.1 == n)) ≡ true). absurd (
        let parts = and_parts (o.0 == p) (o.1 == n) same in
        let gone : is_among (without o.0 o.1 is) p n ≡ false = subst (λ x. is_among (without o.0 o.1 is) x n ≡ false) (eqb-true o.0 p parts.0)
        (subst (λ x. is_among (without o.0 o.1 is) o.0 x ≡ false) (eqb-true o.1 n parts.1) (without_it o.0 o.1 is)) in
        true≢false (sym h ∙ gone)))
        (λ (later : is_among os p n ≡ true). later)
        (or_cases ((o.0 == p) && (o.1 == n)) (is_among os p n) (there p n (without_less o.0 o.1 is p n h)))

    shorter : (b : Bool) → length (common names os) ≤ length (if b then o ∷ common names os else common names os)
    shorter true = omega arith
    shorter false = omega arith

    by : (b : Bool) → is_among is o.0 o.1 ≡ b → length (without o.0 o.1 is) ≤ length (common names os) → length is ≤ length (common names (o ∷ os))
    by true e rest =
        let one = without_one o.0 o.1 is different in
        subst (λ b. length is ≤ length (if b then o ∷ common names os else common names os)) (sym (known o.0 o.1 e)) (omega (arith, one, rest))
    by false e rest =
        let all = without_none o.0 o.1 is e in
        let less = shorter (is_among names o.0 o.1) in
        omega (arith, all, rest, less)

-- all but the last of these were said not to have been begun or done

abbrev AllButLast : (said names : List (ℕ × ℕ)) → Type 0
AllButLast said [] = ⊤
AllButLast said (i ∷ []) = ⊤
AllButLast said (i ∷ k ∷ is) = (is_among said i.0 i.1 ≡ true) × AllButLast said (k ∷ is)

-- the list without its last item
abbrev fronts : List (ℕ × ℕ) → List (ℕ × ℕ)
fronts [] = []
fronts (i ∷ []) = []
fronts (i ∷ k ∷ is) = i ∷ fronts (k ∷ is)

front_length : (is : List (ℕ × ℕ)) → length is ≤ length (fronts is) + 1
front_length [] = omega arith
front_length (i ∷ []) = omega arith
front_length (i ∷ k ∷ is) = let rest = front_length (k ∷ is) in omega (arith, rest)

front_less : (is : List (ℕ × ℕ)) (p n : ℕ) → is_among (fronts is) p n ≡ true → is_among is p n ≡ true
front_less [] p n h = h
front_less (i ∷ []) p n h = absurd (true≢false (sym h))
front_less (i ∷ k ∷ is) p n h = ⊎_elim
    (λ (first : ((i.0 == p) && (i.1 == n)) ≡ true). or_left ((i.0 == p) && (i.1 == n)) (is_among (k ∷ is) p n) first)
    (λ (later : is_among (fronts (k ∷ is)) p n ≡ true). or_right ((i.0 == p) && (i.1 == n)) (is_among (k ∷ is) p n) (front_less (k ∷ is) p n later))
    (or_cases ((i.0 == p) && (i.1 == n)) (is_among (fronts (k ∷ is)) p n) h)

front_different : (is : List (ℕ × ℕ)) → AreDifferent is → AreDifferent (fronts is)
front_different [] h = tt
front_different (i ∷ []) h = tt
front_different (i ∷ k ∷ is) h =
    (false_from_ne_true (is_among (fronts (k ∷ is)) i.0 i.1) (λ t. true≢false (sym (front_less (k ∷ is) i.0 i.1 t) ∙ h.0)), front_different (k ∷ is) h.1)

front_said : (said is : List (ℕ × ℕ)) → AllButLast said is → (p n : ℕ) → is_among (fronts is) p n ≡ true → is_among said p n ≡ true
front_said said [] h p n e = absurd (true≢false (sym e))
front_said said (i ∷ []) h p n e = absurd (true≢false (sym e))
front_said said (i ∷ k ∷ is) h p n e = ⊎_elim
    (λ (first : ((i.0 == p) && (i.1 == n)) ≡ true).
    let parts = and_parts (i.0 == p) (i.1 == n) first in
    subst (λ x. is_among said x n ≡ true) (eqb-true i.0 p parts.0) (subst (λ x. is_among said i.0 x ≡ true) (eqb-true i.1 n parts.1) h.0))
    (λ (later : is_among (fronts (k ∷ is)) p n ≡ true). front_said said (k ∷ is) h.1 p n later)
    (or_cases ((i.0 == p) && (i.1 == n)) (is_among (fronts (k ∷ is)) p n) e)

counted : (said is : List (ℕ × ℕ)) → AreDifferent is → AllButLast said is → length is ≤ length (common is said) + 1
counted said is different all =
    let some = no_more is said (fronts is) (front_different is different) (front_said said is all) (front_less is) in
    let whole = front_length is in
    omega (arith, some, whole)

-- the intents by which one line was handed over

line_less : (line : ℕ) (hs : List Handing) (p n : ℕ) → is_among (names_of_line line hs) p n ≡ true → is_among (names_of hs) p n ≡ true
line_less line [] p n h = h
line_less line (k ∷ hs) p n h = by (k.line == line) h (line_less line hs p n)
  where
    by : (b : Bool) → is_among (if b then (k.worker, k.serial) ∷ names_of_line line hs else names_of_line line hs) p n ≡ true
        → (is_among (names_of_line line hs) p n ≡ true → is_among (names_of hs) p n ≡ true) → (((k.worker == p) && (k.serial == n)) || is_among (names_of hs) p n) ≡ true
    by true h rest = ⊎_elim
        (λ (first : ((k.worker == p) && (k.serial == n)) ≡ true). or_left ((k.worker == p) && (k.serial == n)) (is_among (names_of hs) p n) first)
        (λ (later : is_among (names_of_line line hs) p n ≡ true). or_right ((k.worker == p) && (k.serial == n)) (is_among (names_of hs) p n) (rest later))
        (or_cases ((k.worker == p) && (k.serial == n)) (is_among (names_of_line line hs) p n) h)
    by false h rest = or_right ((k.worker == p) && (k.serial == n)) (is_among (names_of hs) p n) (rest h)

line_different : (line : ℕ) (hs : List Handing) → AreDifferent (names_of hs) → AreDifferent (names_of_line line hs)
line_different line [] h = tt
line_different line (k ∷ hs) h = by (k.line == line) (line_different line hs h.1)
  where
    by : (b : Bool) → AreDifferent (names_of_line line hs) → AreDifferent (if b then (k.worker, k.serial) ∷ names_of_line line hs else names_of_line line hs)
    by true rest = (false_from_ne_true (is_among (names_of_line line hs) k.worker k.serial) (λ t. true≢false (sym (line_less line hs k.worker k.serial t) ∙ h.0)), rest)
    by false rest = rest

-- what was handed over, and is handed over again later, is said not to have been begun or done
later_said : (w : Site) (said : List (ℕ × ℕ)) (es : List Event) → IsSane w said → IsRunFrom w es → (h : Handing) → WasHanded w said h → (k : Handing) → IsOneOf (handings_from w es) k
    → h.line ≡ k.line → is_among (said ++ openings_from w es) h.worker h.serial ≡ true
later_said w said [] sane run h was k one same = absurd one
later_said w said (e ∷ es) sane run h was k one same = ⊎_elim
    (λ (now : IsOneOf (handings_by w e) k).
    among_more said (openings_from w (e ∷ es)) h.worker h.serial (opened_before w said e h k was (handed_now w said sane e run.0 k now) same))
    (λ (later : IsOneOf (handings_from (site_after w e) es) k).
    subst (λ l. is_among l h.worker h.serial ≡ true) (append_assoc said (openings_by w e) (openings_from (site_after w e) es))
    (later_said (site_after w e) (said ++ openings_by w e) es (sane_after w said sane e run.0) run.1 h (handed_after w said sane h was e run.0) k later same))
    (split_one (handings_by w e) (handings_from (site_after w e) es) k one)

-- the first of those of a line is one of them
first_of_line : (line : ℕ) (hs : List Handing) (i : ℕ × ℕ) (is : List (ℕ × ℕ)) → names_of_line line hs ≡ i ∷ is → (k : Handing) × IsOneOf hs k × (k.line ≡ line)
first_of_line line [] i is e = absurd (true≢false (ap is_some_name (sym e)))
  where
    is_some_name : List (ℕ × ℕ) → Bool
    is_some_name [] = false
    is_some_name (x ∷ xs) = true
first_of_line line (h ∷ hs) i is e = by (h.line == line) refl e (first_of_line line hs i is)
  where
    by : (b : Bool) → (h.line == line) ≡ b → (if b then (h.worker, h.serial) ∷ names_of_line line hs else names_of_line line hs) ≡ i ∷ is
        → (names_of_line line hs ≡ i ∷ is → (k : Handing) × IsOneOf hs k × (k.line ≡ line)) → (k : Handing) × IsOneOf (h ∷ hs) k × (k.line ≡ line)
    by true at e rest = (h, inl refl, eqb-true h.line line at)
    by false at e rest = let (k, one, same) = rest e in (k, inr one, same)

all_said : (w : Site) (said : List (ℕ × ℕ)) (es : List Event) (line : ℕ) → IsSane w said → IsRunFrom w es → AllButLast (said ++ openings_from w es) (names_of_line line (handings_from w es))
all_said w said [] line sane run = tt
all_said w said (e ∷ es) line sane run =
    let after = sane_after w said sane e run.0 in
    let rest = subst (λ l. AllButLast l (names_of_line line (handings_from (site_after w e) es))) (append_assoc said (openings_by w e) (openings_from (site_after w e) es))
    (all_said (site_after w e) (said ++ openings_by w e) es line after run.1) in
    ⊎_elim
    (λ (none : handings_by w e ≡ []). subst (λ l. AllButLast (said ++ openings_from w (e ∷ es)) (names_of_line line (l ++ handings_from (site_after w e) es))) (sym none) rest)
    (λ (one : (h : Handing) × (handings_by w e ≡ h ∷ [])).
    let was = now_handed w said e one.0 (handed_now w said sane e run.0 one.0 (subst (λ l. IsOneOf l one.0) (sym one.1) (inl refl))) in
    subst (λ l. AllButLast (said ++ openings_from w (e ∷ es)) (names_of_line line (l ++ handings_from (site_after w e) es))) (sym one.1)
    (by one.0 (one.0.line == line) refl (names_of_line line (handings_from (site_after w e) es)) refl rest
    (λ k there same. subst (λ l. is_among l one.0.worker one.0.serial ≡ true) (append_assoc said (openings_by w e) (openings_from (site_after w e) es))
    (later_said (site_after w e) (said ++ openings_by w e) es after run.1 one.0 was k there same))))
    (one_at_most w e)
  where
    by : (h : Handing) (b : Bool) → (h.line == line) ≡ b → (names : List (ℕ × ℕ)) → names_of_line line (handings_from (site_after w e) es) ≡ names
        → AllButLast (said ++ openings_from w (e ∷ es)) names
        → ((k : Handing) → IsOneOf (handings_from (site_after w e) es) k → h.line ≡ k.line → is_among (said ++ openings_from w (e ∷ es)) h.worker h.serial ≡ true)
        → AllButLast (said ++ openings_from w (e ∷ es)) (if b then (h.worker, h.serial) ∷ names else names)
    by h false at names is rest later = rest
    by h true at [] is rest later = tt
    by h true at (i ∷ is_rest) is rest later =
        let (k, one, same) = first_of_line line (handings_from (site_after w e) es) i is_rest is in
        (later k one (eqb-true h.line line at ∙ sym same), rest)

pub handed_or_opened : (es : List Event) (line : ℕ) → IsRun es → length (names_of_line line (handings es)) ≤ length (common (names_of_line line (handings es)) (openings es)) + 1
handed_or_opened es line run = counted (openings es) (names_of_line line (handings es)) (line_different line (handings es) (handed_once es run)) (all_said first_site [] es line first_sane run)
