-- Intents of which it was said that they weren't begun or done, and what journals and findings then
-- say.
use Rattle.std.proofs.Common.{◌≡◌, ◌⊎◌, ℕ, Bool, true, false, ◌&&◌, ◌||◌, List, [], ◌∷◌, ◌++◌, take, zero, suc, refl, sym, ap, ◌∙◌}
use Rattle.std.specs.Prelude.{◌==◌, if◌then◌else◌}
use Rattle.std.specs.List.{AllByRecursion, list_any}
use Rattle.std.proofs.lemmas.Bool.{true≢false, eq-eqb, and_from, or_cases, or_parts, or_from, or_left, or_right}
use Rattle.amo_run_log.specs.declared.entry.Entry.{Entry}
use Rattle.amo_run_log.specs.declared.entry.Entry.TheVariants.{Intent as IntentOf, Answer as AnswerTo}
use Rattle.amo_run_log.specs.declared.finding.Finding.{Finding}
use Rattle.amo_run_log.specs.Findings.{is_not_done, is_of, is_undone}
use Rattle.amo_run_log.specs.Open.{opens, NoneOpens}
use Rattle.amo_run_safety.specs.Run.{opened_by_entries, opened_by_finding, is_among}

-- lists of intents

or_assoc : (a b c : Bool) → (a || (b || c)) ≡ ((a || b) || c)
or_assoc true b c = refl
or_assoc false b c = refl

among-append : (is js : List (ℕ × ℕ)) (p n : ℕ) → is_among (is ++ js) p n ≡ (is_among is p n || is_among js p n)
among-append [] js p n = refl
among-append (i ∷ is) js p n =
    ap (λ b. ((i.0 == p) && (i.1 == n)) || b) (among-append is js p n) ∙ or_assoc ((i.0 == p) && (i.1 == n)) (is_among is p n) (is_among js p n)

pub among_parts : (is js : List (ℕ × ℕ)) (p n : ℕ) → is_among (is ++ js) p n ≡ false → (is_among is p n ≡ false) × (is_among js p n ≡ false)
among_parts is js p n h = or_parts (is_among is p n) (is_among js p n) (sym (among-append is js p n) ∙ h)

pub among_neither : (is js : List (ℕ × ℕ)) (p n : ℕ) → is_among is p n ≡ false → is_among js p n ≡ false → is_among (is ++ js) p n ≡ false
among_neither is js p n h k = among-append is js p n ∙ or_from (is_among is p n) (is_among js p n) h k

pub among_either : (is js : List (ℕ × ℕ)) (p n : ℕ) → is_among (is ++ js) p n ≡ true → (is_among is p n ≡ true) ⊎ (is_among js p n ≡ true)
among_either is js p n h = or_cases (is_among is p n) (is_among js p n) (sym (among-append is js p n) ∙ h)

pub among_more : (is js : List (ℕ × ℕ)) (p n : ℕ) → is_among is p n ≡ true → is_among (is ++ js) p n ≡ true
among_more is js p n h = among-append is js p n ∙ or_left (is_among is p n) (is_among js p n) h

pub among_last : (is js : List (ℕ × ℕ)) (p n : ℕ) → is_among js p n ≡ true → is_among (is ++ js) p n ≡ true
among_last is js p n h = among-append is js p n ∙ or_right (is_among is p n) (is_among js p n) h

-- what holds of all items

pub all_left : {X : Type 0} (P : X → Type 0) (xs ys : List X) → AllByRecursion P (xs ++ ys) → AllByRecursion P xs
all_left P [] ys h = tt
all_left P (x ∷ xs) ys h = (h.0, all_left P xs ys h.1)

pub all_right : {X : Type 0} (P : X → Type 0) (xs ys : List X) → AllByRecursion P (xs ++ ys) → AllByRecursion P ys
all_right P [] ys h = h
all_right P (x ∷ xs) ys h = all_right P xs ys h.1

pub all_both : {X : Type 0} (P : X → Type 0) (xs ys : List X) → AllByRecursion P xs → AllByRecursion P ys → AllByRecursion P (xs ++ ys)
all_both P [] ys h k = k
all_both P (x ∷ xs) ys h k = (h.0, all_both P xs ys h.1 k)

pub all_taken : {X : Type 0} (P : X → Type 0) (n : ℕ) (xs : List X) → AllByRecursion P xs → AllByRecursion P (take n xs)
all_taken P zero xs h = tt
all_taken P (suc n) [] h = tt
all_taken P (suc n) (x ∷ xs) h = (h.0, all_taken P n xs h.1)

-- what passes no test

any_append : {X : Type 0} (t : X → Bool) (xs ys : List X) → list_any t xs ≡ false → list_any t ys ≡ false → list_any t (xs ++ ys) ≡ false
any_append t [] ys h k = k
any_append t (x ∷ xs) ys h k =
    let parts = or_parts (t x) (list_any t xs) h in
    or_from (t x) (list_any t (xs ++ ys)) parts.0 (any_append t xs ys parts.1 k)

any_left : {X : Type 0} (t : X → Bool) (xs ys : List X) → list_any t (xs ++ ys) ≡ false → list_any t xs ≡ false
any_left t [] ys h = refl
any_left t (x ∷ xs) ys h =
    let parts = or_parts (t x) (list_any t (xs ++ ys)) h in
    or_from (t x) (list_any t xs) parts.0 (any_left t xs ys parts.1)

any_right : {X : Type 0} (t : X → Bool) (xs ys : List X) → list_any t (xs ++ ys) ≡ false → list_any t ys ≡ false
any_right t [] ys h = h
any_right t (x ∷ xs) ys h = any_right t xs ys (or_parts (t x) (list_any t (xs ++ ys)) h).1

any_taken : {X : Type 0} (t : X → Bool) (n : ℕ) (xs : List X) → list_any t xs ≡ false → list_any t (take n xs) ≡ false
any_taken t zero xs h = refl
any_taken t (suc n) [] h = refl
any_taken t (suc n) (x ∷ xs) h =
    let parts = or_parts (t x) (list_any t xs) h in
    or_from (t x) (list_any t (take n xs)) parts.0 (any_taken t n xs parts.1)

-- entries that don't say so of an intent

pub none_opens : (p n : ℕ) (es : List Entry) → is_among (opened_by_entries p es) p n ≡ false → NoneOpens n es
none_opens p n [] h = tt
none_opens p n (IntentOf m line time ∷ es) h = (tt, none_opens p n es h)
none_opens p n (AnswerTo m answer ∷ es) h = by (opens answer) refl h (none_opens p n es)
  where
    by : (b : Bool) → opens answer ≡ b → is_among (if b then (p, m) ∷ opened_by_entries p es else opened_by_entries p es) p n ≡ false
        → (is_among (opened_by_entries p es) p n ≡ false → NoneOpens n es) → NoneOpens n (AnswerTo m answer ∷ es)
    by true is h rest =
        let parts = or_parts ((p == p) && (m == n)) (is_among (opened_by_entries p es) p n) h in
        ((λ e same. true≢false (sym (and_from (p == p) (m == n) (eq-eqb p p refl) (eq-eqb m n same)) ∙ parts.0)), rest parts.1)
    by false is h rest = ((λ e. absurd (true≢false (sym e ∙ is))), rest h)

-- and findings

module _ (p n : ℕ) where
  abbrev says : Finding → Bool
  says f = is_not_done f.verdict && is_of p n f

  one_says : (f : Finding) → is_among (opened_by_finding f) p n ≡ false → says f ≡ false
  one_says f h = by (is_not_done f.verdict) h
    where
      by : (b : Bool) → is_among (if b then (f.worker, f.serial) ∷ [] else []) p n ≡ false → (b && is_of p n f) ≡ false
      by true h = (or_parts ((f.worker == p) && (f.serial == n)) false h).0
      by false h = refl

  pub not_undone : (before : List Finding) (f : Finding) → is_undone before p n ≡ false → is_among (opened_by_finding f) p n ≡ false → is_undone (before ++ f ∷ []) p n ≡ false
  not_undone before f h k = any_append says before (f ∷ []) h (or_from (says f) false (one_says f k) refl)

  pub undone_left : (xs ys : List Finding) → is_undone (xs ++ ys) p n ≡ false → is_undone xs p n ≡ false
  undone_left xs ys h = any_left says xs ys h

  pub undone_taken : (k : ℕ) (xs ys : List Finding) → is_undone (xs ++ ys) p n ≡ false → is_undone (xs ++ take k ys) p n ≡ false
  undone_taken k xs ys h = any_append says xs (take k ys) (any_left says xs ys h) (any_taken says k ys (any_right says xs ys h))
