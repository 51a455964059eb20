-- A line that is closed stands by an intent that closes it, and by a running one if there is one.
use Rattle.std.proofs.Common.{◌≡◌, ℕ, zero, suc, ◌+◌, ◌-◌, Bool, true, false, cond, ◌||◌, List, [], ◌∷◌, ◌++◌, drop, Some, None, refl, sym, ap, ◌∙◌, arith}
use Rattle.std.specs.Prelude.{nat_le, slice_get, slice_index_or}
use Rattle.std.specs.List.{AllByRecursion, filter, list_any}
use Rattle.std.proofs.lemmas.Bool.{and_from, le-leb, not-false, not-true, or_left, or_right}
use Rattle.std.proofs.lemmas.List.{drop-drop}
use Rattle.std.proofs.lemmas.List.Folds.{list_any-append}
use Rattle.std.proofs.lemmas.Option.{get_or_from_slice_get}
use Rattle.amo_run_log.specs.declared.finding.Finding.{Finding}
use Rattle.amo_run_log.specs.declared.journal.Attempt.{Attempt}
use Rattle.amo_run_log.specs.Open.{closes, closed_by, is_open}
use Rattle.amo_status.specs.declared.standing.LineStatus.{LineStatus}
use Rattle.amo_status.specs.declared.state.AttemptId.{AttemptId}
use Rattle.amo_status.specs.declared.state.State.TheVariants.{Running}
use Rattle.amo_status.specs.States.{is, state_of}
use Rattle.amo_status.specs.Standings.{attempt_of, open_standing, standing_by, if_closing, closing_in, closing, foremost, deciding, standing_of, IsByIntent}
use Rattle.amo_status.proofs.Closers.{all_append, has_some, all_deciding, has_closing}

-- what is left of a list from an index on

at_front : {A : Type 0} (xs : List A) (i : ℕ) (x : A) (back : List A) → drop i xs ≡ x ∷ back → slice_get xs i ≡ Some x
at_front [] zero x back h = absurd (cc)
at_front [] (suc i) x back h = absurd (cc)
at_front (y ∷ xs) zero x back h = cc
at_front (y ∷ xs) (suc i) x back h = at_front xs i x back h

behind : {A : Type 0} (xs : List A) (i : ℕ) (x : A) (back : List A) → drop i xs ≡ x ∷ back → drop (i + 1) xs ≡ back
behind xs i x back h = sym (drop-drop 1 i xs) ∙ ap (drop 1) h

-- the intent at these indices
at_indices : (journals : List (List Attempt)) (p s : ℕ) (es : List Attempt) (e : Attempt) → slice_get journals p ≡ Some es → slice_get es s ≡ Some e → attempt_of journals (p + 1) (s + 1) ≡ Some e
at_indices journals p s es e journal intent =
    let worker : (p + 1) - 1 ≡ p = omega arith in
    let serial : (s + 1) - 1 ≡ s = omega arith in
    ap (λ b. cond b (slice_get (slice_index_or journals ((p + 1) - 1) []) ((s + 1) - 1)) None) (and_from (nat_le 1 (p + 1)) (nat_le 1 (s + 1)) (le-leb 1 (p + 1) (omega arith)) (le-leb 1 (s + 1) (omega arith)))
    ∙ ap (λ k. slice_get (slice_index_or journals k []) ((s + 1) - 1)) worker
    ∙ ap (λ k. slice_get (slice_index_or journals p []) k) serial
    ∙ ap (λ (l : List Attempt). slice_get l s) (get_or_from_slice_get journals p es [] journal)
    ∙ intent

module _ (findings : List Finding) (all : List (List Attempt)) (finals : List AttemptId) (line : ℕ) where
  abbrev pub ByIntent : LineStatus → Type 0
  ByIntent s = IsByIntent findings all finals line s

  if_by : (worker serial : ℕ) (e : Attempt) → attempt_of all worker serial ≡ Some e → AllByRecursion ByIntent (if_closing findings finals worker serial e line)
  if_by worker serial e there = by_test (closes findings worker serial e line) refl
    where
      by_test : (b : Bool) → closes findings worker serial e line ≡ b → AllByRecursion ByIntent (cond b (standing_by findings finals worker serial e ∷ []) [])
      by_test false shut = tt
      by_test true shut = (record { attempt = e; there = there; closing = shut; stands = refl }, tt)

  in_journal : (p : ℕ) (es : List Attempt) → slice_get all p ≡ Some es → (s : ℕ) (back : List Attempt) → drop s es ≡ back → AllByRecursion ByIntent (closing_in findings finals (p + 1) (s + 1) back line)
  in_journal p es journal s [] left = tt
  in_journal p es journal s (e ∷ back) left =
      all_append ByIntent (if_closing findings finals (p + 1) (s + 1) e line) (closing_in findings finals (p + 1) ((s + 1) + 1) back line)
      (if_by (p + 1) (s + 1) e (at_indices all p s es e journal (at_front es s e back left)))
      (in_journal p es journal (s + 1) back (behind es s e back left))

  pub in_journals : (p : ℕ) (back : List (List Attempt)) → drop p all ≡ back → AllByRecursion ByIntent (closing findings finals (p + 1) back line)
  in_journals p [] left = tt
  in_journals p (es ∷ back) left =
      all_append ByIntent (closing_in findings finals (p + 1) 1 es line) (closing findings finals ((p + 1) + 1) back line)
      (in_journal p es (at_front all p es back left) 0 es refl)
      (in_journals (p + 1) back (behind all p es back left))

  pub law_closed : is_open findings all line ≡ false → IsByIntent findings all finals line (standing_of findings all finals line)
  law_closed closed =
      all_deciding ByIntent (closing findings finals 1 all line) (in_journals 0 all refl)
      (has_closing findings finals line 1 all ∙ not-false (closed_by findings 1 all line) closed)

  pub law_open : is_open findings all line ≡ true → standing_of findings all finals line ≡ open_standing
  law_open opened = none (closing findings finals 1 all line) (has_closing findings finals line 1 all ∙ not-true (closed_by findings 1 all line) opened)
    where
      none : (xs : List LineStatus) → has_some xs ≡ false → deciding xs ≡ open_standing
      none [] h = refl
      none (x ∷ xs) h = absurd (cc)

-- one that runs

abbrev runs : LineStatus → Bool
runs s = is Running s.state

first_runs : (xs ys : List LineStatus) → list_any runs xs ≡ true → runs (foremost (filter runs xs ++ ys)) ≡ true
first_runs [] ys h = absurd (cc)
first_runs (x ∷ xs) ys h = by_test (runs x) refl h (first_runs xs ys)
  where
    by_test : (b : Bool) → runs x ≡ b → (b || list_any runs xs) ≡ true → (list_any runs xs ≡ true → runs (foremost (filter runs xs ++ ys)) ≡ true) → runs (foremost (cond b (x ∷ filter runs xs) (filter runs xs) ++ ys)) ≡ true
    by_test true is_so some later = is_so
    by_test false is_so some later = later some

module _ (findings : List Finding) (finals : List AttemptId) (line : ℕ) where
  run_here : (worker serial : ℕ) (e : Attempt) → closes findings worker serial e line ≡ true → is Running (state_of findings finals worker serial e.answer) ≡ true → list_any runs (if_closing findings finals worker serial e line) ≡ true
  run_here worker serial e shut running =
      ap (λ b. list_any runs (cond b (standing_by findings finals worker serial e ∷ []) [])) shut ∙ ap (λ b. b || false) running

  run_in : (worker serial s : ℕ) (es : List Attempt) (e : Attempt) → slice_get es s ≡ Some e → closes findings worker (serial + s) e line ≡ true → is Running (state_of findings finals worker (serial + s) e.answer) ≡ true
      → list_any runs (closing_in findings finals worker serial es line) ≡ true
  run_in worker serial s [] e at shut running = absurd (cc)
  run_in worker serial zero (d ∷ es) e at shut running =
      let same : d ≡ e = cc in
      let number : serial + 0 ≡ serial = omega arith in
      list_any-append runs (if_closing findings finals worker serial d line) (closing_in findings finals worker (serial + 1) es line)
      ∙ or_left (list_any runs (if_closing findings finals worker serial d line)) (list_any runs (closing_in findings finals worker (serial + 1) es line))
      (ap (λ (x : Attempt). list_any runs (if_closing findings finals worker serial x line)) same
      ∙ run_here worker serial e (ap (λ n. closes findings worker n e line) (sym number) ∙ shut) (ap (λ n. is Running (state_of findings finals worker n e.answer)) (sym number) ∙ running))
  run_in worker serial (suc s) (d ∷ es) e at shut running =
      let number : (serial + 1) + s ≡ serial + suc s = omega arith in
      list_any-append runs (if_closing findings finals worker serial d line) (closing_in findings finals worker (serial + 1) es line)
      ∙ or_right (list_any runs (if_closing findings finals worker serial d line)) (list_any runs (closing_in findings finals worker (serial + 1) es line))
      (run_in worker (serial + 1) s es e at (ap (λ n. closes findings worker n e line) number ∙ shut) (ap (λ n. is Running (state_of findings finals worker n e.answer)) number ∙ running))

  run_among : (worker p s : ℕ) (journals : List (List Attempt)) (es : List Attempt) (e : Attempt) → slice_get journals p ≡ Some es → slice_get es s ≡ Some e
      → closes findings (worker + p) (1 + s) e line ≡ true → is Running (state_of findings finals (worker + p) (1 + s) e.answer) ≡ true → list_any runs (closing findings finals worker journals line) ≡ true
  run_among worker p s [] es e journal at shut running = absurd (cc)
  run_among worker zero s (ds ∷ journals) es e journal at shut running =
      let same : es ≡ ds = cc in
      let number : worker + 0 ≡ worker = omega arith in
      list_any-append runs (closing_in findings finals worker 1 ds line) (closing findings finals (worker + 1) journals line)
      ∙ or_left (list_any runs (closing_in findings finals worker 1 ds line)) (list_any runs (closing findings finals (worker + 1) journals line))
      (run_in worker 1 s ds e (ap (λ (l : List Attempt). slice_get l s) (sym same) ∙ at)
      (ap (λ n. closes findings n (1 + s) e line) (sym number) ∙ shut) (ap (λ n. is Running (state_of findings finals n (1 + s) e.answer)) (sym number) ∙ running))
  run_among worker (suc p) s (ds ∷ journals) es e journal at shut running =
      let number : (worker + 1) + p ≡ worker + suc p = omega arith in
      list_any-append runs (closing_in findings finals worker 1 ds line) (closing findings finals (worker + 1) journals line)
      ∙ or_right (list_any runs (closing_in findings finals worker 1 ds line)) (list_any runs (closing findings finals (worker + 1) journals line))
      (run_among (worker + 1) p s journals es e journal at
      (ap (λ n. closes findings n (1 + s) e line) number ∙ shut) (ap (λ n. is Running (state_of findings finals n (1 + s) e.answer)) number ∙ running))

  -- at which indices the intent stands
  pub law_running : (journals : List (List Attempt)) (p s : ℕ) (es : List Attempt) (e : Attempt) → slice_get journals p ≡ Some es → slice_get es s ≡ Some e
      → closes findings (p + 1) (s + 1) e line ≡ true → is Running (state_of findings finals (p + 1) (s + 1) e.answer) ≡ true → is Running (standing_of findings journals finals line).state ≡ true
  law_running journals p s es e journal at shut running =
      let worker : 1 + p ≡ p + 1 = omega arith in
      let serial : 1 + s ≡ s + 1 = omega arith in
      first_runs (closing findings finals 1 journals line) (closing findings finals 1 journals line)
      (run_among 1 p s journals es e journal at
      (ap (λ n. closes findings n (1 + s) e line) worker ∙ ap (λ n. closes findings (p + 1) n e line) serial ∙ shut)
      (ap (λ n. is Running (state_of findings finals n (1 + s) e.answer)) worker ∙ ap (λ n. is Running (state_of findings finals (p + 1) n e.answer)) serial ∙ running))
