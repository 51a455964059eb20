-- The intent that decides after a step of a loop over journals, and at the end of the loop.
use Rattle.std.proofs.Common.{◌≡◌, ◌≢◌, ⊎_elim, ℕ, ◌+◌, ◌-◌, ◌<◌, ◌≤◌, Bool, true, false, cond, ◌&&◌, ◌||◌, List, [], ◌∷◌, ◌++◌, Vec, Global, length, get_or, drop, map, refl, sym, ap, ◌∙◌, arith}
use Rattle.std.specs.Prelude.{not, ◌==◌}
use Rattle.std.specs.List.{filter}
use Rattle.std.proofs.lemmas.Bool.{cases_eq}
use Rattle.std.proofs.lemmas.Bool.Decides.{nat_tests}
use Rattle.std.proofs.lemmas.List.{drop_more, get_or-set_same, get_or-set_other}
use Rattle.std.proofs.Math.ListN.{set}
use Rattle.amo_run_log.specs.declared.finding.Finding.{Finding}
use Rattle.amo_run_log.specs.declared.journal.Attempt.{Attempt}
use Rattle.amo_run_log.specs.Findings.{is_undone}
use Rattle.amo_run_log.specs.Open.{reopens}
use Rattle.amo_status.specs.declared.standing.LineStatus.{LineStatus}
use Rattle.amo_status.specs.declared.state.AttemptId.{AttemptId}
use Rattle.amo_status.specs.declared.state.State.{State}
use Rattle.amo_status.specs.declared.state.State.TheVariants.{Open, Running}
use Rattle.amo_status.specs.Deciding.{decided_of, decided_from}
use Rattle.amo_status.specs.States.{ended_at, is, state_of}
use Rattle.amo_status.specs.Standings.{open_standing, standing_by, if_closing, closing_in, closing, foremost, deciding}
use Rattle.amo_status.proofs.Closers.{open_state, AllClosed, all_closed}

equal : (a b : ℕ) → a ≡ b → (a == b) ≡ true
equal a b is = grind (arith, nat_tests)

not_equal : (a b : ℕ) → a ≢ b → (a == b) ≡ false
not_equal a b isnt = grind (arith, nat_tests)

-- one intent

module _ (findings : List Finding) (finals : List AttemptId) (worker serial : ℕ) (e : Attempt) where
  abbrev parted : Bool → Bool → List LineStatus
  parted of_line opened = cond (of_line && not opened) (standing_by findings finals worker serial e ∷ []) []

  pub of_another : (before : LineStatus) (line : ℕ) → e.line ≢ line → before ≡ decided_from before (if_closing findings finals worker serial e line)
  of_another before line isnt = ap (λ b. decided_from before (parted b (reopens e.answer || is_undone findings worker serial))) (sym (not_equal e.line line isnt))

  pub decided_by_it : (before : LineStatus) (line : ℕ) (state : State) (ended : ℕ) → e.line ≡ line → state ≡ state_of findings finals worker serial e.answer → ended ≡ ended_at e.answer → is Open state ≡ false
      → decided_of before (record { state = state; worker = worker; serial = serial; time = e.time; ended = ended }) ≡ decided_from before (if_closing findings finals worker serial e line)
  decided_by_it before line state ended of_line stands end_is closed =
      let known : (reopens e.answer || is_undone findings worker serial) ≡ false = sym (open_state findings finals worker serial e.answer) ∙ ap (is Open) (sym stands) ∙ closed in
      ap (λ (s : State). decided_of before (record { state = s; worker = worker; serial = serial; time = e.time; ended = ended })) stands
      ∙ ap (λ n. decided_of before (record { state = state_of findings finals worker serial e.answer; worker = worker; serial = serial; time = e.time; ended = n })) end_is
      ∙ ap (λ b. decided_from before (parted true b)) (sym known) ∙ ap (λ b. decided_from before (parted b (reopens e.answer || is_undone findings worker serial))) (sym (equal e.line line of_line))

  -- at its place among all lines
  pub at_its_place : (found : List LineStatus) (k line : ℕ) (new : LineStatus) → e.line ≡ line → 1 ≤ line → line ≤ length found
      → new ≡ decided_from (get_or found (line - 1) open_standing) (if_closing findings finals worker serial e line)
      → get_or (set found (line - 1) new) k open_standing ≡ decided_from (get_or found k open_standing) (if_closing findings finals worker serial e (k + 1))
  at_its_place found k line new of_line from there is = ⊎_elim
      (λ same.
      let number : line ≡ k + 1 = omega arith in
      ap (λ j. get_or (set found (line - 1) new) j open_standing) same
      ∙ get_or-set_same found (line - 1) new open_standing (omega arith)
      ∙ is
      ∙ ap (λ j. decided_from (get_or found j open_standing) (if_closing findings finals worker serial e line)) (sym same)
      ∙ ap (λ n. decided_from (get_or found k open_standing) (if_closing findings finals worker serial e n)) number)
      (λ other. get_or-set_other found (line - 1) k new open_standing other ∙ of_another (get_or found k open_standing) (k + 1) (omega arith))
      (cases_eq k (line - 1))

-- more of them

decided_append : (s : LineStatus) (xs ys : List LineStatus) → decided_from (decided_from s xs) ys ≡ decided_from s (xs ++ ys)
decided_append s [] ys = refl
decided_append s (x ∷ xs) ys = decided_append (decided_of s x) xs ys

-- one intent more
pub noted : (findings : List Finding) (finals : List AttemptId) (worker : ℕ) (es : List Attempt) (i line : ℕ) (d : Attempt) (old new all : LineStatus) → i < length es
    → decided_from old (closing_in findings finals worker (i + 1) (drop i es) line) ≡ all → new ≡ decided_from old (if_closing findings finals worker (i + 1) (get_or es i d) line)
    → decided_from new (closing_in findings finals worker ((i + 1) + 1) (drop (i + 1) es) line) ≡ all
noted findings finals worker es i line d old new all lt so_far is =
    ap (λ s. decided_from s (closing_in findings finals worker ((i + 1) + 1) (drop (i + 1) es) line)) is
    ∙ decided_append old (if_closing findings finals worker (i + 1) (get_or es i d) line) (closing_in findings finals worker ((i + 1) + 1) (drop (i + 1) es) line)
    ∙ ap (λ l. decided_from old (closing_in findings finals worker (i + 1) l line)) (sym (drop_more es i d lt))
    ∙ so_far

-- one journal more
pub noted_by : (findings : List Finding) (finals : List AttemptId) (journals : List (Vec Attempt Global)) (p line : ℕ) (d : Vec Attempt Global) (old new all : LineStatus) → p < length journals
    → decided_from old (closing findings finals (p + 1) (map (λ (v : Vec Attempt Global). v.items) (drop p journals)) line) ≡ all
    → new ≡ decided_from old (closing_in findings finals (p + 1) 1 (get_or journals p d).items line)
    → decided_from new (closing findings finals ((p + 1) + 1) (map (λ (v : Vec Attempt Global). v.items) (drop (p + 1) journals)) line) ≡ all
noted_by findings finals journals p line d old new all lt so_far is =
    ap (λ s. decided_from s (closing findings finals ((p + 1) + 1) (map (λ (v : Vec Attempt Global). v.items) (drop (p + 1) journals)) line)) is
    ∙ decided_append old (closing_in findings finals (p + 1) 1 (get_or journals p d).items line) (closing findings finals ((p + 1) + 1) (map (λ (v : Vec Attempt Global). v.items) (drop (p + 1) journals)) line)
    ∙ ap (λ l. decided_from old (closing findings finals (p + 1) (map (λ (v : Vec Attempt Global). v.items) l) line)) (sym (drop_more journals p d lt))
    ∙ so_far

-- in the end

abbrev runs : LineStatus → Bool
runs s = is Running s.state

abbrev chosen : Bool → Bool → Bool → LineStatus → LineStatus → LineStatus
chosen old_open new_runs old_runs old new = cond (old_open || (new_runs && not old_runs)) new old

stays : (s : LineStatus) (xs : List LineStatus) → is Open s.state ≡ false → runs s ≡ true → decided_from s xs ≡ s
stays s [] closed running = refl
stays s (x ∷ xs) closed running =
    let keeps : decided_of s x ≡ s = ap (λ o. chosen o (runs x) (runs s) s x) closed ∙ ap (λ r. chosen false (runs x) r s x) running ∙ by_test (runs x) in
    ap (λ t. decided_from t xs) keeps ∙ stays s xs closed running
  where
    by_test : (b : Bool) → cond (false || (b && not true)) x s ≡ s
    by_test true = refl
    by_test false = refl

running_open : (x : LineStatus) → runs x ≡ true → is Open x.state ≡ false
running_open x running = by_state x.state running
  where
    by_state : (s : State) → is Running s ≡ true → is Open s ≡ false
    by_state s h = grind (arith, nat_tests)

waits : (s : LineStatus) (xs ys : List LineStatus) → is Open s.state ≡ false → runs s ≡ false → decided_from s xs ≡ foremost (filter runs xs ++ s ∷ ys)
waits s [] ys closed idle = refl
waits s (x ∷ xs) ys closed idle = by_test (runs x) refl (waits s xs ys closed idle)
  where
    chooses : (b : Bool) → runs x ≡ b → decided_of s x ≡ cond b x s
    chooses b is = ap (λ o. chosen o (runs x) (runs s) s x) closed ∙ ap (λ r. chosen false (runs x) r s x) idle ∙ ap (λ r. chosen false r false s x) is ∙ simpler b
      where
        simpler : (c : Bool) → chosen false c false s x ≡ cond c x s
        simpler true = refl
        simpler false = refl

    by_test : (b : Bool) → runs x ≡ b → decided_from s xs ≡ foremost (filter runs xs ++ s ∷ ys) → decided_from (decided_of s x) xs ≡ foremost (cond (runs x) (x ∷ filter runs xs) (filter runs xs) ++ s ∷ ys)
    by_test true is rest =
        ap (λ t. decided_from t xs) (chooses true is) ∙ stays x xs (running_open x is) is
        ∙ ap (λ c. foremost (cond c (x ∷ filter runs xs) (filter runs xs) ++ s ∷ ys)) (sym is)
    by_test false is rest =
        ap (λ t. decided_from t xs) (chooses false is) ∙ rest
        ∙ ap (λ c. foremost (cond c (x ∷ filter runs xs) (filter runs xs) ++ s ∷ ys)) (sym is)

pub decides : (xs : List LineStatus) → AllClosed xs → decided_from open_standing xs ≡ deciding xs
decides [] closed = refl
decides (x ∷ xs) closed = by_test (runs x) refl
  where
    by_test : (b : Bool) → runs x ≡ b → decided_from x xs ≡ foremost (cond (runs x) (x ∷ filter runs xs) (filter runs xs) ++ x ∷ xs)
    by_test true is = stays x xs closed.0 is ∙ ap (λ c. foremost (cond c (x ∷ filter runs xs) (filter runs xs) ++ x ∷ xs)) (sym is)
    by_test false is = waits x xs xs closed.0 is ∙ ap (λ c. foremost (cond c (x ∷ filter runs xs) (filter runs xs) ++ x ∷ xs)) (sym is)

pub decides_all : (findings : List Finding) (finals : List AttemptId) (worker : ℕ) (journals : List (List Attempt)) (line : ℕ) → decided_from open_standing (closing findings finals worker journals line) ≡ deciding (closing findings finals worker journals line)
decides_all findings finals worker journals line = decides (closing findings finals worker journals line) (all_closed findings finals line worker journals)
