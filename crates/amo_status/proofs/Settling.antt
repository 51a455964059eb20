-- The status of a line after a person's answer that may be taken.
use Rattle.std.proofs.Common.{◌≡◌, ℕ, ◌+◌, ◌-◌, ◌≤◌, Bool, true, false, cond, ◌&&◌, ◌||◌, List, [], ◌∷◌, ◌++◌, map, Option, Some, None, refl, sym, ap, ◌∙◌, arith}
use Rattle.std.specs.Prelude.{not, ◌==◌, nat_le, slice_get, slice_index_or}
use Rattle.std.specs.List.{AllByRecursion, filter}
use Rattle.std.proofs.lemmas.Bool.{and_from, and_parts, eq-eqb, eqb-true, leb-true, ne_eqb, or_parts, or_right}
use Rattle.std.proofs.lemmas.Bool.Decides.{nat_tests}
use Rattle.std.proofs.lemmas.List.{map-append}
use Rattle.std.proofs.lemmas.List.Elements.{filter-append}
use Rattle.std.proofs.lemmas.List.Folds.{list_any-append}
use Rattle.amo_run_log.specs.declared.entry.Outcome.{Outcome}
use Rattle.amo_run_log.specs.declared.entry.Outcome.TheVariants.{Done as Ended, Doubt as Unknown, Unbegun, Untouched as Idle}
use Rattle.amo_run_log.specs.declared.finding.Finding.{Finding}
use Rattle.amo_run_log.specs.declared.finding.Resolution.{Resolution}
use Rattle.amo_run_log.specs.declared.finding.Resolution.TheVariants.{Done as FoundDone, NotDone}
use Rattle.amo_run_log.specs.declared.journal.Attempt.{Attempt}
use Rattle.amo_run_log.specs.Findings.{is_not_done, is_of, is_undone}
use Rattle.amo_run_log.specs.Open.{reopens}
use Rattle.amo_status.specs.declared.refusal.Refusal.{Refusal}
use Rattle.amo_status.specs.declared.refusal.Refusal.TheVariants.{OtherLine, AnsweredOtherwise, AnsweredSo}
use Rattle.amo_status.specs.declared.standing.LineStatus.{LineStatus}
use Rattle.amo_status.specs.declared.state.AttemptId.{AttemptId}
use Rattle.amo_status.specs.declared.state.State.{State}
use Rattle.amo_status.specs.declared.state.State.TheVariants.{Open, Done, Failed, Running}
use Rattle.amo_status.specs.States.{ended_at, is, is_among, is_found_done, state_by, state_of}
use Rattle.amo_status.specs.Standings.{attempt_of, if_closing, closing_in, closing, foremost, deciding, standing_of}
use Rattle.amo_status.specs.Answers.{contrary, is_asked, is_closed_by, is_said, refusal_at, refusal_of, refusal_of_option, with_answer, MayBeTaken}
use Rattle.amo_status.proofs.ByIntent.{ByIntent, in_journals}
use Rattle.amo_status.proofs.Closers.{all_deciding, has_some}
use Rattle.amo_status.proofs.Taken.{answered, plain, stands}

abbrev runs : LineStatus → Bool
runs s = is Running s.state

abbrev stood : State → ℕ → ℕ → Attempt → LineStatus
stood state w s e = record { state = state; worker = w; serial = s; time = e.time; ended = ended_at e.answer }

or_none : (a b : Bool) → b ≡ false → (a || b) ≡ a
or_none true b h = refl
or_none false b h = h

-- the finding more

module _ (findings : List Finding) (worker serial time : ℕ) where
  abbrev done_too : List Finding
  done_too = findings ++ record { verdict = FoundDone; worker = worker; serial = serial; time = time } ∷ []

  abbrev undone_too : List Finding
  undone_too = findings ++ record { verdict = NotDone; worker = worker; serial = serial; time = time } ∷ []

  -- whether it is of this intent
  abbrev of_it : ℕ → ℕ → Bool
  of_it w s = (worker == w) && (serial == s)

  pub done_undoes_none : (w s : ℕ) → is_undone done_too w s ≡ is_undone findings w s
  done_undoes_none w s =
      list_any-append (λ (f : Finding). is_not_done f.verdict && is_of w s f) findings (record { verdict = FoundDone; worker = worker; serial = serial; time = time } ∷ [])
      ∙ or_none (is_undone findings w s) false refl

  pub done_is_found : (w s : ℕ) → is_found_done done_too w s ≡ (is_found_done findings w s || (of_it w s || false))
  done_is_found w s = list_any-append (λ (f : Finding). not (is_not_done f.verdict) && is_of w s f) findings (record { verdict = FoundDone; worker = worker; serial = serial; time = time } ∷ [])

  pub undone_is_undone : (w s : ℕ) → is_undone undone_too w s ≡ (is_undone findings w s || (of_it w s || false))
  undone_is_undone w s = list_any-append (λ (f : Finding). is_not_done f.verdict && is_of w s f) findings (record { verdict = NotDone; worker = worker; serial = serial; time = time } ∷ [])

  pub undone_finds_none : (w s : ℕ) → is_found_done undone_too w s ≡ is_found_done findings w s
  undone_finds_none w s =
      list_any-append (λ (f : Finding). not (is_not_done f.verdict) && is_of w s f) findings (record { verdict = NotDone; worker = worker; serial = serial; time = time } ∷ [])
      ∙ or_none (is_found_done findings w s) false refl

-- what a finding more makes of the standings by one intent it makes of those by all

module _ (findings more : List Finding) (finals : List AttemptId) (line : ℕ) (change : List LineStatus → List LineStatus) (of_none : change [] ≡ []) (of_both : (xs ys : List LineStatus) → change (xs ++ ys) ≡ change xs ++ change ys)
    (of_one : (w s : ℕ) (e : Attempt) → if_closing more finals w s e line ≡ change (if_closing findings finals w s e line)) where
  in_one : (w s : ℕ) (es : List Attempt) → closing_in more finals w s es line ≡ change (closing_in findings finals w s es line)
  in_one w s [] = sym of_none
  in_one w s (e ∷ es) =
      ap (λ l. l ++ closing_in more finals w (s + 1) es line) (of_one w s e)
      ∙ ap (λ l. change (if_closing findings finals w s e line) ++ l) (in_one w (s + 1) es)
      ∙ sym (of_both (if_closing findings finals w s e line) (closing_in findings finals w (s + 1) es line))

  all_after : (w : ℕ) (journals : List (List Attempt)) → closing more finals w journals line ≡ change (closing findings finals w journals line)
  all_after w [] = sym of_none
  all_after w (es ∷ journals) =
      ap (λ l. l ++ closing more finals (w + 1) journals line) (in_one w 1 es)
      ∙ ap (λ l. change (closing_in findings finals w 1 es line) ++ l) (all_after (w + 1) journals)
      ∙ sym (of_both (closing_in findings finals w 1 es line) (closing findings finals (w + 1) journals line))

-- a finding that it was done: the intent goes on closing its line, and stands done

module _ (findings : List Finding) (finals : List AttemptId) (worker serial time line : ℕ) where
  abbrev settled : LineStatus → LineStatus
  settled s = cond (of_it findings worker serial time s.worker s.serial) (record s { state = Done }) s

  abbrev parts : Bool → Bool → Bool → ℕ → ℕ → Attempt → List LineStatus
  parts of_line opened found w s e = cond (of_line && not opened) (stood (cond opened Open (cond found Done (state_by (is_among finals w s) e.answer))) w s e ∷ []) []

  if_settled : (w s : ℕ) (e : Attempt) → if_closing (done_too findings worker serial time) finals w s e line ≡ map settled (if_closing findings finals w s e line)
  if_settled w s e =
      ap (λ u. parts (e.line == line) (reopens e.answer || u) (is_found_done (done_too findings worker serial time) w s) w s e) (done_undoes_none findings worker serial time w s)
      ∙ ap (λ f. parts (e.line == line) (reopens e.answer || is_undone findings w s) f w s e) (done_is_found findings worker serial time w s)
      ∙ by_test (e.line == line) (reopens e.answer || is_undone findings w s) (is_found_done findings w s) (of_it findings worker serial time w s) refl
    where
      by_test : (of_line opened found m : Bool) → of_it findings worker serial time w s ≡ m → parts of_line opened (found || (m || false)) w s e ≡ map settled (parts of_line opened found w s e)
      by_test false opened found m is_so = refl
      by_test true true found m is_so = refl
      by_test true false true true is_so = sym (ap (λ b. cond b (stood Done w s e) (stood Done w s e) ∷ []) is_so)
      by_test true false true false is_so = sym (ap (λ b. cond b (stood Done w s e) (stood Done w s e) ∷ []) is_so)
      by_test true false false true is_so =
          sym (ap (λ b. cond b (stood Done w s e) (stood (state_by (is_among finals w s) e.answer) w s e) ∷ []) is_so)
      by_test true false false false is_so =
          sym (ap (λ b. cond b (stood Done w s e) (stood (state_by (is_among finals w s) e.answer) w s e) ∷ []) is_so)

  pub all_settled : (w : ℕ) (journals : List (List Attempt)) → closing (done_too findings worker serial time) finals w journals line ≡ map settled (closing findings finals w journals line)
  all_settled = all_after findings (done_too findings worker serial time) finals line (map settled) refl (map-append settled) if_settled

  -- if none runs, none runs then
  none_runs : (xs : List LineStatus) → filter runs xs ≡ [] → filter runs (map settled xs) ≡ []
  none_runs [] h = refl
  none_runs (x ∷ xs) h = by_test (runs x) refl h (none_runs xs)
    where
      stays : (m : Bool) → runs x ≡ false → runs (cond m (record x { state = Done }) x) ≡ false
      stays true idle = refl
      stays false idle = idle

      by_test : (b : Bool) → runs x ≡ b → cond b (x ∷ filter runs xs) (filter runs xs) ≡ [] → (filter runs xs ≡ [] → filter runs (map settled xs) ≡ []) → filter runs (map settled (x ∷ xs)) ≡ []
      by_test true is_so none later = absurd (cc)
      by_test false is_so none later =
          ap (λ b. cond b (settled x ∷ filter runs (map settled xs)) (filter runs (map settled xs))) (stays (of_it findings worker serial time x.worker x.serial) is_so) ∙ later none

  -- the first of them all decides if none runs
  idle : (xs : List LineStatus) → runs (deciding xs) ≡ false → filter runs xs ≡ []
  idle xs h = by_list xs (filter runs xs) (all_run xs) h
    where
      all_run : (ys : List LineStatus) → AllByRecursion (λ (s : LineStatus). runs s ≡ true) (filter runs ys)
      all_run [] = tt
      all_run (y ∷ ys) = by_test (runs y) refl (all_run ys)
        where
          by_test : (b : Bool) → runs y ≡ b → AllByRecursion (λ (s : LineStatus). runs s ≡ true) (filter runs ys) → AllByRecursion (λ (s : LineStatus). runs s ≡ true) (cond b (y ∷ filter runs ys) (filter runs ys))
          by_test true is_so rest = (is_so, rest)
          by_test false is_so rest = rest

      by_list : (ys zs : List LineStatus) → AllByRecursion (λ (s : LineStatus). runs s ≡ true) zs → runs (foremost (zs ++ ys)) ≡ false → zs ≡ []
      by_list ys [] all x = refl
      by_list ys (z ∷ zs) all x = absurd (cc (all.0, x))

  first_decides : (xs : List LineStatus) → filter runs xs ≡ [] → deciding xs ≡ foremost xs
  first_decides xs none = ap (λ l. foremost (l ++ xs)) none

  -- what decides on the line then
  pub decides_then : (xs : List LineStatus) → runs (deciding xs) ≡ false → has_some xs ≡ true → deciding (map settled xs) ≡ settled (deciding xs)
  decides_then xs rests some =
      first_decides (map settled xs) (none_runs xs (idle xs rests)) ∙ by_list xs some ∙ ap settled (sym (first_decides xs (idle xs rests)))
    where
      by_list : (ys : List LineStatus) → has_some ys ≡ true → foremost (map settled ys) ≡ settled (foremost ys)
      by_list [] h = absurd (cc)
      by_list (y ∷ ys) h = refl

-- a finding that it was not done: the intent closes its line no more

module _ (findings : List Finding) (finals : List AttemptId) (worker serial time line : ℕ) where
  abbrev others : LineStatus → Bool
  others s = not (of_it findings worker serial time s.worker s.serial)

  abbrev pieces : Bool → Bool → Bool → ℕ → ℕ → Attempt → List LineStatus
  pieces of_line opened found w s e = cond (of_line && not opened) (stood (cond opened Open (cond found Done (state_by (is_among finals w s) e.answer))) w s e ∷ []) []

  if_opened : (w s : ℕ) (e : Attempt) → if_closing (undone_too findings worker serial time) finals w s e line ≡ filter others (if_closing findings finals w s e line)
  if_opened w s e =
      ap (λ f. pieces (e.line == line) (reopens e.answer || is_undone (undone_too findings worker serial time) w s) f w s e) (undone_finds_none findings worker serial time w s)
      ∙ ap (λ u. pieces (e.line == line) (reopens e.answer || u) (is_found_done findings w s) w s e) (undone_is_undone findings worker serial time w s)
      ∙ by_test (e.line == line) (reopens e.answer) (is_undone findings w s) (is_found_done findings w s) (of_it findings worker serial time w s) refl
    where
      by_test : (of_line answered undone found m : Bool) → of_it findings worker serial time w s ≡ m → pieces of_line (answered || (undone || (m || false))) found w s e ≡ filter others (pieces of_line (answered || undone) found w s e)
      by_test false answered undone found m is_so = refl
      by_test true true undone found m is_so = refl
      by_test true false true found m is_so = refl
      by_test true false false found true is_so =
          sym (ap (λ b. cond (not b) (stood (cond found Done (state_by (is_among finals w s) e.answer)) w s e ∷ []) []) is_so)
      by_test true false false found false is_so =
          sym (ap (λ b. cond (not b) (stood (cond found Done (state_by (is_among finals w s) e.answer)) w s e ∷ []) []) is_so)

  pub all_opened : (w : ℕ) (journals : List (List Attempt)) → closing (undone_too findings worker serial time) finals w journals line ≡ filter others (closing findings finals w journals line)
  all_opened = all_after findings (undone_too findings worker serial time) finals line (filter others) refl (filter-append others) if_opened

-- an intent that a person is asked about

asked_rests : (answer : Option Outcome) (final : Bool) → is_asked final answer ≡ true → is Running (plain final answer) ≡ false
asked_rests None true h = refl
asked_rests None false h = absurd (cc)
asked_rests (Some (Ended code time)) final h = by_code (code == 0)
  where
    by_code : (b : Bool) → is Running (cond b Done Failed) ≡ false
    by_code true = refl
    by_code false = refl
asked_rests (Some (Unknown time)) final h = refl
asked_rests (Some Unbegun) final h = absurd (cc)
asked_rests (Some (Idle code time)) final h = refl

from_1 : (journals : List (List Attempt)) (worker serial : ℕ) (e : Attempt) → attempt_of journals worker serial ≡ Some e → 1 ≤ worker
from_1 journals worker serial e there = by_test (nat_le 1 worker && nat_le 1 serial) refl there
  where
    by_test : (b : Bool) → (nat_le 1 worker && nat_le 1 serial) ≡ b → cond b (slice_get (slice_index_or journals (worker - 1) []) (serial - 1)) None ≡ Some e → 1 ≤ worker
    by_test true is_so x = leb-true 1 worker (and_parts (nat_le 1 worker) (nat_le 1 serial) is_so).0
    by_test false is_so x = absurd (cc)

other_way : (a b c d : ℕ) → not ((a == b) && (c == d)) ≡ true → ((b == a) && (d == c)) ≡ false
other_way a b c d h = grind (arith, nat_tests)

module _ (findings : List Finding) (journals : List (List Attempt)) (finals : List AttemptId) (worker serial line : ℕ) (m : MayBeTaken findings journals finals worker serial line) where
  abbrev closers : List LineStatus
  closers = closing findings finals 1 journals line

  abbrev present : LineStatus
  present = standing_of findings journals finals line

  by_it : (present.worker ≡ worker) × (present.serial ≡ serial)
  by_it =
      let both = and_parts (present.worker == worker) (present.serial == serial) m.closing in
      (eqb-true present.worker worker both.0, eqb-true present.serial serial both.1)

  there_is : 1 ≤ worker
  there_is = let (e, there, of_line, is_so) = m.asked in from_1 journals worker serial e there

  some : has_some closers ≡ true
  some = by_list closers refl
    where
      by_list : (xs : List LineStatus) → closers ≡ xs → has_some xs ≡ true
      by_list [] is_so = absurd (let none : 0 ≡ worker = ap (λ (l : List LineStatus). (deciding l).worker) (sym is_so) ∙ by_it.0 in omega (arith, none, there_is))
      by_list (x ∷ xs) is_so = refl

  rests : is Running present.state ≡ false
  rests =
      let (e, there, of_line, is_so) = m.asked in
      let by_intent = all_deciding (ByIntent findings journals finals line) closers (in_journals findings journals finals line 0 journals refl) some in
      let none = or_parts (is_found_done findings worker serial) (is_undone findings worker serial) (sym (answered findings worker serial) ∙ m.unanswered) in
      let same : Some by_intent.attempt ≡ Some e = sym by_intent.there ∙ ap (λ w. attempt_of journals w present.serial) by_it.0 ∙ ap (attempt_of journals worker) by_it.1 ∙ there in
      let attempt : by_intent.attempt ≡ e = cc in
      ap (λ (s : LineStatus). is Running s.state) by_intent.stands
      ∙ ap (λ w. is Running (state_of findings finals w present.serial by_intent.attempt.answer)) by_it.0
      ∙ ap (λ s. is Running (state_of findings finals worker s by_intent.attempt.answer)) by_it.1
      ∙ ap (λ (a : Attempt). is Running (state_of findings finals worker serial a.answer)) attempt
      ∙ ap (is Running) (stands findings finals worker serial e.answer none.0 none.1)
      ∙ asked_rests e.answer (is_among finals worker serial) is_so

  -- it was done
  pub law_done : (time : ℕ) → standing_of (with_answer findings FoundDone worker serial time) journals finals line ≡ record present { state = Done }
  law_done time =
      ap deciding (all_settled findings finals worker serial time line 1 journals)
      ∙ decides_then findings finals worker serial time line closers rests some
      ∙ ap (λ b. cond b (record present { state = Done }) present) (and_from (worker == present.worker) (serial == present.serial) (eq-eqb worker present.worker (sym by_it.0)) (eq-eqb serial present.serial (sym by_it.1)))

  -- it was not done
  pub law_not_done : (time : ℕ) → is_closed_by (with_answer findings NotDone worker serial time) journals finals worker serial line ≡ false
  law_not_done time =
      ap (λ (l : List LineStatus). ((deciding l).worker == worker) && ((deciding l).serial == serial)) (all_opened findings finals worker serial time line 1 journals)
      ∙ by_list (filter (others findings finals worker serial time line) closers) (passing closers)
    where
      passing : (xs : List LineStatus) → AllByRecursion (λ (s : LineStatus). others findings finals worker serial time line s ≡ true) (filter (others findings finals worker serial time line) xs)
      passing [] = tt
      passing (x ∷ xs) = by_test (others findings finals worker serial time line x) refl (passing xs)
        where
          by_test : (b : Bool) → others findings finals worker serial time line x ≡ b → AllByRecursion (λ (s : LineStatus). others findings finals worker serial time line s ≡ true) (filter (others findings finals worker serial time line) xs)
              → AllByRecursion (λ (s : LineStatus). others findings finals worker serial time line s ≡ true) (cond b (x ∷ filter (others findings finals worker serial time line) xs) (filter (others findings finals worker serial time line) xs))
          by_test true is_so rest = (is_so, rest)
          by_test false is_so rest = rest

      by_list : (xs : List LineStatus) → AllByRecursion (λ (s : LineStatus). others findings finals worker serial time line s ≡ true) xs → (((deciding xs).worker == worker) && ((deciding xs).serial == serial)) ≡ false
      by_list [] all = ap (λ b. b && (0 == serial)) (ne_eqb 0 worker (λ none. omega (arith, none, there_is)))
      by_list (x ∷ xs) all =
          let s = deciding (x ∷ xs) in
          other_way worker s.worker serial s.serial (all_deciding (λ (t : LineStatus). others findings finals worker serial time line t ≡ true) (x ∷ xs) all refl)

  -- said again, or the contrary
  none_yet : (is_found_done findings worker serial ≡ false) × (is_undone findings worker serial ≡ false)
  none_yet = or_parts (is_found_done findings worker serial) (is_undone findings worker serial) (sym (answered findings worker serial) ∙ m.unanswered)

  it_is : (time : ℕ) → (of_it findings worker serial time worker serial || false) ≡ true
  it_is time = ap (λ b. b || false) (and_from (worker == worker) (serial == serial) (eq-eqb worker worker refl) (eq-eqb serial serial refl))

  is_so_then : (verdict : Resolution) (time : ℕ) → is_said (with_answer findings verdict worker serial time) worker serial verdict ≡ true
  is_so_then FoundDone time = done_is_found findings worker serial time worker serial ∙ or_right (is_found_done findings worker serial) (of_it findings worker serial time worker serial || false) (it_is time)
  is_so_then NotDone time = undone_is_undone findings worker serial time worker serial ∙ or_right (is_undone findings worker serial) (of_it findings worker serial time worker serial || false) (it_is time)

  isnt_otherwise : (verdict : Resolution) (time : ℕ) → is_said (with_answer findings verdict worker serial time) worker serial (contrary verdict) ≡ false
  isnt_otherwise FoundDone time = done_undoes_none findings worker serial time worker serial ∙ none_yet.1
  isnt_otherwise NotDone time = undone_finds_none findings worker serial time worker serial ∙ none_yet.0

  twice : (verdict : Resolution) → contrary (contrary verdict) ≡ verdict
  twice FoundDone = refl
  twice NotDone = refl

  -- as far as to what was said
  as_far : (noted : List Finding) (verdict : Resolution) (o : Option Refusal)
      → ((e : Attempt) → cond (is_said noted worker serial (contrary verdict)) (Some AnsweredOtherwise)
      (cond (is_said noted worker serial verdict) (Some AnsweredSo) (refusal_at (state_of noted finals worker serial e.answer) (is_closed_by noted journals finals worker serial line))) ≡ o)
      → refusal_of noted journals finals worker serial line verdict ≡ o
  as_far noted verdict o follows =
      let (e, there, of_line, is_so) = m.asked in
      ap (refusal_of_option noted journals finals worker serial line verdict) there
      ∙ ap (λ b. cond (not b) (Some OtherLine) (cond (is_said noted worker serial (contrary verdict)) (Some AnsweredOtherwise)
      (cond (is_said noted worker serial verdict) (Some AnsweredSo) (refusal_at (state_of noted finals worker serial e.answer) (is_closed_by noted journals finals worker serial line))))) (eq-eqb e.line line of_line)
      ∙ follows e

  pub law_so : (verdict : Resolution) (time : ℕ) → refusal_of (with_answer findings verdict worker serial time) journals finals worker serial line verdict ≡ Some AnsweredSo
  law_so verdict time =
      let noted = with_answer findings verdict worker serial time in
      as_far noted verdict (Some AnsweredSo)
      (λ e. ap (λ b. cond b (Some AnsweredOtherwise) (cond (is_said noted worker serial verdict) (Some AnsweredSo) (refusal_at (state_of noted finals worker serial e.answer) (is_closed_by noted journals finals worker serial line)))) (isnt_otherwise verdict time)
      ∙ ap (λ b. cond b (Some AnsweredSo) (refusal_at (state_of noted finals worker serial e.answer) (is_closed_by noted journals finals worker serial line))) (is_so_then verdict time))

  pub law_otherwise : (verdict : Resolution) (time : ℕ) → refusal_of (with_answer findings verdict worker serial time) journals finals worker serial line (contrary verdict) ≡ Some AnsweredOtherwise
  law_otherwise verdict time =
      let noted = with_answer findings verdict worker serial time in
      as_far noted (contrary verdict) (Some AnsweredOtherwise)
      (λ e. ap (λ b. cond b (Some AnsweredOtherwise) (cond (is_said noted worker serial (contrary verdict)) (Some AnsweredSo) (refusal_at (state_of noted finals worker serial e.answer) (is_closed_by noted journals finals worker serial line))))
      (ap (is_said noted worker serial) (twice verdict) ∙ is_so_then verdict time))
