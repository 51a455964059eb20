-- An answer is taken exactly if it may be.
use Rattle.std.proofs.Common.{◌≡◌, ◌↔◌, ℕ, Bool, true, false, cond, ◌&&◌, ◌||◌, List, [], ◌∷◌, Option, Some, None, Result, Ok, Err, refl, sym, ap, ◌∙◌}
use Rattle.std.specs.Prelude.{not, ◌==◌, is_ok, IsOk}
use Rattle.std.specs.Result.{result_err}
use Rattle.std.specs.List.{list_any}
use Rattle.std.proofs.lemmas.Bool.{eqb-true, eq-eqb, or_parts}
use Rattle.amo_run_log.specs.declared.entry.Outcome.{Outcome}
use Rattle.amo_run_log.specs.declared.entry.Outcome.TheVariants.{Done as Ended, Doubt as Unknown, Unbegun, Untouched as Idle}
use Rattle.amo_run_log.specs.declared.finding.Finding.{Finding}
use Rattle.amo_run_log.specs.declared.finding.Resolution.{Resolution}
use Rattle.amo_run_log.specs.declared.finding.Resolution.TheVariants.{Done as FoundDone, NotDone}
use Rattle.amo_run_log.specs.declared.journal.Attempt.{Attempt}
use Rattle.amo_run_log.specs.Findings.{is_not_done, is_of, is_undone}
use Rattle.amo_run_log.specs.Open.{reopens}
use Rattle.amo_status.specs.declared.refusal.Refusal.{Refusal}
use Rattle.amo_status.specs.declared.refusal.Refusal.TheVariants.{OtherLine, AnsweredOtherwise, AnsweredSo}
use Rattle.amo_status.specs.declared.state.AttemptId.{AttemptId}
use Rattle.amo_status.specs.declared.state.State.{State}
use Rattle.amo_status.specs.declared.state.State.TheVariants.{Open, Done, Failed}
use Rattle.amo_status.specs.States.{is_among, is_found_done, state_by, state_of}
use Rattle.amo_status.specs.Standings.{attempt_of}
use Rattle.amo_status.specs.Answers.{is_said, contrary, refusal_at, is_closed_by, refusal_of_option, refusal_of, is_asked, MayBeTaken}

-- a person answered exactly if one found it done or not done

by_parts : (n o a b : Bool) → (o || (a || b)) ≡ (((not n && o) || a) || ((n && o) || b))
by_parts true true true true = refl
by_parts true true true false = refl
by_parts true true false true = refl
by_parts true true false false = refl
by_parts true false true true = refl
by_parts true false true false = refl
by_parts true false false true = refl
by_parts true false false false = refl
by_parts false true true true = refl
by_parts false true true false = refl
by_parts false true false true = refl
by_parts false true false false = refl
by_parts false false true true = refl
by_parts false false true false = refl
by_parts false false false true = refl
by_parts false false false false = refl

pub answered : (findings : List Finding) (worker serial : ℕ) → list_any (is_of worker serial) findings ≡ (is_found_done findings worker serial || is_undone findings worker serial)
answered [] worker serial = refl
answered (f ∷ findings) worker serial =
    ap (λ b. is_of worker serial f || b) (answered findings worker serial)
    ∙ by_parts (is_not_done f.verdict) (is_of worker serial f) (is_found_done findings worker serial) (is_undone findings worker serial)

both_no : (findings : List Finding) (worker serial : ℕ) (v : Resolution) → is_said findings worker serial (contrary v) ≡ false → is_said findings worker serial v ≡ false
    → (is_found_done findings worker serial ≡ false) × (is_undone findings worker serial ≡ false)
both_no findings worker serial FoundDone otherwise so = (so, otherwise)
both_no findings worker serial NotDone otherwise so = (otherwise, so)

nobody : (a b : Bool) → a ≡ false → b ≡ false → (a || b) ≡ false
nobody a b no_a no_b = ap (λ x. x || b) no_a ∙ no_b

said : (findings : List Finding) (worker serial : ℕ) (v : Resolution) → is_found_done findings worker serial ≡ false → is_undone findings worker serial ≡ false → is_said findings worker serial v ≡ false
said findings worker serial FoundDone found undone = found
said findings worker serial NotDone found undone = undone

-- the chain of refusals

passes : {A : Type 0} (b : Bool) (x : A) (o : Option A) → cond b (Some x) o ≡ None → (b ≡ false) × (o ≡ None)
passes true x o h = absurd (cc)
passes false x o h = (refl, h)

negated : (b : Bool) → not b ≡ false → b ≡ true
negated true h = refl
negated false h = absurd (cc)

-- how an intent stands that no person answered
abbrev pub plain : Bool → Option Outcome → State
plain final answer = cond (reopens answer || false) Open (cond false Done (state_by final answer))

pub stands : (findings : List Finding) (finals : List AttemptId) (worker serial : ℕ) (answer : Option Outcome) → is_found_done findings worker serial ≡ false → is_undone findings worker serial ≡ false
    → state_of findings finals worker serial answer ≡ plain (is_among finals worker serial) answer
stands findings finals worker serial answer found undone =
    ap (λ b. cond (reopens answer || b) Open (cond (is_found_done findings worker serial) Done (state_by (is_among finals worker serial) answer))) undone
    ∙ ap (λ b. cond (reopens answer || false) Open (cond b Done (state_by (is_among finals worker serial) answer))) found

pub asks : (answer : Option Outcome) (final closing_now : Bool) → refusal_at (plain final answer) closing_now ≡ None → (is_asked final answer ≡ true) × (closing_now ≡ true)
asks None true true h = (refl, refl)
asks None true false h = absurd (cc)
asks None false closing_now h = absurd (cc)
asks (Some (Ended code time)) final closing_now h = by_code (code == 0) closing_now h
  where
    by_code : (b c : Bool) → refusal_at (cond b Done Failed) c ≡ None → (not b ≡ true) × (c ≡ true)
    by_code true c x = absurd (cc)
    by_code false true x = (refl, refl)
    by_code false false x = absurd (cc)
asks (Some (Unknown time)) final true h = (refl, refl)
asks (Some (Unknown time)) final false h = absurd (cc)
asks (Some Unbegun) final closing_now h = absurd (cc)
asks (Some (Idle code time)) final true h = (refl, refl)
asks (Some (Idle code time)) final false h = absurd (cc)

asked : (answer : Option Outcome) (final : Bool) → is_asked final answer ≡ true → refusal_at (plain final answer) true ≡ None
asked None true h = refl
asked None false h = absurd (cc)
asked (Some (Ended code time)) final h = by_code (code == 0) h
  where
    by_code : (b : Bool) → not b ≡ true → refusal_at (cond b Done Failed) true ≡ None
    by_code true x = absurd (cc)
    by_code false x = refl
asked (Some (Unknown time)) final h = refl
asked (Some Unbegun) final h = absurd (cc)
asked (Some (Idle code time)) final h = refl

module _ (findings : List Finding) (journals : List (List Attempt)) (finals : List AttemptId) (worker serial line : ℕ) (verdict : Resolution) where
  pub may : refusal_of findings journals finals worker serial line verdict ≡ None → MayBeTaken findings journals finals worker serial line
  may h = by_option (attempt_of journals worker serial) refl h
    where
      by_option : (o : Option Attempt) → attempt_of journals worker serial ≡ o → refusal_of_option findings journals finals worker serial line verdict o ≡ None → MayBeTaken findings journals finals worker serial line
      by_option None at x = absurd (cc)
      by_option (Some e) at x =
          let of_line = passes (not (e.line == line)) OtherLine _ x in
          let otherwise = passes (is_said findings worker serial (contrary verdict)) AnsweredOtherwise _ of_line.1 in
          let so = passes (is_said findings worker serial verdict) AnsweredSo _ otherwise.1 in
          let none = both_no findings worker serial verdict otherwise.0 so.0 in
          let c = is_closed_by findings journals finals worker serial line in
          let a = asks e.answer (is_among finals worker serial) c (ap (λ (s : State). refusal_at s c) (sym (stands findings finals worker serial e.answer none.0 none.1)) ∙ so.1) in
          record {
            asked = (e, at, eqb-true e.line line (negated (e.line == line) of_line.0), a.0);
            unanswered = answered findings worker serial ∙ nobody (is_found_done findings worker serial) (is_undone findings worker serial) none.0 none.1;
            closing = a.1;
          }

  pub might : MayBeTaken findings journals finals worker serial line → refusal_of findings journals finals worker serial line verdict ≡ None
  might m =
      let (e, at, of_line, is) = m.asked in
      let none = or_parts (is_found_done findings worker serial) (is_undone findings worker serial) (sym (answered findings worker serial) ∙ m.unanswered) in
      let c = is_closed_by findings journals finals worker serial line in
      let at_last : refusal_at (state_of findings finals worker serial e.answer) c ≡ None =
      ap (λ (s : State). refusal_at s c) (stands findings finals worker serial e.answer none.0 none.1) ∙ ap (refusal_at (plain (is_among finals worker serial) e.answer)) m.closing ∙ asked e.answer (is_among finals worker serial) is in
      ap (refusal_of_option findings journals finals worker serial line verdict) at
      ∙ skipped (not (e.line == line)) OtherLine _ (ap not (eq-eqb e.line line of_line))
      ∙ skipped (is_said findings worker serial (contrary verdict)) AnsweredOtherwise _ (said findings worker serial (contrary verdict) none.0 none.1)
      ∙ skipped (is_said findings worker serial verdict) AnsweredSo _ (said findings worker serial verdict none.0 none.1)
      ∙ at_last
    where
      skipped : {A : Type 0} (b : Bool) (x : A) (o : Option A) → b ≡ false → cond b (Some x) o ≡ o
      skipped b x o isnt = ap (λ t. cond t (Some x) o) isnt

  pub taken : {T : Type 0} (r : Result T Refusal) → result_err r ≡ refusal_of findings journals finals worker serial line verdict → IsOk r ↔ MayBeTaken findings journals finals worker serial line
  taken {T} r is = (λ ok. may (sym is ∙ no_error r ok), λ m. no_refusal r (is ∙ might m))
    where
      no_error : (q : Result T Refusal) → is_ok q ≡ true → result_err q ≡ None
      no_error (Ok x) h = refl
      no_error (Err e) h = absurd (cc)

      no_refusal : (q : Result T Refusal) → result_err q ≡ None → is_ok q ≡ true
      no_refusal (Ok x) h = refl
      no_refusal (Err e) h = absurd (cc)
