-- An answer is taken now just if it may be taken at all and needn't wait any more.
use Rattle.std.proofs.Common.{◌≡◌, ◌↔◌, ◌≤◌, ℕ, ◌+◌, ◌-◌, Bool, true, false, cond, List, Option, Some, None, Result, Ok, Err, refl, sym, ap, ◌∙◌, arith}
use Rattle.std.specs.Prelude.{◌==◌, nat_lt, is_ok, IsOk}
use Rattle.std.specs.Result.{result_err}
use Rattle.std.proofs.lemmas.Bool.{eqb-false, le-ltb, ltb-false, ne_eqb}
use Rattle.amo_run_log.specs.declared.finding.Finding.{Finding}
use Rattle.amo_run_log.specs.declared.finding.Resolution.{Resolution}
use Rattle.amo_run_log.specs.declared.journal.Attempt.{Attempt}
use Rattle.amo_status.specs.declared.answering.Quiet.{Quiet}
use Rattle.amo_status.specs.declared.refusal.Refusal.{Refusal}
use Rattle.amo_status.specs.declared.refusal.Refusal.TheVariants.{EndUnknown, EndAhead, TooYoung}
use Rattle.amo_status.specs.declared.age.Age.TheVariants.{Unknown, Ahead, Seconds}
use Rattle.amo_status.specs.declared.state.AttemptId.{AttemptId}
use Rattle.amo_status.specs.Ages.{age_of}
use Rattle.amo_status.specs.States.{ended_at}
use Rattle.amo_status.specs.Standings.{attempt_of}
use Rattle.amo_status.specs.Answers.{first_reason, must_wait, refusal_now, refusal_of, unquiet_by, wait_of, IsQuiet, MayBeTaken, MayBeTakenNow}
use Rattle.amo_status.proofs.Taken.{may, might}

-- a reason that comes first stays

pub refused_now : (quiet : Option Quiet) (findings : List Finding) (journals : List (List Attempt)) (finals : List AttemptId) (worker serial line : ℕ) (verdict : Resolution) (why : Refusal)
    → refusal_of findings journals finals worker serial line verdict ≡ Some why → refusal_now quiet findings journals finals worker serial line verdict ≡ Some why
refused_now quiet findings journals finals worker serial line verdict why h =
    ap (λ r. first_reason r (wait_of quiet verdict (attempt_of journals worker serial))) h

neither : (a b : Option Refusal) → first_reason a b ≡ None → (a ≡ None) × (b ≡ None)
neither None b h = (refl, h)
neither (Some a) b h = absurd (cc)

-- what is quiet

abbrev by_tests : (q : Quiet) (ended : ℕ) (unknown ahead young : Bool) → Option Refusal
by_tests q ended unknown ahead young = cond unknown (Some EndUnknown) (cond ahead (Some (EndAhead ended q.now)) (cond young (Some (TooYoung ended q.now q.seconds)) None))

as_tests : (q : Quiet) (ended : ℕ) (unknown ahead : Bool) → unquiet_by q ended (cond unknown Unknown (cond ahead Ahead (Seconds (q.now - ended)))) ≡ by_tests q ended unknown ahead (nat_lt (q.now - ended) q.seconds)
as_tests q ended true ahead = refl
as_tests q ended false true = refl
as_tests q ended false false = refl

all_false : (q : Quiet) (ended : ℕ) (unknown ahead young : Bool) → by_tests q ended unknown ahead young ≡ None → (unknown ≡ false) × (ahead ≡ false) × (young ≡ false)
all_false q ended true ahead young h = absurd (cc)
all_false q ended false true young h = absurd (cc)
all_false q ended false false true h = absurd (cc)
all_false q ended false false false h = (refl, refl, refl)

is_quiet : (q : Quiet) (ended : ℕ) → unquiet_by q ended (age_of q.now ended) ≡ None → IsQuiet q ended
is_quiet q ended h =
    let (unknown, ahead, young) = all_false q ended (ended == 0) (nat_lt q.now ended) (nat_lt (q.now - ended) q.seconds) (sym (as_tests q ended (ended == 0) (nat_lt q.now ended)) ∙ h) in
    let past : ended ≤ q.now = ltb-false q.now ended ahead in
    let old : q.seconds ≤ q.now - ended = ltb-false (q.now - ended) q.seconds young in
    (some ended (eqb-false ended 0 unknown), omega (arith, past, old))
  where
    some : (n : ℕ) → (n ≡ 0 → ⊥) → 1 ≤ n
    some n isnt = omega (arith, isnt)

are_false : (q : Quiet) (ended : ℕ) (unknown ahead young : Bool) → unknown ≡ false → ahead ≡ false → young ≡ false → by_tests q ended unknown ahead young ≡ None
are_false q ended true ahead young a b c = absurd (cc)
are_false q ended false true young a b c = absurd (cc)
are_false q ended false false true a b c = absurd (cc)
are_false q ended false false false a b c = refl

quiet_is : (q : Quiet) (ended : ℕ) → IsQuiet q ended → unquiet_by q ended (age_of q.now ended) ≡ None
quiet_is q ended (some, long) =
    as_tests q ended (ended == 0) (nat_lt q.now ended)
    ∙ are_false q ended (ended == 0) (nat_lt q.now ended) (nat_lt (q.now - ended) q.seconds)
    (ne_eqb ended 0 (λ none. omega (arith, some, none))) (le-ltb q.now ended (omega (arith, long))) (le-ltb (q.now - ended) q.seconds (omega (arith, long)))

-- whether an answer to an attempt has waited

waits_by : (waits : Bool) (o : Option Refusal) → cond waits o None ≡ None → waits ≡ true → o ≡ None
waits_by true o h is = h
waits_by false o h is = absurd (cc)

has_waited : (quiet : Option Quiet) (verdict : Resolution) (attempt : Option Attempt) → wait_of quiet verdict attempt ≡ None
    → (q : Quiet) (e : Attempt) → quiet ≡ Some q → attempt ≡ Some e → must_wait verdict e.answer ≡ true → IsQuiet q (ended_at e.answer)
has_waited None verdict attempt h q e clock at is = absurd (cc)
has_waited (Some p) verdict None h q e clock at is = absurd (cc)
has_waited (Some p) verdict (Some d) h q e clock at is =
    let same : d ≡ e = cc in
    let it : p ≡ q = cc in
    is_quiet q (ended_at e.answer)
    (waits_by (must_wait verdict e.answer) (unquiet_by q (ended_at e.answer) (age_of q.now (ended_at e.answer)))
    (ap (λ (x : Attempt). cond (must_wait verdict x.answer) (unquiet_by q (ended_at x.answer) (age_of q.now (ended_at x.answer))) None) (sym same)
    ∙ ap (λ (r : Quiet). cond (must_wait verdict d.answer) (unquiet_by r (ended_at d.answer) (age_of r.now (ended_at d.answer))) None) (sym it) ∙ h) is)

waited_has : (quiet : Option Quiet) (verdict : Resolution) (attempt : Option Attempt)
    → ((q : Quiet) (e : Attempt) → quiet ≡ Some q → attempt ≡ Some e → must_wait verdict e.answer ≡ true → IsQuiet q (ended_at e.answer)) → wait_of quiet verdict attempt ≡ None
waited_has None verdict attempt h = refl
waited_has (Some q) verdict None h = refl
waited_has (Some q) verdict (Some e) h = by_test (must_wait verdict e.answer) refl
  where
    by_test : (b : Bool) → must_wait verdict e.answer ≡ b → cond b (unquiet_by q (ended_at e.answer) (age_of q.now (ended_at e.answer))) None ≡ None
    by_test true is = quiet_is q (ended_at e.answer) (h q e refl refl is)
    by_test false is = refl

module _ (quiet : Option Quiet) (findings : List Finding) (journals : List (List Attempt)) (finals : List AttemptId) (worker serial line : ℕ) (verdict : Resolution) where
  taken_if : refusal_now quiet findings journals finals worker serial line verdict ≡ None → MayBeTakenNow quiet findings journals finals worker serial line verdict
  taken_if h =
      let (none, soon) = neither (refusal_of findings journals finals worker serial line verdict) (wait_of quiet verdict (attempt_of journals worker serial)) h in
      record { may = may findings journals finals worker serial line verdict none; quiet = has_waited quiet verdict (attempt_of journals worker serial) soon }

  if_taken : MayBeTakenNow quiet findings journals finals worker serial line verdict → refusal_now quiet findings journals finals worker serial line verdict ≡ None
  if_taken m =
      ap (λ r. first_reason r (wait_of quiet verdict (attempt_of journals worker serial))) (might findings journals finals worker serial line verdict m.may)
      ∙ waited_has quiet verdict (attempt_of journals worker serial) m.quiet

  pub taken_now : {T : Type 0} (r : Result T Refusal) → result_err r ≡ refusal_now quiet findings journals finals worker serial line verdict → IsOk r ↔ MayBeTakenNow quiet findings journals finals worker serial line verdict
  taken_now {T} r is = (λ ok. taken_if (sym is ∙ no_error r ok), λ m. no_refusal r (is ∙ if_taken m))
    where
      no_error : (q : Result T Refusal) → is_ok q ≡ true → result_err q ≡ None
      no_error (Ok x) h = refl
      no_error (Err e) h = absurd (cc)

      no_refusal : (q : Result T Refusal) → result_err q ≡ None → is_ok q ≡ true
      no_refusal (Ok x) h = refl
      no_refusal (Err e) h = absurd (cc)
