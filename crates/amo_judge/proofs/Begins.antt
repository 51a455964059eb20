-- The first words of the verdicts.
use Rattle.std.proofs.Common.{◌≡◌, ◌⊎◌, inl, inr, ℕ, zero, suc, ◌+◌, ◌-◌, ◌<◌, ◌≤◌, Bool, true, false, ◌↔◌, List, [], ◌∷◌, ◌++◌, length, take, drop, get_or, Result, Ok, Err, refl, sym, ap, ◌∙◌, arith, append_assoc}
use Rattle.std.specs.Prelude.{◌==◌, nat_lt, if◌then◌else◌, codes}
use Rattle.std.specs.Fmt.{decimal}
use Rattle.std.proofs.lemmas.Bool.Decides.{nat_tests}
use Rattle.amo_kk.specs.Object.{first_object, is_step, object_after}
use Rattle.amo_kk.specs.Run.{object_after_all, IsRun, first_bad}
use Rattle.amo_kk.specs.declared.event.Event.{Event}
use Rattle.amo_params.specs.declared.givens.Givens.{Givens}
use Rattle.amo_kk.specs.declared.model.Object.{Object}
use Rattle.amo_kk.proofs.Claims.{first_bad_run, run_first_bad, first_bad_is}
use Rattle.amo_world.specs.Answer.{verdict}
use Rattle.amo_world.specs.declared.answer.Verdict.{Verdict}
use Rattle.amo_world.specs.declared.answer.Verdict.TheVariants.{Lawful, FirstBad}
use Rattle.amo_judge.specs.History.{HistoryView, history_in}
use Rattle.amo_judge.specs.declared.judging.TheConstants.{MOST_BYTES}
use Rattle.amo_judge.specs.Judgement.{refused_line, refused_text, too_long_text, unlawful_lines, bad_text, verdict_text, wrong_text, answer, judgement}
use Rattle.amo_judge.specs.Lines.{lines_of}
use Rattle.amo_judge.specs.Telling.{event_text, worked_text, lawful_text}
use Rattle.amo_judge.specs.Verdicts.{BeginsWith, Tells, IsLawfulText, IsUnlawfulText}
use Rattle.amo_judge.specs.Why.{why}
use Rattle.amo_judge.specs.declared.refusal.Refusal.{Refusal}

-- the first event that is no step is the one after a run

one_later : (b : Bool) (n k : ℕ) → b ≡ true → n ≡ suc k → (if b then (if n == 0 then 0 else suc n) else 1) ≡ suc (suc k)
one_later b n k e f = grind (arith, nat_tests)

behind_run : (g : Givens) (s : Object) (before : List Event) (bad : Event) (rest : List Event) → IsRun g s before → is_step g (object_after_all s before) bad ≡ false → first_bad g s (before ++ bad ∷ rest) ≡ suc (length before)
behind_run g s [] bad rest run fails = ap (λ (b : Bool). if b then (if first_bad g (object_after s bad) rest == 0 then 0 else suc (first_bad g (object_after s bad) rest)) else 1) fails
behind_run g s (e ∷ es) bad rest run fails = one_later (is_step g s e) (first_bad g (object_after s e) (es ++ bad ∷ rest)) (length es) run.0 (behind_run g (object_after s e) es bad rest run.1 fails)

-- the verdicts

abbrev verdict_at : ℕ → Verdict
verdict_at n = if n == 0 then Lawful else FirstBad n

not_first : (n k : ℕ) → n ≡ suc k → (n == 0) ≡ false
not_first n k e = grind (arith, nat_tests)

of_run : (g : Givens) (es : List Event) → IsRun g (first_object g) es → verdict g es ≡ Lawful
of_run g es run = ap verdict_at (run_first_bad g (first_object g) es run)

of_bad : (g : Givens) (es : List Event) (k : ℕ) → first_bad g (first_object g) es ≡ suc k → verdict g es ≡ FirstBad (suc k)
of_bad g es k is = let n = first_bad g (first_object g) es in ap (λ (b : Bool). if b then Lawful else FirstBad n) (not_first n k is) ∙ ap FirstBad is

-- the first byte shows which verdict it is

abbrev first_byte : List ℕ → ℕ
first_byte text = get_or text 0 0

lawful_byte : (es : List Event) → first_byte (lawful_text es) ≡ 108
unfolding worked_text
lawful_byte es = refl

unlawful_byte : (n : ℕ) (event reason : List ℕ) → first_byte (unlawful_lines n event reason) ≡ 117
unfolding unlawful_lines
unlawful_byte n event reason = refl

refused_byte : (n : ℕ) (words : List ℕ) → first_byte (refused_line n words) ≡ 114
unfolding refused_line
refused_byte n words = refl

lawful_begins : (es : List Event) → BeginsWith (codes "lawful\n") (lawful_text es)
unfolding worked_text
lawful_begins es = (drop 7 (lawful_text es), refl)

refused_begins : (n : ℕ) (words : List ℕ) → BeginsWith (codes "refused\n") (refused_line n words)
unfolding refused_line
refused_begins n words = (drop 8 (refused_line n words), refl)

unlawful_begins : (n : ℕ) (event reason : List ℕ) → BeginsWith (codes "unlawful " ++ decimal n ++ codes "\n") (unlawful_lines n event reason)
unfolding unlawful_lines
unlawful_begins n event reason =
    let rest : List ℕ = codes "line " ++ (decimal (n + 1) ++ (codes ": " ++ (event ++ (codes "\n" ++ (reason ++ codes "\n"))))) in
    (rest, sym (append_assoc (codes "unlawful " ++ decimal n) (codes "\n") rest ∙ append_assoc (codes "unlawful ") (decimal n) (codes "\n" ++ rest)))

-- the answers to a history

fits : (n m : ℕ) → n ≤ m → nat_lt m n ≡ false
fits n m le = grind (arith, nat_tests)

of_history : (text : List ℕ) (h : HistoryView) → Tells text h → judgement text ≡ verdict_text h (verdict h.givens h.events)
of_history text h t = ap (λ (b : Bool). if b then too_long_text else answer (history_in (lines_of text))) (fits (length text) MOST_BYTES t.short) ∙ ap answer t.told

of_lawful : (text : List ℕ) (t : IsLawfulText text) → judgement text ≡ lawful_text t.history.events
of_lawful text t = of_history text t.history t.told ∙ ap (verdict_text t.history) (of_run t.history.givens t.history.events t.run)

drop_front : (xs ys : List Event) → drop (length xs) (xs ++ ys) ≡ ys
drop_front [] ys = refl
drop_front (x ∷ xs) ys = drop_front xs ys

take_front : (xs ys : List Event) → take (length xs) (xs ++ ys) ≡ xs
take_front [] ys = refl
take_front (x ∷ xs) ys = ap (λ (zs : List Event). x ∷ zs) (take_front xs ys)

pub told_unlawful : (text : List ℕ) (number : ℕ) (t : IsUnlawfulText text number)
    → judgement text ≡ unlawful_lines number (event_text t.history number t.bad.bad) (why t.history t.bad.before t.bad.bad)
told_unlawful text number t =
    let h = t.history in
    let b = t.bad in
    let k = length b.before in
    let place : suc k ≡ number = omega (arith, b.place) in
    let one_less : suc k - 1 ≡ k = omega arith in
    let first : first_bad h.givens (first_object h.givens) h.events ≡ suc k = ap (first_bad h.givens (first_object h.givens)) b.parts ∙ behind_run h.givens (first_object h.givens) b.before b.bad b.rest b.run b.refused in
    let front : take k h.events ≡ b.before = ap (take k) b.parts ∙ take_front b.before (b.bad ∷ b.rest) in
    let behind : drop k h.events ≡ b.bad ∷ b.rest = ap (drop k) b.parts ∙ drop_front b.before (b.bad ∷ b.rest) in
    of_history text h t.told ∙ ap (verdict_text h) (of_bad h.givens h.events k first)
    ∙ ap (λ (n : ℕ). bad_text h (suc k) (take n h.events) (drop n h.events)) one_less
    ∙ ap (λ (before : List Event). bad_text h (suc k) before (drop k h.events)) front
    ∙ ap (bad_text h (suc k) b.before) behind
    ∙ ap (λ (n : ℕ). unlawful_lines n (event_text h n b.bad) (why h b.before b.bad)) place

record IsToldBad (text : List ℕ) (number : ℕ) : Type 0 where
  pub event : List ℕ
  pub reason : List ℕ
  pub is : judgement text ≡ unlawful_lines number event reason

of_unlawful : (text : List ℕ) (number : ℕ) → IsUnlawfulText text number → IsToldBad text number
of_unlawful text number t = record { event = event_text t.history number t.bad.bad; reason = why t.history t.bad.before t.bad.bad; is = told_unlawful text number t }

-- a history is a run, or has a first event that is no step
pub one_of_two : (text : List ℕ) (h : HistoryView) → Tells text h → IsLawfulText text ⊎ ((number : ℕ) × IsUnlawfulText text number)
one_of_two text h t = go (first_bad h.givens (first_object h.givens) h.events) refl
  where
    go : (n : ℕ) → first_bad h.givens (first_object h.givens) h.events ≡ n → IsLawfulText text ⊎ ((number : ℕ) × IsUnlawfulText text number)
    go zero is = inl (record { history = h; told = t; run = first_bad_run h.givens (first_object h.givens) h.events is })
    go (suc k) is = inr (suc k, record { history = h; told = t; bad = first_bad_is h.givens (first_object h.givens) h.events k is })

-- and what is answered begins so

begins_as : (front text other : List ℕ) → text ≡ other → BeginsWith front other → BeginsWith front text
begins_as front text other same b = (b.0, same ∙ b.1)

pub lawful_answer : (text : List ℕ) → IsLawfulText text → BeginsWith (codes "lawful\n") (judgement text)
lawful_answer text t = begins_as (codes "lawful\n") (judgement text) (lawful_text t.history.events) (of_lawful text t) (lawful_begins t.history.events)

pub unlawful_answer : (text : List ℕ) (number : ℕ) → IsUnlawfulText text number → BeginsWith (codes "unlawful " ++ decimal number ++ codes "\n") (judgement text)
unlawful_answer text number t =
    let u = of_unlawful text number t in
    begins_as (codes "unlawful " ++ decimal number ++ codes "\n") (judgement text) (unlawful_lines number u.event u.reason) u.is (unlawful_begins number u.event u.reason)

-- what is no history is refused

at_most : (n m : ℕ) → nat_lt m n ≡ false → n ≤ m
at_most n m e = grind (arith, nat_tests)

-- a text is a history, or is refused
told_or_refused : (text : List ℕ) → ((h : HistoryView) × Tells text h) ⊎ BeginsWith (codes "refused\n") (judgement text)
told_or_refused text = go (nat_lt MOST_BYTES (length text)) refl (history_in (lines_of text)) refl
  where
    longer : (b : Bool) → nat_lt MOST_BYTES (length text) ≡ b → b ≡ true → BeginsWith (codes "refused\n") (judgement text)
    longer b is e = begins_as (codes "refused\n") (judgement text) too_long_text (ap (λ (c : Bool). if c then too_long_text else answer (history_in (lines_of text))) (is ∙ e)) (drop 8 too_long_text, refl)

    go : (b : Bool) → nat_lt MOST_BYTES (length text) ≡ b → (r : Result HistoryView Refusal) → history_in (lines_of text) ≡ r → ((h : HistoryView) × Tells text h) ⊎ BeginsWith (codes "refused\n") (judgement text)
    go true is r told = inr (longer true is refl)
    go false is (Ok h) told = inl (h, record { short = at_most (length text) MOST_BYTES is; told = told })
    go false is (Err refusal) told =
        inr (begins_as (codes "refused\n") (judgement text) (refused_text refusal)
        (ap (λ (c : Bool). if c then too_long_text else answer (history_in (lines_of text))) is ∙ ap answer told)
        (refused_begins refusal.line (wrong_text refusal.wrong)))

bytes_differ : (text : List ℕ) (a b : ℕ) → first_byte text ≡ a → first_byte text ≡ b → a < b → ⊥
bytes_differ text a b one other lt = omega (arith, one, other)

no_refusal : (text : List ℕ) (h : HistoryView) → Tells text h → BeginsWith (codes "refused\n") (judgement text) → ⊥
no_refusal text h t b = elim (one_of_two text h t) [
  | inl l ↦ bytes_differ (judgement text) 108 114 (ap first_byte (of_lawful text l) ∙ lawful_byte l.history.events) (ap first_byte b.1) (omega arith)
  | inr u ↦ bytes_differ (judgement text) 114 117 (ap first_byte b.1) (ap first_byte (of_unlawful text u.0 u.1).is ∙ unlawful_byte u.0 (of_unlawful text u.0 u.1).event (of_unlawful text u.0 u.1).reason) (omega arith)
]

pub refused_answer : (text : List ℕ) → BeginsWith (codes "refused\n") (judgement text) ↔ ((h : HistoryView) → Tells text h → ⊥)
refused_answer text = (
  λ b h t. no_refusal text h t b,
  λ none. elim (told_or_refused text) [ inl t ↦ absurd (none t.0 t.1) | inr b ↦ b ],
)

-- and no other answer begins as that to a run
pub lawful_only : (text : List ℕ) → BeginsWith (codes "lawful\n") (judgement text) → IsLawfulText text
lawful_only text b = elim (told_or_refused text) [
  | inl t ↦ of_told t.0 t.1
  | inr r ↦ absurd (bytes_differ (judgement text) 108 114 (ap first_byte b.1) (ap first_byte r.1) (omega arith))
]
  where
    of_told : (h : HistoryView) → Tells text h → IsLawfulText text
    of_told h t = elim (one_of_two text h t) [
      | inl l ↦ l
      | inr u ↦ absurd (bytes_differ (judgement text) 108 117 (ap first_byte b.1) (ap first_byte (of_unlawful text u.0 u.1).is ∙ unlawful_byte u.0 (of_unlawful text u.0 u.1).event (of_unlawful text u.0 u.1).reason) (omega arith))
    ]
