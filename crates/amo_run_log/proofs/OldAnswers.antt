-- The texts of version 0.1.0 as they are read today.
use Rattle.std.proofs.Common.{◌≡◌, ℕ, ◌^◌, ◌<◌, true, List, [], ◌∷◌, ◌++◌, Option, Some, None, refl, ap, subst, ◌∙◌, arith}
use Rattle.std.specs.Prelude.{codes, option_and_then}
use Rattle.std.specs.Fmt.{decimal}
use Rattle.amo_decimal.specs.Numbers.{number_in}
use Rattle.amo_decimal.proofs.NumberTexts.{reads_printed, printed_of_read}
use Rattle.amo_run_log.specs.declared.entry.Outcome.{Outcome}
use Rattle.amo_run_log.specs.declared.entry.Outcome.TheVariants.{Done, Doubt, Unbegun, Untouched}
use Rattle.amo_run_log.specs.declared.entry.Entry.{Entry}
use Rattle.amo_run_log.specs.declared.entry.Entry.TheVariants.{Intent, Answer as Answered}
use Rattle.amo_run_log.specs.Entries.{text_of, text_of_answer, Fits, FitsAnswer, code_in, entry_in}
use Rattle.amo_run_log.specs.Numbers.{first_word, other_words, two_in}
use Rattle.amo_run_log.specs.OldAnswers.{old_answer_of_word, old_answer_in, said_today, with_time}
use Rattle.amo_run_log.proofs.EntryTexts.{code_reads, entry_reads}
use Rattle.amo_run_log.proofs.Words.{Lacks, AreWords, words, decimal_lacks, two_parts, two_reads, word_reads}

-- an answer without a time is read with the time 0

pub old_doubt : (s : ℕ) → s < 2 ^ 64 → entry_in (with_time (codes "doubt " ++ decimal s)) ≡ Some (Answered s (Doubt 0))
old_doubt s f =
    let text = codes "doubt " ++ decimal s in
    let said : old_answer_in text ≡ Some (s, Doubt 0) =
    word_reads old_answer_of_word (codes "doubt") (decimal s) refl ∙ ap (λ o. option_and_then (λ (n : ℕ). Some (n, Doubt 0)) o) (reads_printed s f) in
    ap (λ o. entry_in (said_today text o)) said ∙ entry_reads (Answered s (Doubt 0)) (f, omega arith)

pub old_untouched : (s c : ℕ) → s < 2 ^ 64 → c < 2 ^ 8 → entry_in (with_time (codes "untouched " ++ (decimal s ++ (codes " " ++ decimal c)))) ≡ Some (Answered s (Untouched c 0))
old_untouched s c f fc =
    let text = codes "untouched " ++ (decimal s ++ (codes " " ++ decimal c)) in
    let said : old_answer_in text ≡ Some (s, Untouched c 0) =
    word_reads old_answer_of_word (codes "untouched") (decimal s ++ 32 ∷ decimal c) refl
    ∙ ap (λ o. option_and_then (λ (n : ℕ × ℕ). option_and_then (λ (code : ℕ). Some (n.0, Untouched code 0)) (code_in n.1)) o) (two_reads s c f (omega (arith, fc)))
    ∙ ap (λ o. option_and_then (λ (code : ℕ). Some (s, Untouched code 0)) o) (code_reads c fc) in
    ap (λ o. entry_in (said_today text o)) said ∙ entry_reads (Answered s (Untouched c 0)) (f, fc, omega arith)

-- what is an entry today stays

-- no blank stands in one number
has_none : (xs ys : List ℕ) → Lacks 32 (xs ++ 32 ∷ ys) → ⊥
has_none [] ys lacks = lacks.0 refl
has_none (x ∷ xs) ys lacks = has_none xs ys lacks.1

no_number : (xs ys : List ℕ) → number_in (xs ++ 32 ∷ ys) ≡ None
no_number xs ys = by (number_in (xs ++ 32 ∷ ys)) refl
  where
    by : (o : Option ℕ) → number_in (xs ++ 32 ∷ ys) ≡ o → o ≡ None
    by None is = refl
    by (Some n) is =
        let p = printed_of_read (xs ++ 32 ∷ ys) n is in
        absurd (has_none xs ys (subst (Lacks 32) p.0 (decimal_lacks 32 n (omega arith) p.1)))

-- nor two in two
no_two : (s c t : ℕ) → s < 2 ^ 64 → two_in (decimal s ++ 32 ∷ (decimal c ++ 32 ∷ decimal t)) ≡ None
no_two s c t f =
    let rest = decimal c ++ 32 ∷ decimal t in
    let text = decimal s ++ 32 ∷ rest in
    let w : AreWords text (decimal s) rest = words (decimal s) rest (decimal_lacks 32 s (omega arith) f) in
    ap (λ t. two_parts t (first_word text) (other_words text)) w.blank ∙ ap (λ f. two_parts true f (other_words text)) w.first ∙ ap (λ r. two_parts true (decimal s) r) w.rest
    ∙ ap (λ o. option_and_then (λ x. option_and_then (λ y. Some (x, y)) (number_in rest)) o) (reads_printed s f)
    ∙ ap (λ o. option_and_then (λ y. Some (s, y)) o) (no_number (decimal c) (decimal t))

stays : (text : List ℕ) → old_answer_in text ≡ None → with_time text ≡ text
stays text none = ap (λ o. said_today text o) none

answer_stays : (s : ℕ) (a : Outcome) → FitsAnswer s a → old_answer_in (text_of_answer s a) ≡ None
answer_stays s (Done c t) f = word_reads old_answer_of_word (codes "done") (decimal s ++ 32 ∷ (decimal c ++ 32 ∷ decimal t)) refl
answer_stays s (Doubt t) f =
    word_reads old_answer_of_word (codes "doubt") (decimal s ++ 32 ∷ decimal t) refl ∙ ap (λ o. option_and_then (λ (n : ℕ). Some (n, Doubt 0)) o) (no_number (decimal s) (decimal t))
answer_stays s Unbegun f = word_reads old_answer_of_word (codes "unbegun") (decimal s) refl
answer_stays s (Untouched c t) f =
    word_reads old_answer_of_word (codes "untouched") (decimal s ++ 32 ∷ (decimal c ++ 32 ∷ decimal t)) refl
    ∙ ap (λ o. option_and_then (λ (n : ℕ × ℕ). option_and_then (λ (code : ℕ). Some (n.0, Untouched code 0)) (code_in n.1)) o) (no_two s c t f.0)

pub entry_stays : (e : Entry) → Fits e → with_time (text_of e) ≡ text_of e
entry_stays (Intent s l t) f = stays (text_of (Intent s l t)) (word_reads old_answer_of_word (codes "intent") (decimal s ++ 32 ∷ (decimal l ++ 32 ∷ decimal t)) refl)
entry_stays (Answered s a) f = stays (text_of_answer s a) (answer_stays s a f)
