-- The text of each reply is read as that reply, and a reply that is read was printed so.
use Rattle.std.proofs.Common.{◌≡◌, ◌≢◌, inl, inr, ⊎_elim, ℕ, ◌^◌, ◌<◌, Bool, true, cond, List, ◌∷◌, ◌++◌, Option, Some, None, refl, sym, ap, subst, ◌∙◌, arith}
use Rattle.std.specs.Prelude.{codes, option_and_then, unwrap_or, IfSome}
use Rattle.std.specs.Fmt.{decimal}
use Rattle.std.specs.Str.{bytes_eq, IsAscii, IsUtf8}
use Rattle.std.proofs.lemmas.Fmt.{IsAscii-decimal}
use Rattle.std.proofs.lemmas.Str.{IsUtf8-from_ascii, IsAscii-append}
use Rattle.std.proofs.lemmas.Str.Ascii.{IsAscii-cons}
use Rattle.std.proofs.lemmas.Slice.Eq.{bytes_eq-Decides}
use Rattle.amo_driver.specs.declared.answer.JobResult.{JobResult}
use Rattle.amo_driver.specs.declared.answer.JobResult.TheVariants.{Done, Doubt, Unbegun, Untouched}
use Rattle.amo_driver.specs.declared.answer.Reply.{Reply}
use Rattle.amo_driver.specs.declared.answer.Reply.TheVariants.{Answered, Running, Garbled, Closed}
use Rattle.amo_driver.specs.declared.answer.Way.{Way}
use Rattle.amo_driver.specs.declared.answer.Way.TheVariants.{Go, Leave}
use Rattle.amo_decimal.specs.Numbers.{number_in}
use Rattle.amo_run_log.specs.Numbers.{has_blank, first_word, other_words}
use Rattle.amo_run_log.specs.Entries.{code_in}
use Rattle.amo_run_log.proofs.EntryTexts.{code_reads, code_printed}
use Rattle.amo_decimal.proofs.NumberTexts.{reads_printed, printed_of_read}
use Rattle.amo_run_log.proofs.Readings.{none_some, some_is}
use Rattle.amo_run_log.proofs.Words.{word_reads, either_word, decimal_lacks, AreWords, words, split, and_then_some, blank_and, either_way, ascii_by_test}
use Rattle.amo_runner_protocol.specs.Replies.{word_of, text_of_answer, text_of, FitsAnswer, Fits, way_in, number_and_way_in, code_and_way_in, reply_of_word, said_in, reply_in}

-- the printed word is read

way_reads : (way : Way) → way_in (word_of way) ≡ Some way
way_reads Go = refl
way_reads Leave = refl

-- the parts of what is read, each by what it is read of
abbrev number_parts : Bool → List ℕ → List ℕ → Option (ℕ × Way)
number_parts blank w r = cond blank (option_and_then (λ n. option_and_then (λ way. Some (n, way)) (way_in r)) (number_in w)) None

abbrev with_code : ℕ → Option (ℕ × Way) → Option (ℕ × ℕ × Way)
with_code n o = option_and_then (λ cw. option_and_then (λ code. Some (n, code, cw.1)) (code_in cw.0)) o

abbrev code_parts : Bool → List ℕ → List ℕ → Option (ℕ × ℕ × Way)
code_parts blank w r = cond blank (option_and_then (λ n. with_code n (number_and_way_in r)) (number_in w)) None

number_reads : (n : ℕ) (way : Way) → n < 2 ^ 64 → number_and_way_in (decimal n ++ 32 ∷ word_of way) ≡ Some (n, way)
number_reads n way fits =
    let text = decimal n ++ 32 ∷ word_of way in
    let w : AreWords text (decimal n) (word_of way) = words (decimal n) (word_of way) (decimal_lacks 32 n (omega arith) fits) in
    ap (λ t. number_parts t (first_word text) (other_words text)) w.blank ∙ ap (λ f. number_parts true f (other_words text)) w.first ∙ ap (λ r. number_parts true (decimal n) r) w.rest
    ∙ ap (λ o. option_and_then (λ (x : ℕ). option_and_then (λ (y : Way). Some (x, y)) (way_in (word_of way))) o) (reads_printed n fits)
    ∙ ap (λ o. option_and_then (λ (y : Way). Some (n, y)) o) (way_reads way)

code_and_way_reads : (n c : ℕ) (way : Way) → n < 2 ^ 64 → c < 2 ^ 8 → code_and_way_in (decimal n ++ 32 ∷ (decimal c ++ 32 ∷ word_of way)) ≡ Some (n, c, way)
code_and_way_reads n c way fits small =
    let rest = decimal c ++ 32 ∷ word_of way in
    let text = decimal n ++ 32 ∷ rest in
    let w : AreWords text (decimal n) rest = words (decimal n) rest (decimal_lacks 32 n (omega arith) fits) in
    ap (λ t. code_parts t (first_word text) (other_words text)) w.blank ∙ ap (λ f. code_parts true f (other_words text)) w.first ∙ ap (λ r. code_parts true (decimal n) r) w.rest
    ∙ ap (λ o. option_and_then (λ (x : ℕ). with_code x (number_and_way_in rest)) o) (reads_printed n fits)
    ∙ ap (λ o. with_code n o) (number_reads c way (omega (arith, small)))
    ∙ ap (λ o. option_and_then (λ (code : ℕ). Some (n, code, way)) o) (code_reads c small)

answer_reads : (s : ℕ) (a : JobResult) (way : Way) → s < 2 ^ 64 → FitsAnswer a → said_in (text_of_answer s a way) ≡ Some (Answered s a way)
answer_reads s (Done c) way fits small =
    word_reads reply_of_word (codes "done") (decimal s ++ 32 ∷ (decimal c ++ 32 ∷ word_of way)) refl
    ∙ ap (λ o. option_and_then (λ (n : ℕ × ℕ × Way). Some (Answered n.0 (Done n.1) n.2)) o) (code_and_way_reads s c way fits small)
answer_reads s Doubt way fits any =
    word_reads reply_of_word (codes "doubt") (decimal s ++ 32 ∷ word_of way) refl ∙ ap (λ o. option_and_then (λ (n : ℕ × Way). Some (Answered n.0 Doubt n.1)) o) (number_reads s way fits)
answer_reads s Unbegun way fits any =
    word_reads reply_of_word (codes "unbegun") (decimal s ++ 32 ∷ word_of way) refl ∙ ap (λ o. option_and_then (λ (n : ℕ × Way). Some (Answered n.0 Unbegun n.1)) o) (number_reads s way fits)
answer_reads s (Untouched c) way fits small =
    word_reads reply_of_word (codes "untouched") (decimal s ++ 32 ∷ (decimal c ++ 32 ∷ word_of way)) refl
    ∙ ap (λ o. option_and_then (λ (n : ℕ × ℕ × Way). Some (Answered n.0 (Untouched n.1) n.2)) o) (code_and_way_reads s c way fits small)

running_reads : (s : ℕ) (way : Way) → s < 2 ^ 64 → said_in (codes "running " ++ (decimal s ++ 32 ∷ word_of way)) ≡ Some (Running s way)
running_reads s way fits =
    word_reads reply_of_word (codes "running") (decimal s ++ 32 ∷ word_of way) refl ∙ ap (λ o. option_and_then (λ (n : ℕ × Way). Some (Running n.0 n.1)) o) (number_reads s way fits)

reply_reads : (reply : Reply) (text : List ℕ) → Fits reply → text_of reply ≡ Some text → said_in text ≡ Some reply
reply_reads (Answered s a way) text fits said = ap said_in (sym (some_is said)) ∙ answer_reads s a way fits.0 fits.1
reply_reads (Running s way) text fits said = ap said_in (sym (some_is said)) ∙ running_reads s way fits
reply_reads Garbled text fits said = absurd (none_some said)
reply_reads Closed text fits said = absurd (none_some said)

-- the word that is read was printed so

abbrev IsSaid : List ℕ → Reply → Type 0
IsSaid text reply = (text_of reply ≡ Some text) × Fits reply

way_printed : (w : List ℕ) (way : Way) → way_in w ≡ Some way → w ≡ word_of way
way_printed w way h = ⊎_elim (λ p. p.0 ∙ ap word_of p.1) (λ p. p.0 ∙ ap word_of p.1) (either_word w (codes "go") (codes "leave") Go Leave way h)

-- the clauses of `over_reply_in`

pub way_heard : (text : List ℕ) (r : Option Way) → r ≡ way_in text → IfSome r (λ way. word_of way ≡ text)
way_heard text None is = tt
way_heard text (Some way) is = sym (way_printed text way (sym is))

pub way_was_said : (text : List ℕ) (r : Option Way) → r ≡ way_in text → (way : Way) → word_of way ≡ text → r ≡ Some way
way_was_said text r is way said = is ∙ ap way_in (sym said) ∙ way_reads way

number_printed : (text : List ℕ) (n : ℕ × Way) → number_and_way_in text ≡ Some n → (decimal n.0 ++ 32 ∷ word_of n.1 ≡ text) × (n.0 < 2 ^ 64)
number_printed text n h =
    let (blank, read) = blank_and (has_blank text) _ n h in
    let (a, first, more) = and_then_some _ (number_in (first_word text)) n read in
    let (way, rest, both) = and_then_some _ (way_in (other_words text)) n more in
    let (a_is, fits) = printed_of_read (first_word text) a first in
    let way_is : other_words text ≡ word_of way = way_printed (other_words text) way rest in
    let printed : decimal a ++ 32 ∷ word_of way ≡ text = ap (λ w. w ++ 32 ∷ word_of way) a_is ∙ ap (λ r. first_word text ++ 32 ∷ r) (sym way_is) ∙ sym (split text blank) in
    let pair : (a, way) ≡ n = cc in
    subst (λ (p : ℕ × Way). (decimal p.0 ++ 32 ∷ word_of p.1 ≡ text) × (p.0 < 2 ^ 64)) pair (printed, fits)

code_and_way_printed : (text : List ℕ) (n : ℕ × ℕ × Way) → code_and_way_in text ≡ Some n → (decimal n.0 ++ 32 ∷ (decimal n.1 ++ 32 ∷ word_of n.2) ≡ text) × (n.0 < 2 ^ 64) × (n.1 < 2 ^ 8)
code_and_way_printed text n h =
    let (blank, read) = blank_and (has_blank text) _ n h in
    let (a, first, more) = and_then_some _ (number_in (first_word text)) n read in
    let (cw, rest, others) = and_then_some _ (number_and_way_in (other_words text)) n more in
    let (code, is_code, same) = and_then_some _ (code_in cw.0) n others in
    let (a_is, fits) = printed_of_read (first_word text) a first in
    let (cw_is, cw_fits) = number_printed (other_words text) cw rest in
    let (code_is, small) = code_printed cw.0 code is_code in
    let printed : decimal a ++ 32 ∷ (decimal code ++ 32 ∷ word_of cw.1) ≡ text =
    ap (λ w. w ++ 32 ∷ (decimal code ++ 32 ∷ word_of cw.1)) a_is ∙ ap (λ c. first_word text ++ 32 ∷ (decimal c ++ 32 ∷ word_of cw.1)) (sym code_is)
    ∙ ap (λ r. first_word text ++ 32 ∷ r) cw_is ∙ sym (split text blank) in
    let triple : (a, code, cw.1) ≡ n = cc in
    subst (λ (p : ℕ × ℕ × Way). (decimal p.0 ++ 32 ∷ (decimal p.1 ++ 32 ∷ word_of p.2) ≡ text) × (p.0 < 2 ^ 64) × (p.1 < 2 ^ 8)) triple (printed, fits, small)

-- the word is the one that was tested
word_is : (w r word : List ℕ) (e : Reply) → bytes_eq w word ≡ true → IsSaid (word ++ 32 ∷ r) e → IsSaid (w ++ 32 ∷ r) e
word_is w r word e is said =
    let same : w ≡ word = (bytes_eq-Decides w word).0 is in
    subst (λ (v : List ℕ). IsSaid (v ++ 32 ∷ r) e) (sym same) said

-- the parts after the word, as they are read, are those that were printed
with_parts : {N : Type 0} (word r : List ℕ) (print : N → List ℕ) (reply : N → Reply) (n : N) (e : Reply) → print n ≡ r → Some (reply n) ≡ Some e → IsSaid (word ++ 32 ∷ print n) (reply n) → IsSaid (word ++ 32 ∷ r) e
with_parts word r print reply n e printed same said =
    subst (λ (x : Reply). IsSaid (word ++ 32 ∷ r) x) (some_is same) (subst (λ (x : List ℕ). IsSaid (word ++ 32 ∷ x) (reply n)) printed said)

-- a number, a code and a way, after the word that was tested
coded : (w word r : List ℕ) (answer : ℕ → JobResult) (e : Reply) → bytes_eq w word ≡ true → option_and_then (λ (n : ℕ × ℕ × Way). Some (Answered n.0 (answer n.1) n.2)) (code_and_way_in r) ≡ Some e
    → ((s c : ℕ) (way : Way) → s < 2 ^ 64 → c < 2 ^ 8 → IsSaid (word ++ 32 ∷ (decimal s ++ 32 ∷ (decimal c ++ 32 ∷ word_of way))) (Answered s (answer c) way))
    → IsSaid (w ++ 32 ∷ r) e
coded w word r answer e is h says =
    let (n, read, same) = and_then_some _ (code_and_way_in r) e h in
    let (printed, fits, small) = code_and_way_printed r n read in
    word_is w r word e is (with_parts word r (λ (m : ℕ × ℕ × Way). decimal m.0 ++ 32 ∷ (decimal m.1 ++ 32 ∷ word_of m.2)) (λ m. Answered m.0 (answer m.1) m.2) n e printed same (says n.0 n.1 n.2 fits small))

-- a number and a way after it
numbered : (w word r : List ℕ) (reply : ℕ → Way → Reply) (e : Reply) → bytes_eq w word ≡ true → option_and_then (λ (n : ℕ × Way). Some (reply n.0 n.1)) (number_and_way_in r) ≡ Some e
    → ((s : ℕ) (way : Way) → s < 2 ^ 64 → IsSaid (word ++ 32 ∷ (decimal s ++ 32 ∷ word_of way)) (reply s way))
    → IsSaid (w ++ 32 ∷ r) e
numbered w word r reply e is h says =
    let (n, read, same) = and_then_some _ (number_and_way_in r) e h in
    let (printed, fits) = number_printed r n read in
    word_is w r word e is (with_parts word r (λ (m : ℕ × Way). decimal m.0 ++ 32 ∷ word_of m.1) (λ m. reply m.0 m.1) n e printed same (says n.0 n.1 fits))

word_said : (w r : List ℕ) (e : Reply) → reply_of_word w r ≡ Some e → IsSaid (w ++ 32 ∷ r) e
word_said w r e h = elim (either_way (bytes_eq w (codes "done")) _ _ (Some e) h) [
  | inl t ↦ coded w (codes "done") r (λ c. Done c) e t.0 t.1 (λ s c way fits small. (refl, (fits, small)))
  | inr f ↦ elim (either_way (bytes_eq w (codes "doubt")) _ _ (Some e) f.1) [
    | inl t ↦ numbered w (codes "doubt") r (λ s way. Answered s Doubt way) e t.0 t.1 (λ s way fits. (refl, (fits, tt)))
    | inr g ↦ elim (either_way (bytes_eq w (codes "unbegun")) _ _ (Some e) g.1) [
      | inl t ↦ numbered w (codes "unbegun") r (λ s way. Answered s Unbegun way) e t.0 t.1 (λ s way fits. (refl, (fits, tt)))
      | inr k ↦ elim (either_way (bytes_eq w (codes "untouched")) _ _ (Some e) k.1) [
        | inl t ↦ coded w (codes "untouched") r (λ c. Untouched c) e t.0 t.1 (λ s c way fits small. (refl, (fits, small)))
        | inr l ↦ elim (either_way (bytes_eq w (codes "running")) _ _ (Some e) l.1) [
          | inl t ↦ numbered w (codes "running") r (λ s way. Running s way) e t.0 t.1 (λ s way fits. (refl, fits))
          | inr z ↦ absurd (none_some z.1)
        ]
      ]
    ]
  ]
]

is_said : (text : List ℕ) (reply : Reply) → said_in text ≡ Some reply → IsSaid text reply
is_said text reply h =
    let (blank, read) = blank_and (has_blank text) _ reply h in
    subst (λ (t : List ℕ). IsSaid t reply) (sym (split text blank)) (word_said (first_word text) (other_words text) reply read)

-- the clauses of `reply_in`

of_text : (text : List ℕ) (reply : Reply) → text_of reply ≡ Some text → IfSome (text_of reply) (λ said. said ≡ text)
of_text text reply is = subst (λ (o : Option (List ℕ)). IfSome o (λ said. said ≡ text)) (sym is) refl

pub heard : (text : List ℕ) (r : Reply) → r ≡ reply_in text → IfSome (text_of r) (λ said. said ≡ text)
heard text r is = subst (λ (x : Reply). IfSome (text_of x) (λ said. said ≡ text)) (sym is) (by_case (said_in text) refl)
  where
    by_case : (o : Option Reply) → said_in text ≡ o → IfSome (text_of (unwrap_or o Garbled)) (λ said. said ≡ text)
    by_case None e = tt
    by_case (Some reply) e = of_text text reply (is_said text reply e).0

pub was_said : (text : List ℕ) (r : Reply) → r ≡ reply_in text → (reply : Reply) → Fits reply → text_of reply ≡ Some text → r ≡ reply
was_said text r is reply fits said = is ∙ ap (λ o. unwrap_or o Garbled) (reply_reads reply text fits said)

pub somebody : (text : List ℕ) (r : Reply) → r ≡ reply_in text → r ≢ Closed
somebody text r is closed = not_closed (said_in text) refl (sym closed ∙ is)
  where
    not_closed : (o : Option Reply) → said_in text ≡ o → Closed ≡ unwrap_or o Garbled → ⊥
    not_closed None e h = cc
    not_closed (Some reply) e h = none_some (ap text_of h ∙ (is_said text reply e).0)

-- bytes that are not UTF-8 are an invalid reply

ascii_way : (way : Way) → IsAscii (word_of way)
ascii_way Go = ascii_by_test (codes "go") refl
ascii_way Leave = ascii_by_test (codes "leave") refl

ascii_number : (s : ℕ) (way : Way) → s < 2 ^ 64 → IsAscii (decimal s ++ 32 ∷ word_of way)
ascii_number s way fits = IsAscii-append (decimal s) (32 ∷ word_of way) (IsAscii-decimal s fits) (IsAscii-cons 32 (word_of way) (omega arith) (ascii_way way))

ascii_code : (s c : ℕ) (way : Way) → s < 2 ^ 64 → c < 2 ^ 8 → IsAscii (decimal s ++ 32 ∷ (decimal c ++ 32 ∷ word_of way))
ascii_code s c way fits small =
    IsAscii-append (decimal s) (32 ∷ (decimal c ++ 32 ∷ word_of way)) (IsAscii-decimal s fits)
    (IsAscii-cons 32 (decimal c ++ 32 ∷ word_of way) (omega arith) (ascii_number c way (omega (arith, small))))

ascii_answer : (s : ℕ) (a : JobResult) (way : Way) → s < 2 ^ 64 → FitsAnswer a → IsAscii (text_of_answer s a way)
ascii_answer s (Done c) way fits small = IsAscii-append (codes "done ") (decimal s ++ 32 ∷ (decimal c ++ 32 ∷ word_of way)) (ascii_by_test (codes "done ") refl) (ascii_code s c way fits small)
ascii_answer s Doubt way fits any = IsAscii-append (codes "doubt ") (decimal s ++ 32 ∷ word_of way) (ascii_by_test (codes "doubt ") refl) (ascii_number s way fits)
ascii_answer s Unbegun way fits any = IsAscii-append (codes "unbegun ") (decimal s ++ 32 ∷ word_of way) (ascii_by_test (codes "unbegun ") refl) (ascii_number s way fits)
ascii_answer s (Untouched c) way fits small = IsAscii-append (codes "untouched ") (decimal s ++ 32 ∷ (decimal c ++ 32 ∷ word_of way)) (ascii_by_test (codes "untouched ") refl) (ascii_code s c way fits small)

ascii : (text : List ℕ) (reply : Reply) → text_of reply ≡ Some text → Fits reply → IsAscii text
ascii text (Answered s a way) said fits = subst IsAscii (some_is said) (ascii_answer s a way fits.0 fits.1)
ascii text (Running s way) said fits = subst IsAscii (some_is said) (IsAscii-append (codes "running ") (decimal s ++ 32 ∷ word_of way) (ascii_by_test (codes "running ") refl) (ascii_number s way fits))
ascii text Garbled said fits = absurd (none_some said)
ascii text Closed said fits = absurd (none_some said)

pub no_text : (bytes : List ℕ) → ¬ (IsUtf8 bytes) → Garbled ≡ reply_in bytes
no_text bytes never = by_case (said_in bytes) refl
  where
    by_case : (o : Option Reply) → said_in bytes ≡ o → Garbled ≡ unwrap_or o Garbled
    by_case None is = refl
    by_case (Some reply) is =
        let p = is_said bytes reply is in
        absurd (never (IsUtf8-from_ascii bytes (ascii bytes reply p.0 p.1)))
