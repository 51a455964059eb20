-- The text that is printed of an entry is read as that entry, and a text that is read was printed
-- so.
use Rattle.std.proofs.Common.{◌≡◌, inl, inr, ℕ, ◌^◌, ◌<◌, Bool, true, false, cond, List, ◌∷◌, ◌++◌, Option, Some, None, refl, sym, ap, subst, ◌∙◌, arith}
use Rattle.std.specs.Prelude.{nat_lt, codes, option_and_then}
use Rattle.std.specs.Fmt.{decimal}
use Rattle.std.specs.Str.{bytes_eq, IsAscii, IsUtf8}
use Rattle.std.proofs.lemmas.Bool.Decides.{nat_tests}
use Rattle.std.proofs.lemmas.Fmt.{IsAscii-decimal}
use Rattle.std.proofs.lemmas.Str.{IsAscii-append}
use Rattle.std.proofs.lemmas.Slice.Eq.{bytes_eq-Decides}
use Rattle.amo_run_log.specs.declared.entry.Outcome.{Outcome}
use Rattle.amo_run_log.specs.declared.entry.Outcome.TheVariants.{Done, Doubt, Unbegun, Untouched}
use Rattle.amo_run_log.specs.declared.entry.Entry.{Entry}
use Rattle.amo_run_log.specs.declared.entry.Entry.TheVariants.{Intent, Answer as Answered}
use Rattle.amo_decimal.specs.Numbers.{number_in}
use Rattle.amo_run_log.specs.Numbers.{two_in, three_in}
use Rattle.amo_run_log.specs.Entries.{text_of, text_of_answer, Fits, FitsAnswer, code_in, answer_of_word, entry_of_word, entry_in}
use Rattle.amo_decimal.proofs.NumberTexts.{reads_printed, printed_of_read}
use Rattle.amo_run_log.proofs.Readings.{no_text_by}
use Rattle.amo_run_log.proofs.Words.{word_reads, printed_by, two_reads, three_reads, and_then_some, two_printed, three_printed, either_way, ascii_by_test, two_ascii, three_ascii}

-- codes

pub code_reads : (n : ℕ) → n < 2 ^ 8 → code_in n ≡ Some n
code_reads n fits = ap (λ b. cond b None (Some n)) (not_more n fits)
  where
    not_more : (k : ℕ) → k < 2 ^ 8 → nat_lt 255 k ≡ false
    not_more k h = grind (arith, nat_tests)

pub code_printed : (n c : ℕ) → code_in n ≡ Some c → (n ≡ c) × (c < 2 ^ 8)
code_printed n c h = by_test (nat_lt 255 n) refl h
  where
    at_most : (k : ℕ) → nat_lt 255 k ≡ false → k < 2 ^ 8
    at_most k t = grind (arith, nat_tests)

    by_test : (b : Bool) → nat_lt 255 n ≡ b → cond b None (Some n) ≡ Some c → (n ≡ c) × (c < 2 ^ 8)
    by_test true t e = absurd (cc)
    by_test false t e = let is : n ≡ c = cc in (is, subst (λ k. k < 2 ^ 8) is (at_most n t))

-- what is printed is read

-- the parts of what is read, each by what it is read of
abbrev coded_of : (ℕ → ℕ → Outcome) → ℕ × ℕ × ℕ → Option (ℕ × Outcome)
coded_of a n = option_and_then (λ code. Some (n.0, a code n.2)) (code_in n.1)

abbrev entry_of : Option (ℕ × Outcome) → Option Entry
entry_of o = option_and_then (λ (n : ℕ × Outcome). Some (Answered n.0 n.1)) o

coded_reads : (a : ℕ → ℕ → Outcome) (s c t : ℕ) → s < 2 ^ 64 → c < 2 ^ 8 → t < 2 ^ 64
    → entry_of (option_and_then (coded_of a) (three_in (decimal s ++ 32 ∷ (decimal c ++ 32 ∷ decimal t)))) ≡ Some (Answered s (a c t))
coded_reads a s c t fs fc ft =
    ap (λ o. entry_of (option_and_then (coded_of a) o)) (three_reads s c t fs (omega (arith, fc)) ft) ∙ ap (λ o. entry_of (option_and_then (λ (code : ℕ). Some (s, a code t)) o)) (code_reads c fc)

answer_reads : (s : ℕ) (a : Outcome) → FitsAnswer s a → entry_in (text_of_answer s a) ≡ Some (Answered s a)
answer_reads s (Done c t) f = word_reads entry_of_word (codes "done") (decimal s ++ 32 ∷ (decimal c ++ 32 ∷ decimal t)) refl ∙ coded_reads Done s c t f.0 f.1 f.2
answer_reads s (Doubt t) f = word_reads entry_of_word (codes "doubt") (decimal s ++ 32 ∷ decimal t) refl ∙ ap (λ o. entry_of (option_and_then (λ (n : ℕ × ℕ). Some (n.0, Doubt n.1)) o)) (two_reads s t f.0 f.1)
answer_reads s Unbegun f = word_reads entry_of_word (codes "unbegun") (decimal s) refl ∙ ap (λ o. entry_of (option_and_then (λ (n : ℕ). Some (n, Unbegun)) o)) (reads_printed s f)
answer_reads s (Untouched c t) f = word_reads entry_of_word (codes "untouched") (decimal s ++ 32 ∷ (decimal c ++ 32 ∷ decimal t)) refl ∙ coded_reads Untouched s c t f.0 f.1 f.2

pub entry_reads : (e : Entry) → Fits e → entry_in (text_of e) ≡ Some e
entry_reads (Intent s l t) f = word_reads entry_of_word (codes "intent") (decimal s ++ 32 ∷ (decimal l ++ 32 ∷ decimal t)) refl ∙ ap (option_and_then (λ n. Some (Intent n.0 n.1 n.2))) (three_reads s l t f.0 f.1 f.2)
entry_reads (Answered s a) f = answer_reads s a f

-- what is read was printed so

abbrev IsPrinted : List ℕ → Entry → Type 0
IsPrinted text e = (text_of e ≡ text) × Fits e

abbrev IsPrintedAnswer : List ℕ → ℕ × Outcome → Type 0
IsPrintedAnswer text n = (text_of_answer n.0 n.1 ≡ text) × FitsAnswer n.0 n.1

-- the word is the one that was tested
word_is : (w r word : List ℕ) (e : ℕ × Outcome) → bytes_eq w word ≡ true → IsPrintedAnswer (word ++ 32 ∷ r) e → IsPrintedAnswer (w ++ 32 ∷ r) e
word_is w r word e is printed =
    let same : w ≡ word = (bytes_eq-Decides w word).0 is in
    (printed.0 ∙ ap (λ v. v ++ 32 ∷ r) (sym same), printed.1)

with_code : (word r : List ℕ) (a : ℕ → ℕ → Outcome) (n : ℕ × ℕ × ℕ) (e : ℕ × Outcome) → three_in r ≡ Some n → coded_of a n ≡ Some e
    → ((s c t : ℕ) → s < 2 ^ 64 → c < 2 ^ 8 → t < 2 ^ 64 → IsPrintedAnswer (word ++ 32 ∷ (decimal s ++ 32 ∷ (decimal c ++ 32 ∷ decimal t))) (s, a c t))
    → IsPrintedAnswer (word ++ 32 ∷ r) e
with_code word r a n e read more prints =
    let (code, is_code, same) = and_then_some _ (code_in n.1) e more in
    let (number_is, small) = code_printed n.1 code is_code in
    let p = three_printed r n read in
    let is : (n.0, a code n.2) ≡ e = cc in
    let text : decimal n.0 ++ 32 ∷ (decimal code ++ 32 ∷ decimal n.2) ≡ r = ap (λ c. decimal n.0 ++ 32 ∷ (decimal c ++ 32 ∷ decimal n.2)) (sym number_is) ∙ p.0 in
    subst (λ (x : ℕ × Outcome). IsPrintedAnswer (word ++ 32 ∷ r) x) is
    (subst (λ (x : List ℕ). IsPrintedAnswer (word ++ 32 ∷ x) (n.0, a code n.2)) text (prints n.0 code n.2 p.1 small p.3))

with_time : (r : List ℕ) (n : ℕ × ℕ) (e : ℕ × Outcome) → two_in r ≡ Some n → Some (n.0, Doubt n.1) ≡ Some e → IsPrintedAnswer (codes "doubt" ++ 32 ∷ r) e
with_time r n e read same =
    let p = two_printed r n read in
    let is : (n.0, Doubt n.1) ≡ e = cc in
    subst (λ (x : ℕ × Outcome). IsPrintedAnswer (codes "doubt" ++ 32 ∷ r) x) is (ap (λ x. codes "doubt" ++ 32 ∷ x) p.0, (p.1, p.2))

with_number : (r : List ℕ) (n : ℕ) (e : ℕ × Outcome) → number_in r ≡ Some n → Some (n, Unbegun) ≡ Some e → IsPrintedAnswer (codes "unbegun" ++ 32 ∷ r) e
with_number r n e read same =
    let p = printed_of_read r n read in
    let is : (n, Unbegun) ≡ e = cc in
    subst (λ (x : ℕ × Outcome). IsPrintedAnswer (codes "unbegun" ++ 32 ∷ r) x) is (ap (λ x. codes "unbegun" ++ 32 ∷ x) p.0, p.1)

answer_printed : (w r : List ℕ) (e : ℕ × Outcome) → answer_of_word w r ≡ Some e → IsPrintedAnswer (w ++ 32 ∷ r) e
answer_printed w r e h = elim (either_way (bytes_eq w (codes "done")) _ _ (Some e) h) [
  | inl t ↦ let (n, read, more) = and_then_some _ (three_in r) e t.1 in word_is w r (codes "done") e t.0 (with_code (codes "done") r Done n e read more (λ s c t fs fc ft. (refl, (fs, fc, ft))))
  | inr f ↦ elim (either_way (bytes_eq w (codes "doubt")) _ _ (Some e) f.1) [
    | inl t ↦ let (n, read, same) = and_then_some _ (two_in r) e t.1 in word_is w r (codes "doubt") e t.0 (with_time r n e read same)
    | inr g ↦ elim (either_way (bytes_eq w (codes "unbegun")) _ _ (Some e) g.1) [
      | inl t ↦ let (n, read, same) = and_then_some _ (number_in r) e t.1 in word_is w r (codes "unbegun") e t.0 (with_number r n e read same)
      | inr k ↦ elim (either_way (bytes_eq w (codes "untouched")) _ _ (Some e) k.1) [
        | inl t ↦ let (n, read, more) = and_then_some _ (three_in r) e t.1 in word_is w r (codes "untouched") e t.0 (with_code (codes "untouched") r Untouched n e read more (λ s c t fs fc ft. (refl, (fs, fc, ft))))
        | inr z ↦ absurd (none_some z.1)
      ]
    ]
  ]
]
  where
    none_some : None ≡ Some e → ⊥
    none_some x = cc

word_printed : (w r : List ℕ) (e : Entry) → entry_of_word w r ≡ Some e → IsPrinted (w ++ 32 ∷ r) e
word_printed w r e h = elim (either_way (bytes_eq w (codes "intent")) _ _ (Some e) h) [
  | inl t ↦
      let (n, read, same) = and_then_some _ (three_in r) e t.1 in
      let p = three_printed r n read in
      let w_is : w ≡ codes "intent" = (bytes_eq-Decides w (codes "intent")).0 t.0 in
      let is : Intent n.0 n.1 n.2 ≡ e = cc in
      subst (λ (x : Entry). IsPrinted (w ++ 32 ∷ r) x) is (ap (λ x. codes "intent" ++ 32 ∷ x) p.0 ∙ ap (λ v. v ++ 32 ∷ r) (sym w_is), (p.1, p.2, p.3))
  | inr f ↦
      let (n, read, same) = and_then_some _ (answer_of_word w r) e f.1 in
      let p = answer_printed w r n read in
      let is : Answered n.0 n.1 ≡ e = cc in
      subst (λ (x : Entry). IsPrinted (w ++ 32 ∷ r) x) is (p.0, p.1)
]

pub entry_printed : (text : List ℕ) (e : Entry) → entry_in text ≡ Some e → (text_of e ≡ text) × Fits e
entry_printed = printed_by text_of Fits entry_of_word word_printed

ascii_answer : (s : ℕ) (a : Outcome) → FitsAnswer s a → IsAscii (text_of_answer s a)
ascii_answer s (Done c t) f = IsAscii-append (codes "done ") (decimal s ++ 32 ∷ (decimal c ++ 32 ∷ decimal t)) (ascii_by_test (codes "done ") refl) (three_ascii s c t f.0 (omega (arith, f.1)) f.2)
ascii_answer s (Doubt t) f = IsAscii-append (codes "doubt ") (decimal s ++ 32 ∷ decimal t) (ascii_by_test (codes "doubt ") refl) (two_ascii s t f.0 f.1)
ascii_answer s Unbegun f = IsAscii-append (codes "unbegun ") (decimal s) (ascii_by_test (codes "unbegun ") refl) (IsAscii-decimal s f)
ascii_answer s (Untouched c t) f =
    IsAscii-append (codes "untouched ") (decimal s ++ 32 ∷ (decimal c ++ 32 ∷ decimal t)) (ascii_by_test (codes "untouched ") refl) (three_ascii s c t f.0 (omega (arith, f.1)) f.2)

ascii : (e : Entry) → Fits e → IsAscii (text_of e)
ascii (Intent s l t) f = IsAscii-append (codes "intent ") (decimal s ++ 32 ∷ (decimal l ++ 32 ∷ decimal t)) (ascii_by_test (codes "intent ") refl) (three_ascii s l t f.0 f.1 f.2)
ascii (Answered s a) f = ascii_answer s a f

-- bytes that are not UTF-8 say no entry
pub no_text : (bytes : List ℕ) → ¬ (IsUtf8 bytes) → None ≡ entry_in bytes
no_text = no_text_by text_of Fits entry_in entry_printed ascii
