-- A message to a partner is one line, and different messages are different lines.
use Rattle.std.proofs.Common.{◌≡◌, ◌≢◌, ℕ, ◌^◌, ◌<◌, List, [], ◌∷◌, ◌++◌, get_or, Some, sym, ap, ◌∙◌, arith, append_assoc}
use Rattle.std.specs.Fmt.{decimal}
use Rattle.std.proofs.lemmas.List.{append_cancel_left, append_cancel_right}
use Rattle.amo_journal.specs.Texts.{IsOneLine}
use Rattle.amo_decimal.specs.Numbers.{number_in}
use Rattle.amo_run_log.specs.Numbers.{first_word, other_words}
use Rattle.amo_decimal.proofs.NumberTexts.{reads_printed}
use Rattle.amo_run_log.proofs.Words.{Lacks, lacks_append, decimal_lacks, AreWords, words}
use Rattle.amo_runner_protocol.specs.Sayings.{job_line, over_text, perform_text, was_text, IsOneEndedLine}

some_is : {A : Type 0} {x y : A} → Some x ≡ Some y → x ≡ y
some_is e = cc

abbrev behind_first : List ℕ → List ℕ
behind_first [] = []
behind_first (b ∷ bs) = bs

-- texts that begin with a number and a blank are the same only where both parts are
front_is : (a b : ℕ) (r q : List ℕ) → a < 2 ^ 64 → b < 2 ^ 64 → decimal a ++ 32 ∷ r ≡ decimal b ++ 32 ∷ q → (a ≡ b) × (r ≡ q)
front_is a b r q fa fb e =
    let one : AreWords (decimal a ++ 32 ∷ r) (decimal a) r = words (decimal a) r (decimal_lacks 32 a (omega arith) fa) in
    let other : AreWords (decimal b ++ 32 ∷ q) (decimal b) q = words (decimal b) q (decimal_lacks 32 b (omega arith) fb) in
    let same : decimal a ≡ decimal b = sym one.first ∙ ap first_word e ∙ other.first in
    (some_is (sym (reads_printed a fa) ∙ ap number_in same ∙ reads_printed b fb), sym one.rest ∙ ap other_words e ∙ other.rest)

pub told_apart : (word : List ℕ) (s l k m : ℕ) (t u : List ℕ) → s < 2 ^ 64 → l < 2 ^ 64 → k < 2 ^ 64 → m < 2 ^ 64 → job_line word s l t ≡ job_line word k m u → (s ≡ k) × (l ≡ m) × (t ≡ u)
told_apart word s l k m t u fs fl fk fm e =
    let behind : 32 ∷ (decimal s ++ 32 ∷ (decimal l ++ 32 ∷ (t ++ 10 ∷ []))) ≡ 32 ∷ (decimal k ++ 32 ∷ (decimal m ++ 32 ∷ (u ++ 10 ∷ []))) =
    append_cancel_left word (32 ∷ (decimal s ++ 32 ∷ (decimal l ++ 32 ∷ (t ++ 10 ∷ [])))) (32 ∷ (decimal k ++ 32 ∷ (decimal m ++ 32 ∷ (u ++ 10 ∷ [])))) e in
    let (serials, more) = front_is s k (decimal l ++ 32 ∷ (t ++ 10 ∷ [])) (decimal m ++ 32 ∷ (u ++ 10 ∷ [])) fs fk (ap behind_first behind) in
    let (lines, texts) = front_is l m (t ++ 10 ∷ []) (u ++ 10 ∷ []) fl fm more in
    (serials, lines, append_cancel_right t u (10 ∷ []) texts)

differ : (a b : ℕ) → a < b → a ≡ b → ⊥
differ a b lt same = omega arith

pub words_differ : (s l k m : ℕ) (t u : List ℕ) → perform_text s l t ≢ was_text k m u
words_differ s l k m t u e = differ 112 119 (omega arith) (ap (λ (bytes : List ℕ). get_or bytes 0 0) e)

-- `over` begins with another byte
pub over_differs : (s l : ℕ) (t : List ℕ) → (perform_text s l t ≢ over_text) × (was_text s l t ≢ over_text)
over_differs s l t = (
  λ e. differ 111 112 (omega arith) (sym (ap (λ (bytes : List ℕ). get_or bytes 0 0) e)),
  λ e. differ 111 119 (omega arith) (sym (ap (λ (bytes : List ℕ). get_or bytes 0 0) e)),
)

pub is_one_line : (word : List ℕ) (s l : ℕ) (t : List ℕ) → Lacks 10 word → s < 2 ^ 64 → l < 2 ^ 64 → IsOneLine t → IsOneEndedLine (job_line word s l t)
is_one_line word s l t w fs fl one = (
  word ++ 32 ∷ (decimal s ++ 32 ∷ (decimal l ++ 32 ∷ t)),
  simp append_assoc,
  lacks_append 10 word (32 ∷ (decimal s ++ 32 ∷ (decimal l ++ 32 ∷ t))) w (
    (λ e. omega arith),
    lacks_append 10 (decimal s) (32 ∷ (decimal l ++ 32 ∷ t)) (decimal_lacks 10 s (omega arith) fs) (
      (λ e. omega arith),
      lacks_append 10 (decimal l) (32 ∷ t) (decimal_lacks 10 l (omega arith) fl) ((λ e. omega arith), one),
    ),
  ),
)
