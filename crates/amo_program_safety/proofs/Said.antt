-- The text by which a process hands an attempt over names this attempt and its line, and no other.
use Rattle.std.proofs.Common.{◌≡◌, ◌≢◌, ⊎_elim, ◌≤◌, ◌<◌, ◌+◌, ◌/◌, ◌%◌, ◌^◌, ℕ, zero, suc, Bool, true, false, cond, List, [], ◌∷◌, ◌++◌, length, sym, ap, ◌∙◌, arith, pow-suc, ne_eqb}
use Rattle.std.specs.Prelude.{◌==◌, nat_lt}
use Rattle.std.specs.Fmt.{decimal, digit_glyph, digits_onto, digits}
use Rattle.std.proofs.lemmas.Bool.{cases_lt}
use Rattle.std.proofs.lemmas.Fmt.{decimal_is_IsNumeral_wide, length-decimal-le_wide}
use Rattle.std.specs.Str.Parse.{digits_value}
use Rattle.std.proofs.lemmas.List.{append_cancel_left, append_cancel_right}
use Rattle.amo_run_log.specs.Numbers.{first_word, other_words}
use Rattle.amo_run_log.proofs.Words.{Lacks, AreWords, words}
use Rattle.amo_runner_protocol.specs.Sayings.{perform_text}

-- ---- numbers of any length

no_blank : (d : ℕ) → digit_glyph false d ≢ 32
no_blank d = by (nat_lt d 10)
  where
    by : (b : Bool) → cond b (48 + d) (87 + d) ≢ 32
    by true e = omega arith
    by false e = omega arith

lacks_onto : (k n : ℕ) (acc : List ℕ) → Lacks 32 acc → Lacks 32 (digits_onto k 10 false n acc)
lacks_onto zero n acc lacks = lacks
lacks_onto (suc k) n acc lacks =
    let more : Lacks 32 (digit_glyph false (n % 10) ∷ acc) = (no_blank (n % 10), lacks) in
    either (n / 10 == 0) (digit_glyph false (n % 10) ∷ acc) (digits_onto k 10 false (n / 10) (digit_glyph false (n % 10) ∷ acc)) more
    (lacks_onto k (n / 10) (digit_glyph false (n % 10) ∷ acc) more)
  where
    either : (b : Bool) (xs ys : List ℕ) → Lacks 32 xs → Lacks 32 ys → Lacks 32 (cond b xs ys)
    either true xs ys x y = x
    either false xs ys x y = y

ten_pos : (k : ℕ) → 0 < 10 ^ k
ten_pos zero = omega arith
ten_pos (suc k) = omega (arith, pow-suc 10 k, ten_pos k)

length_onto : (k n : ℕ) (acc : List ℕ) → 10 ^ k ≤ n → length (digits_onto k 10 false n acc) ≡ k + length acc
length_onto zero n acc long = omega arith
length_onto (suc k) n acc long =
    let behind : 10 ^ k ≤ n / 10 = omega (arith, pow-suc 10 k) in
    let some : n / 10 ≡ 0 → ⊥ = λ e. omega (arith, ten_pos k) in
    ap (λ b. length (cond b (digit_glyph false (n % 10) ∷ acc) (digits_onto k 10 false (n / 10) (digit_glyph false (n % 10) ∷ acc)))) (ne_eqb (n / 10) 0 some)
    ∙ (length_onto k (n / 10) (digit_glyph false (n % 10) ∷ acc) behind ∙ omega arith)

lacks_blank : (n : ℕ) → Lacks 32 (decimal n)
unfolding digits
lacks_blank n = lacks_onto 64 n [] tt

length_long : (n : ℕ) → 10 ^ 64 ≤ n → length (decimal n) ≡ 64
unfolding digits
length_long n long = length_onto 64 n [] long ∙ omega arith

-- Two numbers that are printed alike are equal, if one of them has at most 64 bits.
number_is : (k s : ℕ) → s < 2 ^ 64 → decimal k ≡ decimal s → k ≡ s
number_is k s fits e = ⊎_elim
    (λ (few : k < 10 ^ 64). sym (decimal_is_IsNumeral_wide k few).1 ∙ (ap (digits_value 10) e ∙ (decimal_is_IsNumeral_wide s short).1))
    (λ (many : 10 ^ 64 ≤ k). absurd (omega (arith, length_long k many, ap length e, length-decimal-le_wide 20 s (omega arith) (omega arith) short)))
    (cases_lt k (10 ^ 64))
  where
    short : s < 10 ^ 64
    short = omega arith

-- ---- texts

abbrev behind_first : List ℕ → List ℕ
behind_first [] = []
behind_first (b ∷ bs) = bs

front_is : (k s : ℕ) (r q : List ℕ) → s < 2 ^ 64 → decimal k ++ 32 ∷ r ≡ decimal s ++ 32 ∷ q → (k ≡ s) × (r ≡ q)
front_is k s r q fits e =
    let one : AreWords (decimal k ++ 32 ∷ r) (decimal k) r = words (decimal k) r (lacks_blank k) in
    let other : AreWords (decimal s ++ 32 ∷ q) (decimal s) q = words (decimal s) q (lacks_blank s) in
    (number_is k s fits (sym one.first ∙ ap first_word e ∙ other.first), sym one.rest ∙ ap other_words e ∙ other.rest)

-- Two equal texts that ask for a performance have the same serial number, and are equal after it.
pub same_serial : (k m s l : ℕ) (t u : List ℕ) → s < 2 ^ 64 → perform_text k m t ≡ perform_text s l u
    → (k ≡ s) × (decimal m ++ 32 ∷ (t ++ 10 ∷ []) ≡ decimal l ++ 32 ∷ (u ++ 10 ∷ []))
same_serial k m s l t u fits e =
    let behind : 32 ∷ (decimal k ++ 32 ∷ (decimal m ++ 32 ∷ (t ++ 10 ∷ []))) ≡ 32 ∷ (decimal s ++ 32 ∷ (decimal l ++ 32 ∷ (u ++ 10 ∷ []))) =
    append_cancel_left (112 ∷ 101 ∷ 114 ∷ 102 ∷ 111 ∷ 114 ∷ 109 ∷ []) (32 ∷ (decimal k ++ 32 ∷ (decimal m ++ 32 ∷ (t ++ 10 ∷ [])))) (32 ∷ (decimal s ++ 32 ∷ (decimal l ++ 32 ∷ (u ++ 10 ∷ [])))) e in
    front_is k s (decimal m ++ 32 ∷ (t ++ 10 ∷ [])) (decimal l ++ 32 ∷ (u ++ 10 ∷ [])) fits (ap behind_first behind)

-- Two equal texts that ask for a performance have the same line.
pub same_line : (k m s l : ℕ) (t u : List ℕ) → s < 2 ^ 64 → l < 2 ^ 64 → perform_text k m t ≡ perform_text s l u → m ≡ l
same_line k m s l t u fits small e = (front_is m l (t ++ 10 ∷ []) (u ++ 10 ∷ []) small (same_serial k m s l t u fits e).1).0

after_blank : (k s : ℕ) (r q : List ℕ) → decimal k ++ 32 ∷ r ≡ decimal s ++ 32 ∷ q → r ≡ q
after_blank k s r q e =
    let one : AreWords (decimal k ++ 32 ∷ r) (decimal k) r = words (decimal k) r (lacks_blank k) in
    let other : AreWords (decimal s ++ 32 ∷ q) (decimal s) q = words (decimal s) q (lacks_blank s) in
    sym one.rest ∙ ap other_words e ∙ other.rest

-- Two equal texts that ask for a performance have the same line and the same text of it.
pub same_job : (k m s l : ℕ) (t u : List ℕ) → l < 2 ^ 64 → perform_text k m t ≡ perform_text s l u → (m ≡ l) × (t ≡ u)
same_job k m s l t u small e =
    let behind : 32 ∷ (decimal k ++ 32 ∷ (decimal m ++ 32 ∷ (t ++ 10 ∷ []))) ≡ 32 ∷ (decimal s ++ 32 ∷ (decimal l ++ 32 ∷ (u ++ 10 ∷ []))) =
    append_cancel_left (112 ∷ 101 ∷ 114 ∷ 102 ∷ 111 ∷ 114 ∷ 109 ∷ []) (32 ∷ (decimal k ++ 32 ∷ (decimal m ++ 32 ∷ (t ++ 10 ∷ [])))) (32 ∷ (decimal s ++ 32 ∷ (decimal l ++ 32 ∷ (u ++ 10 ∷ [])))) e in
    let rest : decimal m ++ 32 ∷ (t ++ 10 ∷ []) ≡ decimal l ++ 32 ∷ (u ++ 10 ∷ []) =
    after_blank k s (decimal m ++ 32 ∷ (t ++ 10 ∷ [])) (decimal l ++ 32 ∷ (u ++ 10 ∷ [])) (ap behind_first behind) in
    let both : (m ≡ l) × (t ++ 10 ∷ [] ≡ u ++ 10 ∷ []) = front_is m l (t ++ 10 ∷ []) (u ++ 10 ∷ []) small rest in
    (both.0, append_cancel_right t u (10 ∷ []) both.1)
