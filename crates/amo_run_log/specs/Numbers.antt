-- Two and three numbers in a text, and texts that are all read.
use Rattle.std.specs.Prelude.{ℕ, Bool, nat_lt, List, [], ◌∷◌, ◌==◌, length, Option, Some, None, option_and_then, option_map, if◌then◌else◌}
use Rattle.std.specs.List.{position_or_len, before_first, after_first}
use Rattle.amo_decimal.specs.Numbers.{number_in}

-- whether this byte is in the text
abbrev pub has_byte : ℕ → List ℕ → Bool
has_byte byte text = nat_lt (position_or_len (λ b. b == byte) text) (length text)

-- whether there is a blank in the text
abbrev pub has_blank : List ℕ → Bool
has_blank text = has_byte 32 text

-- what stands before the first blank
abbrev pub first_word : List ℕ → List ℕ
first_word text = before_first (λ b. b == 32) text

-- what stands after it
abbrev pub other_words : List ℕ → List ℕ
other_words text = after_first (λ b. b == 32) text

-- the value of a word with its rest, one blank between them
abbrev pub by_word : {A : Type 0} → (List ℕ → List ℕ → Option A) → List ℕ → Option A
by_word read text = if has_blank text then read (first_word text) (other_words text) else None

-- two things, one blank between them
abbrev pub both_in : {A B : Type 0} → (List ℕ → Option A) → (List ℕ → Option B) → List ℕ → Option (A × B)
both_in first other text =
    if has_blank text
    then option_and_then (λ a. option_and_then (λ b. Some (a, b)) (other (other_words text))) (first (first_word text))
    else None

-- two numbers
abbrev pub two_in : List ℕ → Option (ℕ × ℕ)
two_in text = both_in number_in number_in text

-- three numbers, one blank between each two
abbrev pub three_in : List ℕ → Option (ℕ × ℕ × ℕ)
three_in text =
    if has_blank text
    then option_and_then (λ a. option_and_then (λ bc. Some (a, bc.0, bc.1)) (two_in (other_words text))) (number_in (first_word text))
    else None

-- the values of all the texts, if each has a value
abbrev pub read_all : {A : Type 0} → (List ℕ → Option A) → List (List ℕ) → Option (List A)
read_all read [] = Some []
read_all read (text ∷ texts) = option_and_then (λ x. option_map (λ xs. x ∷ xs) (read_all read texts)) (read text)
