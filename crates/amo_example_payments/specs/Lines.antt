-- The lines of the input, and those that are written.
use Rattle.std.specs.Prelude.{ℕ, List, [], ◌∷◌, ◌++◌, codes, Option, Some, None, option_and_then, if◌then◌else◌}
use Rattle.std.specs.Fmt.{decimal}
use Rattle.std.specs.Str.{bytes_eq}
use Rattle.amo_decimal.specs.Numbers.{number_in}
use Rattle.amo_run_log.specs.Numbers.{has_blank, first_word, other_words}
use Rattle.amo_example_payments.specs.declared.line.Line.{Line}
use Rattle.amo_example_payments.specs.declared.line.Line.TheVariants.{Workers, Steps, Limit, Pay}

-- the line of a word and a number
abbrev pub line : List ℕ → ℕ → List ℕ
line word id = (word ++ 32 ∷ decimal id) ++ 10 ∷ []

-- the line of this kind with the number that the text says
abbrev pub with_number : (ℕ → Line) → List ℕ → Option Line
with_number kind text = option_and_then (λ n. Some (kind n)) (number_in text)

-- what two numbers with a blank between them say after `pay`: the account and the amount
abbrev pub payment_in : List ℕ → Option Line
payment_in text =
    if has_blank text
    then option_and_then (λ account. option_and_then (λ cents. Some (Pay account cents)) (number_in (other_words text))) (number_in (first_word text))
    else None

-- what a line of this word and this rest says
abbrev pub line_of_word : List ℕ → List ℕ → Option Line
line_of_word word rest =
    if bytes_eq word (codes "workers") then with_number Workers rest
    else (if bytes_eq word (codes "steps") then with_number Steps rest
    else (if bytes_eq word (codes "limit") then with_number Limit rest
    else (if bytes_eq word (codes "pay") then payment_in rest
    else None)))

-- what a line says, or None if it is invalid
abbrev pub line_in : List ℕ → Option Line
line_in text = if has_blank text then line_of_word (first_word text) (other_words text) else None
