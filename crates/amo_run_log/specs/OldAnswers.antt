-- The answers of version 0.1.0 that have no time.
use Rattle.std.specs.Prelude.{ℕ, List, codes, Option, Some, None, option_and_then, if◌then◌else◌}
use Rattle.std.specs.Str.{bytes_eq}
use Rattle.amo_decimal.specs.Numbers.{number_in}
use Rattle.amo_run_log.specs.Entries.{text_of_answer, code_in}
use Rattle.amo_run_log.specs.Numbers.{by_word, two_in}
use Rattle.amo_run_log.specs.declared.entry.Outcome.{Outcome}
use Rattle.amo_run_log.specs.declared.entry.Outcome.TheVariants.{Doubt, Untouched}

-- the answer of this word and these numbers, at the time 0, and the serial number of its intent
abbrev pub old_answer_of_word : List ℕ → List ℕ → Option (ℕ × Outcome)
old_answer_of_word word rest =
    if bytes_eq word (codes "doubt") then option_and_then (λ n. Some (n, Doubt 0)) (number_in rest)
    else (if bytes_eq word (codes "untouched") then option_and_then (λ n. option_and_then (λ code. Some (n.0, Untouched code 0)) (code_in n.1)) (two_in rest)
    else None)

-- what a text says without a time
abbrev pub old_answer_in : List ℕ → Option (ℕ × Outcome)
old_answer_in text = by_word old_answer_of_word text

-- the text of that answer as it is written today, or else the text
abbrev pub said_today : List ℕ → Option (ℕ × Outcome) → List ℕ
said_today text None = text
said_today text (Some answer) = text_of_answer answer.0 answer.1

-- the text of version 0.1.0 as it is written today
abbrev pub with_time : List ℕ → List ℕ
with_time text = said_today text (old_answer_in text)
