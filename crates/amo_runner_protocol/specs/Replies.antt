-- The replies of a partner, a line each: the result of an intent, or that its job still runs, and
-- the wish whether the worker goes on.
use Rattle.std.specs.Prelude.{ℕ, ◌<◌, ◌^◌, List, ◌++◌, codes, Option, Some, None, option_and_then, unwrap_or, if◌then◌else◌}
use Rattle.std.specs.Fmt.{decimal}
use Rattle.std.specs.Str.{bytes_eq}
use Rattle.amo_decimal.specs.Numbers.{number_in}
use Rattle.amo_run_log.specs.Numbers.{both_in, by_word, has_blank, first_word, other_words}
use Rattle.amo_run_log.specs.Entries.{code_in}
use Rattle.amo_driver.specs.declared.answer.JobResult.{JobResult}
use Rattle.amo_driver.specs.declared.answer.JobResult.TheVariants.{Done, Doubt, Unbegun, Untouched}
use Rattle.amo_driver.specs.declared.answer.Reply.{Reply}
use Rattle.amo_driver.specs.declared.answer.Reply.TheVariants.{Answered, Running, Garbled, Closed}
use Rattle.amo_driver.specs.declared.answer.Way.{Way}
use Rattle.amo_driver.specs.declared.answer.Way.TheVariants.{Go, Leave}

-- the word of a way
abbrev pub word_of : Way → List ℕ
word_of Go = codes "go"
word_of Leave = codes "leave"

-- the line of an answer to the intent of this serial number, without its end
abbrev pub text_of_answer : ℕ → JobResult → Way → List ℕ
text_of_answer serial (Done code) way = codes "done " ++ (decimal serial ++ (codes " " ++ (decimal code ++ (codes " " ++ word_of way))))
text_of_answer serial Doubt way = codes "doubt " ++ (decimal serial ++ (codes " " ++ word_of way))
text_of_answer serial Unbegun way = codes "unbegun " ++ (decimal serial ++ (codes " " ++ word_of way))
text_of_answer serial (Untouched code) way = codes "untouched " ++ (decimal serial ++ (codes " " ++ (decimal code ++ (codes " " ++ word_of way))))

-- the line of a reply, without its end; what is garbled has none, and nobody says none
abbrev pub text_of : Reply → Option (List ℕ)
text_of (Answered serial answer way) = Some (text_of_answer serial answer way)
text_of (Running serial way) = Some (codes "running " ++ (decimal serial ++ (codes " " ++ word_of way)))
text_of Garbled = None
text_of Closed = None

-- its code is at most 255
abbrev pub FitsAnswer : JobResult → Type 0
FitsAnswer (Done code) = code < 2 ^ 8
FitsAnswer Doubt = Unit {0}
FitsAnswer Unbegun = Unit {0}
FitsAnswer (Untouched code) = code < 2 ^ 8

-- its serial number has 64 bits, and its code is at most 255
abbrev pub Fits : Reply → Type 0
Fits (Answered serial answer way) = (serial < 2 ^ 64) × FitsAnswer answer
Fits (Running serial way) = serial < 2 ^ 64
Fits Garbled = Unit {0}
Fits Closed = Unit {0}

-- the way of a word
abbrev pub way_in : List ℕ → Option Way
way_in word = if bytes_eq word (codes "go") then Some Go else (if bytes_eq word (codes "leave") then Some Leave else None)

-- a number and a way
abbrev pub number_and_way_in : List ℕ → Option (ℕ × Way)
number_and_way_in text = both_in number_in way_in text

-- a number, a code and a way, one blank between each two
abbrev pub code_and_way_in : List ℕ → Option (ℕ × ℕ × Way)
code_and_way_in text =
    if has_blank text
    then option_and_then (λ n. option_and_then (λ cw. option_and_then (λ code. Some (n, code, cw.1)) (code_in cw.0)) (number_and_way_in (other_words text))) (number_in (first_word text))
    else None

-- the reply of this word and the bytes after it
abbrev pub reply_of_word : List ℕ → List ℕ → Option Reply
reply_of_word word rest =
    if bytes_eq word (codes "done") then option_and_then (λ n. Some (Answered n.0 (Done n.1) n.2)) (code_and_way_in rest)
    else (if bytes_eq word (codes "doubt") then option_and_then (λ n. Some (Answered n.0 Doubt n.1)) (number_and_way_in rest)
    else (if bytes_eq word (codes "unbegun") then option_and_then (λ n. Some (Answered n.0 Unbegun n.1)) (number_and_way_in rest)
    else (if bytes_eq word (codes "untouched") then option_and_then (λ n. Some (Answered n.0 (Untouched n.1) n.2)) (code_and_way_in rest)
    else (if bytes_eq word (codes "running") then option_and_then (λ n. Some (Running n.0 n.1)) (number_and_way_in rest)
    else None))))

-- what a text says, if it is an answer
abbrev pub said_in : List ℕ → Option Reply
said_in text = by_word reply_of_word text

-- what comes in answer by this line
abbrev pub reply_in : List ℕ → Reply
reply_in text = unwrap_or (said_in text) Garbled
