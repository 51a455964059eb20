-- The entries of a journal, as texts.
use Rattle.std.specs.Prelude.{ℕ, ◌<◌, ◌^◌, ◌==◌, nat_lt, List, [], ◌∷◌, ◌++◌, codes, Option, Some, None, option_and_then, option_map, if◌then◌else◌}
use Rattle.std.specs.Fmt.{decimal}
use Rattle.std.specs.List.{after_first, before_first, flat_map}
use Rattle.std.specs.Str.{bytes_eq}
use Rattle.amo_decimal.specs.Numbers.{number_in}
use Rattle.amo_run_log.specs.Numbers.{by_word, has_byte, two_in, three_in, read_all}
use Rattle.amo_run_log.specs.declared.append.Append.{Append}
use Rattle.amo_run_log.specs.declared.append.Append.TheVariants.{One, Two}
use Rattle.amo_run_log.specs.declared.entry.Outcome.{Outcome}
use Rattle.amo_run_log.specs.declared.entry.Outcome.TheVariants.{Done, Doubt, Unbegun, Untouched}
use Rattle.amo_run_log.specs.declared.entry.Entry.{Entry}
use Rattle.amo_run_log.specs.declared.entry.Entry.TheVariants.{Intent, Answer as Answered}

-- the text of the answer to the intent of this serial number
abbrev pub text_of_answer : ℕ → Outcome → List ℕ
text_of_answer serial (Done code time) = codes "done " ++ (decimal serial ++ (codes " " ++ (decimal code ++ (codes " " ++ decimal time))))
text_of_answer serial (Doubt time) = codes "doubt " ++ (decimal serial ++ (codes " " ++ decimal time))
text_of_answer serial Unbegun = codes "unbegun " ++ decimal serial
text_of_answer serial (Untouched code time) = codes "untouched " ++ (decimal serial ++ (codes " " ++ (decimal code ++ (codes " " ++ decimal time))))

-- the text of an entry
abbrev pub text_of : Entry → List ℕ
text_of (Intent serial line time) = codes "intent " ++ (decimal serial ++ (codes " " ++ (decimal line ++ (codes " " ++ decimal time))))
text_of (Answered serial answer) = text_of_answer serial answer

-- its numbers have 64 bits, and its code is at most 255
abbrev pub FitsAnswer : ℕ → Outcome → Type 0
FitsAnswer serial (Done code time) = (serial < 2 ^ 64) × (code < 2 ^ 8) × (time < 2 ^ 64)
FitsAnswer serial (Doubt time) = (serial < 2 ^ 64) × (time < 2 ^ 64)
FitsAnswer serial Unbegun = serial < 2 ^ 64
FitsAnswer serial (Untouched code time) = (serial < 2 ^ 64) × (code < 2 ^ 8) × (time < 2 ^ 64)

-- the same of an entry
abbrev pub Fits : Entry → Type 0
Fits (Intent serial line time) = (serial < 2 ^ 64) × (line < 2 ^ 64) × (time < 2 ^ 64)
Fits (Answered serial answer) = FitsAnswer serial answer

-- a number as the code of a command
abbrev pub code_in : ℕ → Option ℕ
code_in number = if nat_lt 255 number then None else Some number

-- the answer of this word and these numbers, and the serial number of its intent
abbrev pub answer_of_word : List ℕ → List ℕ → Option (ℕ × Outcome)
answer_of_word word rest =
    if bytes_eq word (codes "done") then option_and_then (λ n. option_and_then (λ code. Some (n.0, Done code n.2)) (code_in n.1)) (three_in rest)
    else (if bytes_eq word (codes "doubt") then option_and_then (λ n. Some (n.0, Doubt n.1)) (two_in rest)
    else (if bytes_eq word (codes "unbegun") then option_and_then (λ n. Some (n, Unbegun)) (number_in rest)
    else (if bytes_eq word (codes "untouched") then option_and_then (λ n. option_and_then (λ code. Some (n.0, Untouched code n.2)) (code_in n.1)) (three_in rest)
    else None)))

-- the entry of this word and these numbers
abbrev pub entry_of_word : List ℕ → List ℕ → Option Entry
entry_of_word word rest =
    if bytes_eq word (codes "intent") then option_and_then (λ n. Some (Intent n.0 n.1 n.2)) (three_in rest)
    else option_and_then (λ n. Some (Answered n.0 n.1)) (answer_of_word word rest)

-- what a text says
abbrev pub entry_in : List ℕ → Option Entry
entry_in text = by_word entry_of_word text

-- the entries of an append, in order
abbrev pub entries_of_append : Append → List Entry
entries_of_append (One entry) = entry ∷ []
entries_of_append (Two first second) = first ∷ second ∷ []

-- the text of an append: one entry, or two with `; ` between them
abbrev pub text_of_append : Append → List ℕ
text_of_append (One entry) = text_of entry
text_of_append (Two first second) = text_of first ++ (codes "; " ++ text_of second)

-- each number of its entries fits
abbrev pub FitsAppend : Append → Type 0
FitsAppend (One entry) = Fits entry
FitsAppend (Two first second) = Fits first × Fits second

-- the entry that stands after one blank
abbrev pub entry_after_blank : List ℕ → Option Entry
entry_after_blank [] = None
entry_after_blank (b ∷ text) = if b == 32 then entry_in text else None

-- what the text of an append says: two entries if there is a semicolon in it, or else one
abbrev pub append_in : List ℕ → Option Append
append_in text =
    if has_byte 59 text
    then option_and_then (λ first. option_map (λ second. Two first second) (entry_after_blank (after_first (λ b. b == 59) text))) (entry_in (before_first (λ b. b == 59) text))
    else option_map (λ entry. One entry) (entry_in text)

-- what the texts of appends say, each of them an append
abbrev pub appends_in : List (List ℕ) → Option (List Append)
appends_in texts = read_all append_in texts

-- the entries of all appends, in order
abbrev pub entries_of_appends : List Append → List Entry
entries_of_appends appends = flat_map entries_of_append appends

-- the entries that the texts of appends say, in order
abbrev pub entries_in : List (List ℕ) → Option (List Entry)
entries_in texts = option_map entries_of_appends (appends_in texts)
