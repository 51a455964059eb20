-- Answers of persons as they are written: the intent, the number of its line, the line's text and
-- the verdict, a tab between each two.
use Rattle.std.specs.Prelude.{◌≡◌, ◌≢◌, ◌<◌, ◌≤◌, ◌-◌, ◌^◌, ℕ, ◌==◌, nat_lt, List, [], ◌∷◌, ◌++◌, codes, length, slice_index_or, take, drop, Option, Some, None, option_and_then, if◌then◌else◌}
use Rattle.std.specs.Fmt.{decimal}
use Rattle.std.specs.List.{after_first, before_first, position_or_len}
use Rattle.std.specs.Str.{bytes_eq}
use Rattle.amo_run_log.specs.declared.fault.Fault.{Fault}
use Rattle.amo_run_log.specs.declared.fault.Fault.TheVariants.{Memory, Refused}
use Rattle.amo_run_log.specs.declared.finding.Resolution.{Resolution}
use Rattle.amo_run_log.specs.declared.finding.Resolution.TheVariants.{Done, NotDone}
use Rattle.amo_run_log.specs.Findings.{verdict_in, word_of}
use Rattle.amo_decimal.specs.Numbers.{number_in}
use Rattle.amo_run_log.specs.Numbers.{read_all}
use Rattle.amo_status.specs.declared.said.Said.{Said}
use Rattle.amo_status.specs.declared.state.AttemptId.{AttemptId}
use Rattle.amo_status.specs.Rows.{tab}

-- an answer as it was said, with a list for the vector
pub record SaidView : Type 0 where
  pub worker : ℕ
  pub serial : ℕ
  pub line : ℕ
  pub text : List ℕ
  pub verdict : Resolution

-- what was said
abbrev pub said_by : Said → SaidView
said_by s = record { worker = s.worker; serial = s.serial; line = s.line; text = s.text.items; verdict = s.verdict }

-- `P.S`
abbrev pub intent_text : ℕ → ℕ → List ℕ
intent_text worker serial = decimal worker ++ (codes "." ++ decimal serial)

-- the text of an answer
abbrev pub said_text : SaidView → List ℕ
said_text s = intent_text s.worker s.serial ++ (tab ++ (decimal s.line ++ (tab ++ (s.text ++ (tab ++ word_of s.verdict)))))

-- its numbers have 64 bits
abbrev pub FitsSaid : SaidView → Type 0
FitsSaid s = (s.worker < 2 ^ 64) × (s.serial < 2 ^ 64) × (s.line < 2 ^ 64)

-- the text before the first such byte, and the text after it
abbrev pub split_at : ℕ → List ℕ → Option (List ℕ × List ℕ)
split_at byte text =
    if nat_lt (position_or_len (λ b. b == byte) text) (length text) then Some (before_first (λ b. b == byte) text, after_first (λ b. b == byte) text) else None

-- the intent that a text names
abbrev pub intent_in : List ℕ → Option AttemptId
intent_in text = option_and_then (λ p. option_and_then (λ w. option_and_then (λ s. Some (record { worker = w; serial = s })) (number_in p.1)) (number_in p.0)) (split_at 46 text)

-- the intent and the line that two texts name
abbrev pub place_in : List ℕ → List ℕ → Option (AttemptId × ℕ)
place_in intent line = option_and_then (λ i. option_and_then (λ n. Some (i, n)) (number_in line)) (intent_in intent)

-- the answer of three words
abbrev pub words_in : List ℕ → List ℕ → List ℕ → Option (AttemptId × ℕ × Resolution)
words_in intent line verdict = option_and_then (λ p. option_and_then (λ v. Some (p.0, p.1, v)) (verdict_in verdict)) (place_in intent line)

-- what stands before this ending
abbrev pub before_end : List ℕ → List ℕ → Option (List ℕ)
before_end ending text = if bytes_eq (drop (length text - length ending) text) ending then Some (take (length text - length ending) text) else None

-- what stands before the verdict, which is the last
abbrev pub verdict_behind : List ℕ → Option (List ℕ × Resolution)
verdict_behind text =
    if bytes_eq (drop (length text - 5) text) (tab ++ codes "done") then Some (take (length text - 5) text, Done)
    else (if bytes_eq (drop (length text - 9) text) (tab ++ codes "not-done") then Some (take (length text - 9) text, NotDone) else None)

-- what a text says
abbrev pub said_in : List ℕ → Option SaidView
said_in bytes =
    option_and_then (λ a. option_and_then (λ b. option_and_then (λ t. option_and_then (λ p.
    Some (record { worker = p.0.worker; serial = p.0.serial; line = p.1; text = t.0; verdict = t.1 }))
    (place_in a.0 b.0)) (verdict_behind b.1)) (split_at 9 a.1)) (split_at 9 bytes)

-- the lines of a file, with what was read of the first one; the last may lack its end
abbrev pub lines_from : List ℕ → List ℕ → List (List ℕ)
lines_from [] [] = []
lines_from [] (b ∷ begun) = (b ∷ begun) ∷ []
lines_from (b ∷ bs) begun = if b == 10 then begun ∷ lines_from bs [] else lines_from bs (begun ++ b ∷ [])

-- the lines of a file
abbrev pub lines_in : List ℕ → List (List ℕ)
lines_in bytes = lines_from bytes []

-- why a file of these lines is refused: the line of this number, from 1, says no answer, and each
-- line before it says one
abbrev pub IsRefused : List (List ℕ) → Fault → Type 0
IsRefused lines Memory = Unit {0}
IsRefused lines (Refused number) =
    (1 ≤ number) × (number ≤ length lines) × (said_in (slice_index_or lines (number - 1) []) ≡ None) × (read_all said_in (take (number - 1) lines) ≢ None)
