-- Findings of persons on intents, as texts: for a worker and a serial number, whether the line was
-- done.
use Rattle.std.specs.Prelude.{not, slice_get, ◌≡◌, ◌<◌, ◌≤◌, ◌^◌, ◌-◌, ℕ, Bool, true, false, ◌&&◌, ◌==◌, nat_le, List, [], ◌++◌, codes, length, slice_index_or, take, Option, Some, None, option_and_then, if◌then◌else◌}
use Rattle.std.specs.Fmt.{decimal}
use Rattle.std.specs.List.{list_any}
use Rattle.std.specs.Str.{bytes_eq}
use Rattle.amo_run_log.specs.Numbers.{by_word, three_in, read_all}
use Rattle.amo_run_log.specs.declared.finding.Finding.{Finding}
use Rattle.amo_run_log.specs.declared.finding.Resolution.{Resolution}
use Rattle.amo_run_log.specs.declared.finding.Resolution.TheVariants.{Done, NotDone}
use Rattle.amo_run_log.specs.declared.journal.Attempt.{Attempt}

-- the word of a verdict
abbrev pub word_of : Resolution → List ℕ
word_of Done = codes "done"
word_of NotDone = codes "not-done"

-- the text of a finding
abbrev pub text_of_finding : Finding → List ℕ
text_of_finding f = word_of f.verdict ++ (codes " " ++ (decimal f.worker ++ (codes " " ++ (decimal f.serial ++ (codes " " ++ decimal f.time)))))

-- its numbers have 64 bits
abbrev pub FitsFinding : Finding → Type 0
FitsFinding f = (f.worker < 2 ^ 64) × (f.serial < 2 ^ 64) × (f.time < 2 ^ 64)

-- the verdict of a word
abbrev pub verdict_in : List ℕ → Option Resolution
verdict_in word = if bytes_eq word (codes "done") then Some Done else (if bytes_eq word (codes "not-done") then Some NotDone else None)

-- the finding of this word and these numbers
abbrev pub finding_of_word : List ℕ → List ℕ → Option Finding
finding_of_word word rest =
    option_and_then (λ v. option_and_then (λ n. Some (record { verdict = v; worker = n.0; serial = n.1; time = n.2 })) (three_in rest)) (verdict_in word)

-- what a text says
abbrev pub finding_in : List ℕ → Option Finding
finding_in text = by_word finding_of_word text

-- what texts say, each of them a finding
abbrev pub findings_in : List (List ℕ) → Option (List Finding)
findings_in texts = read_all finding_in texts

-- whether it is of the intent of this worker and serial number
abbrev pub is_of : ℕ → ℕ → Finding → Bool
is_of worker serial f = (f.worker == worker) && (f.serial == serial)

-- whether it says that what was intended was not done
abbrev pub is_not_done : Resolution → Bool
is_not_done Done = false
is_not_done NotDone = true

-- whether the intent of this worker and serial number was found not done
abbrev pub is_undone : List Finding → ℕ → ℕ → Bool
is_undone findings worker serial = list_any (λ f. is_not_done f.verdict && is_of worker serial f) findings

-- whether there is an intent of this worker and serial number
abbrev pub is_intent : List (List Attempt) → ℕ → ℕ → Bool
is_intent journals worker serial = (nat_le 1 worker && nat_le 1 serial) && nat_le serial (length (slice_index_or journals (worker - 1) []))

-- whether a finding may follow these: it is of an intent, and none of them is of that intent
abbrev pub may_join : List (List Attempt) → List Finding → Finding → Bool
may_join journals before f = is_intent journals f.worker f.serial && not (list_any (is_of f.worker f.serial) before)

-- each finding may follow those before it
abbrev pub AreInPlace : List (List Attempt) → List Finding → Type 0
AreInPlace journals findings = (k : ℕ) (f : Finding) → slice_get findings k ≡ Some f → may_join journals (take k findings) f ≡ true

-- the finding of this number, from 1, may not
abbrev pub IsOutOfPlace : List (List Attempt) → List Finding → ℕ → Type 0
IsOutOfPlace journals findings number =
    (1 ≤ number) × (f : Finding) × (slice_get findings (number - 1) ≡ Some f) × (may_join journals (take (number - 1) findings) f ≡ false)
