-- Which answers are appended, by what is known of a run and the time.
use Rattle.std.specs.Prelude.{ℕ, Bool, true, false, List, [], ◌∷◌, ◌++◌, map, Option, Some, None, option_and_then, option_map, if◌then◌else◌}
use Rattle.std.specs.Str.{bytes_eq}
use Rattle.amo_run_files.specs.Jobs.{line_of}
use Rattle.amo_run_log.specs.declared.finding.Finding.{Finding}
use Rattle.amo_run_log.specs.declared.finding.Resolution.TheVariants.{NotDone}
use Rattle.amo_status.specs.declared.answering.Quiet.{Quiet}
use Rattle.amo_status.specs.declared.refusal.Refusal.{Refusal}
use Rattle.amo_status.specs.declared.refusal.Refusal.TheVariants.{Running, AnsweredSo, EndUnknown, EndAhead, TooYoung}
use Rattle.amo_status.specs.declared.said.Said.{Said}
use Rattle.amo_status.specs.Answers.{refusal_now, untouched_of}
use Rattle.amo_operator.specs.Phase.{Known}

-- The state after some answers were looked at.
pub record Judged : Type 0 where
  -- The findings of the run, and those of these answers.
  pub findings : List Finding
  -- The findings that are to be appended, if all answers are taken.
  pub fresh : List Finding
  -- Whether one comes too early.
  pub is_early : Bool
  -- Whether one is to an attempt that may still run.
  pub runs : Bool

-- Whether this is the text of the line.
abbrev pub is_text_of : List ℕ → Option (List ℕ) → Bool
is_text_of text None = false
is_text_of text (Some line) = bytes_eq line text

-- How long an attempt must have been over.
abbrev pub quiet_at : (quiet : Option ℕ) → (time : ℕ) → Option Quiet
quiet_at quiet time = option_map (λ seconds. record { now = time; seconds = seconds }) quiet

-- The finding of an answer that is given at this time.
abbrev pub finding_of : Said → (time : ℕ) → Finding
finding_of said time = record { verdict = said.verdict; worker = said.worker; serial = said.serial; time = time }

-- The state after one more answer, which is taken, or refused for this reason.
abbrev pub judged_for : Judged → Finding → Option Refusal → Option Judged
judged_for j f None = Some (record j { findings = j.findings ++ f ∷ []; fresh = j.fresh ++ f ∷ [] })
judged_for j f (Some AnsweredSo) = Some j
judged_for j f (Some Running) = Some (record j { runs = true })
judged_for j f (Some EndUnknown) = Some (record j { findings = j.findings ++ f ∷ []; is_early = true })
judged_for j f (Some (EndAhead ended now)) = Some (record j { findings = j.findings ++ f ∷ []; is_early = true })
judged_for j f (Some (TooYoung ended now seconds)) = Some (record j { findings = j.findings ++ f ∷ []; is_early = true })
judged_for j f (Some why) = None

-- The state after one more answer was looked at. None if the answer is refused for good.
abbrev pub judged_with : Known → (quiet : Option ℕ) → (time : ℕ) → Judged → Said → Option Judged
judged_with k quiet time j said =
    if is_text_of said.text.items (line_of k.lines said.line)
    then judged_for j (finding_of said time) (refusal_now (quiet_at quiet time) j.findings k.journals k.finals said.worker said.serial said.line said.verdict)
    else None

-- The state after these answers were looked at, in order. None if one is refused for good.
abbrev pub judged_all : Known → (quiet : Option ℕ) → (time : ℕ) → Judged → List Said → Option Judged
judged_all k quiet time j [] = Some j
judged_all k quiet time j (said ∷ more) = option_and_then (λ next. judged_all k quiet time next more) (judged_with k quiet time j said)

-- The state before any answer was looked at.
abbrev pub none_judged : Known → Judged
none_judged k = record { findings = k.findings; fresh = []; is_early = false; runs = false }

-- The answers by which lines are tried again: of each attempt that reports that it did nothing, and
-- that no operator has answered.
abbrev pub again_at : Known → (time : ℕ) → List Finding
again_at k time = map (λ i. record { verdict = NotDone; worker = i.worker; serial = i.serial; time = time }) (untouched_of k.findings 1 k.journals)
