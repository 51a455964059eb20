-- The verdict on a text, in words.
use Rattle.std.specs.Prelude.{ℕ, ◌+◌, ◌-◌, nat_lt, if◌then◌else◌, List, [], ◌∷◌, ◌++◌, codes, length, take, drop, Result, Ok, Err}
use Rattle.std.specs.Fmt.{decimal}
use Rattle.amo_kk.specs.declared.event.Event.{Event}
use Rattle.amo_params.specs.declared.givens.GivensFault.TheVariants.{TooManyJobs, NoWorkers, TooManyWorkers, BetaLow, BetaHigh}
use Rattle.amo_params.specs.declared.limits.TheConstants.{MAX_JOBS, MAX_WORKERS, MAX_BETA}
use Rattle.amo_world.specs.Answer.{verdict}
use Rattle.amo_world.specs.declared.answer.Verdict.{Verdict}
use Rattle.amo_world.specs.declared.answer.Verdict.TheVariants.{Lawful, FirstBad}
use Rattle.amo_judge.specs.History.{HistoryView, history_in}
use Rattle.amo_judge.specs.Lines.{lines_of}
use Rattle.amo_judge.specs.Telling.{event_text, lawful_text}
use Rattle.amo_judge.specs.Why.{why}
use Rattle.amo_judge.specs.declared.judging.TheConstants.{MOST_BYTES}
use Rattle.amo_judge.specs.declared.refusal.Refusal.{Refusal}
use Rattle.amo_judge.specs.declared.refusal.Wrong.{Wrong}
use Rattle.amo_judge.specs.declared.refusal.Wrong.TheVariants.{NoFirstLine, NoGivens, OtherBound, NoEvent, NotDue, WorkerBeyond, JobBeyond}

-- the fault of a line, in words
unfoldable pub wrong_text : Wrong → List ℕ
wrong_text NoFirstLine = codes "this is no first line of a history"
wrong_text (NoGivens TooManyJobs) = codes "there are more than " ++ (decimal MAX_JOBS ++ codes " jobs")
wrong_text (NoGivens NoWorkers) = codes "there is no worker"
wrong_text (NoGivens TooManyWorkers) = codes "there are more than " ++ (decimal MAX_WORKERS ++ codes " workers")
wrong_text (NoGivens BetaLow) = codes "the threshold is below the number of workers"
wrong_text (NoGivens BetaHigh) = codes "the threshold is above " ++ decimal MAX_BETA
wrong_text (OtherBound bound) = codes "the bound of these numbers is " ++ decimal bound
wrong_text NoEvent = codes "this is no event"
wrong_text (NotDue due) = codes "the event that is due has number " ++ decimal due
wrong_text (WorkerBeyond most) = codes "this names a worker beyond " ++ decimal most
wrong_text (JobBeyond most) = codes "this names a job beyond " ++ decimal most

-- `refused`, and a line, and why
unfoldable pub refused_line : ℕ → List ℕ → List ℕ
refused_line line words =
    codes "refused\nline " ++ (decimal line ++ (codes ": " ++ (words ++ codes "\n")))

-- the verdict on a text that isn't a history
abbrev pub refused_text : Refusal → List ℕ
refused_text refusal = refused_line refusal.line (wrong_text refusal.wrong)

-- `refused`, since the text is too long
abbrev pub too_long_text : List ℕ
too_long_text = codes "refused\nthe text is longer than " ++ (decimal MOST_BYTES ++ codes " bytes\n")

-- `unlawful` and the number of an event, its line, and why it is no step
unfoldable pub unlawful_lines : ℕ → List ℕ → List ℕ → List ℕ
unlawful_lines number event reason =
    codes "unlawful " ++ (decimal number ++ (codes "\nline " ++ (decimal (number + 1) ++ (codes ": " ++ (event ++ (codes "\n" ++ (reason ++ codes "\n")))))))

-- the verdict if an event of this number is no step after those before it
abbrev pub unlawful_text : HistoryView → ℕ → List Event → Event → List ℕ
unlawful_text h number before event = unlawful_lines number (event_text h number event) (why h before event)

-- the verdict for the first of these events, if there is one, after the events before it
abbrev pub bad_text : HistoryView → ℕ → List Event → List Event → List ℕ
bad_text h number before [] = []
bad_text h number before (event ∷ events) = unlawful_text h number before event

-- the text for a history by its verdict
abbrev pub verdict_text : HistoryView → Verdict → List ℕ
verdict_text h Lawful = lawful_text h.events
verdict_text h (FirstBad number) = bad_text h number (take (number - 1) h.events) (drop (number - 1) h.events)

-- the text for a history that was read, or refused
abbrev pub answer : Result HistoryView Refusal → List ℕ
answer (Ok h) = verdict_text h (verdict h.givens h.events)
answer (Err refusal) = refused_text refusal

-- the verdict on a text
abbrev pub judgement : List ℕ → List ℕ
judgement text = if nat_lt MOST_BYTES (length text) then too_long_text else answer (history_in (lines_of text))
