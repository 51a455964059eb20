-- The words of the judge.
use Rattle.std.specs.Prelude.{ℕ, ◌+◌, ◌==◌, if◌then◌else◌, List, [], ◌++◌, codes}
use Rattle.std.specs.Fmt.{decimal}
use Rattle.amo_safety_by_journals.specs.Model.{Event, Dies, Begins, Lands, Wants, Intends, Looks, HandsOver, Performs, Ends, Opens}
use Rattle.amo_params.specs.declared.limits.TheConstants.{MAX_WORKERS}
use Rattle.amo_call_log_judge.specs.declared.reason.Reason.{Reason}
use Rattle.amo_call_log_judge.specs.declared.reason.Reason.TheVariants.{HasProcess, NoProcess, HasIntent, NoIntent, Taken, NotSeen, NotAlive, PerformedBefore, NotKept, Held, Alive, Performed}
use Rattle.amo_call_log_judge.specs.declared.verdict.Refusal.{Refusal}
use Rattle.amo_call_log_judge.specs.declared.verdict.Wrong.{Wrong}
use Rattle.amo_call_log_judge.specs.declared.verdict.Wrong.TheVariants.{NoEvent, NoNumber, WorkerBeyond, NoLineFeed}

-- what happened by the event
unfoldable pub event_text : Event → List ℕ
event_text (Begins p) = codes "worker " ++ (decimal p ++ codes " begins")
event_text (Dies p) = codes "worker " ++ (decimal p ++ codes " dies")
event_text (Lands p line) = codes "an intent of worker " ++ (decimal p ++ (codes " for line " ++ (decimal line ++ codes " lands")))
event_text (Wants p line) = []
event_text (Intends p line) = codes "worker " ++ (decimal p ++ (codes " intends line " ++ decimal line))
event_text (Looks p q) = codes "worker " ++ (decimal p ++ (codes " looks at journal " ++ decimal q))
event_text (HandsOver p) = codes "worker " ++ (decimal p ++ codes " hands over")
event_text (Performs h) = codes "attempt " ++ (decimal h.serial ++ (codes " of worker " ++ (decimal h.worker ++ (codes " performs line " ++ decimal h.line))))
event_text (Ends i) = codes "the attempt at place " ++ (decimal i ++ codes " ends")
event_text (Opens a) = codes "attempt " ++ (decimal a.serial ++ (codes " of worker " ++ (decimal a.worker ++ codes " is opened")))

-- why an event may not follow
unfoldable pub reason_text : Reason → List ℕ
reason_text HasProcess = codes "a process has its journal"
reason_text NoProcess = codes "no process has its journal"
reason_text HasIntent = codes "has not handed over its last intent"
reason_text NoIntent = codes "has no acknowledged intent"
reason_text (Taken serial line) = codes "attempt " ++ (decimal serial ++ (codes " there is at line " ++ (decimal line ++ codes " too, and is not opened")))
reason_text (NotSeen q) = codes "has not looked at journal " ++ (decimal q ++ codes " since its intent")
reason_text NotAlive = codes "it is not alive"
reason_text PerformedBefore = codes "it has performed its line before"
reason_text NotKept = codes "its journal has no such intent"
reason_text Held = codes "its process may still hand it over"
reason_text Alive = codes "it is alive"
reason_text Performed = codes "it has performed its line"

-- what is wrong with a line
unfoldable pub wrong_text : Wrong → List ℕ
wrong_text NoEvent = codes "this is no event"
wrong_text NoNumber = codes "this has no number below 2 to the 64"
wrong_text WorkerBeyond = codes "this names a worker beyond " ++ decimal MAX_WORKERS
wrong_text NoLineFeed = codes "this has no line feed at its end"

-- `refused`, and the line with its fault
unfoldable pub refused_line : ℕ → List ℕ → List ℕ
refused_line line words = codes "refused\nline " ++ (decimal line ++ (codes ": " ++ (words ++ codes "\n")))

-- the answer to a text that is no log
abbrev pub refused_text : Refusal → List ℕ
refused_text refusal = refused_line refusal.line (wrong_text refusal.wrong)

-- `no run`, and the line with its event and the reason
unfoldable pub no_run_line : ℕ → List ℕ → List ℕ → List ℕ
no_run_line line event reason = codes "no run: line " ++ (decimal line ++ (codes ": " ++ (event ++ (codes ", but " ++ (reason ++ codes "\n")))))

-- the answer if the event at this index may not follow
abbrev pub no_run_text : ℕ → Event → Reason → List ℕ
no_run_text index e reason = no_run_line (index + 1) (event_text e) (reason_text reason)

-- the number, and the word for one thing or for several
unfoldable pub counted : ℕ → List ℕ → List ℕ → List ℕ
counted count one several = if count == 1 then codes "1 " ++ one else decimal count ++ (codes " " ++ several)

-- `a run`, and the counts of events and performed lines
unfoldable pub run_line : List ℕ → List ℕ → List ℕ
run_line events lines = codes "a run: " ++ (events ++ (codes ", " ++ (lines ++ codes " performed, none twice\n")))

-- the answer to a run of so many events, in which so many lines were performed
abbrev pub run_text : ℕ → ℕ → List ℕ
run_text events performed = run_line (counted events (codes "event") (codes "events")) (counted performed (codes "line") (codes "lines"))
