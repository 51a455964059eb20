-- How a process comes to hold an attempt: an intent comes first.
use Rattle.std.proofs.Common.{◌≡◌, ◌⊎◌, inl, inr, ℕ, zero, suc, List, [], ◌∷◌, Option, Some, None, refl}
use Rattle.std.specs.Prelude.{Bool, true, false, ◌==◌, ◌+◌, if◌then◌else◌}
use Rattle.amo_params.specs.declared.limits.TheConstants.{MAX_WORKERS}
use Rattle.amo_process.specs.Heard.{told_by, doubted_by}
use Rattle.amo_process.specs.Stepped.{ProcessView, process_after, may_leave, is_refused}
use Rattle.amo_driver.specs.Course.{due, stage_after, stage_cleared, stage_heard, stage_by_jobs, stage_told, stage_replied, stage_asking, stage_asked}
use Rattle.amo_driver.specs.Stage.{Stage, Going, Finding, Intending, Clearing, Performing, Noting, Leaving, Asking, Settling, Unanswered, Refused}
use Rattle.amo_driver.specs.declared.answer.Reply.{Reply}
use Rattle.amo_driver.specs.declared.answer.Reply.TheVariants.{Answered, Running, Garbled, Closed}
use Rattle.amo_driver.specs.declared.answer.Way.{Way}
use Rattle.amo_driver.specs.declared.answer.Way.TheVariants.{Go, Leave}
use Rattle.amo_driver.specs.declared.model.Deed.{Deed}
use Rattle.amo_driver.specs.declared.model.Deed.TheVariants.{Loaded as WasLoaded, Stored as WasStored, Found, Intended, Cleared, Performed, Noted, Asked, Fell as HasFallen}
use Rattle.amo_driver.specs.declared.model.Try.{Try}
use Rattle.amo_driver.specs.declared.past.Intent.{Intent}
use Rattle.amo_host.specs.declared.model.LogFile.{LogFile}
use Rattle.amo_host.specs.Calls.{Request, Put, Owe, Pay, ReadOn, Call, HasUnlocked, HasRead, Fell}
use Rattle.amo_host.specs.Logs.{Logs, journals_from, logs_after, others}
use Rattle.amo_host.specs.Phase.{Identity, Phase, Starts, Asks, Idle, Begins, Joins, Reads, Works, Clears, Unclear, Over, Stays, Ended}
use Rattle.amo_host.specs.Protocol.{line_at, effect_of, stage_by, job_is_clear, reads_on, reads_first, unread, fails, works_on, clears_on, asks_on, phase_after}
use Rattle.amo_program_safety.specs.Runs.{held_at, held_in}
use Rattle.amo_program_safety.proofs.Outside.{IsBefore, StaysBefore, outside_before, none_before, none_asking}

-- ---- stages

-- the intent of this serial number was just put
abbrev pub HasPutIt : Stage → ℕ → Type 0
HasPutIt (Clearing s a j) n = s ≡ n
HasPutIt st n = ⊥

-- what it holds, it held, or has just put
abbrev StageFrom : Stage → Stage → Type 0
StageFrom st st' = (n : ℕ) → held_at st' ≡ Some n → (held_at st ≡ Some n) ⊎ HasPutIt st' n

holds_none : (st st' : Stage) → held_at st' ≡ None → StageFrom st st'
holds_none st st' none n is = absurd (cc (none, is))

either_none : (b : Bool) (x y : Stage) → held_at x ≡ None → held_at y ≡ None → held_at (if b then x else y) ≡ None
either_none true x y hx hy = hx
either_none false x y hx hy = hy

jobs_none : (s : ℕ) (a : ProcessView) (performs doubts : ℕ) → held_at (stage_by_jobs s a performs doubts) ≡ None
jobs_none s a zero zero = refl
jobs_none s a zero (suc j) = refl
jobs_none s a (suc j) d = refl

heard_none : (s : ℕ) (way : Way) (a : ProcessView) → held_at (stage_heard s way a) ≡ None
heard_none s Go a = jobs_none s a (told_by a.standing) (doubted_by a.standing)
heard_none s Leave a = either_none (may_leave a.standing) (Leaving a) (Going s a Leave) refl refl

told_none : (w x s : ℕ) (way : Way) (a : ProcessView) → held_at (stage_told w x s way a) ≡ None
told_none w x s way a = either_none (is_refused a.standing) (Refused w x) (stage_heard s way a) refl (heard_none s way a)

replied_none : (s : ℕ) (a : ProcessView) (reply : Reply) → held_at (stage_replied s a reply) ≡ None
replied_none s a (Answered n c way) = either_none (n == s) (Noting s a c way) (Unanswered s (Answered n c way)) refl refl
replied_none s a (Running n way) = either_none (n == s) (Going (s + 1) a way) (Unanswered s (Running n way)) refl refl
replied_none s a Garbled = refl
replied_none s a Closed = refl

asking_none : (way : Way) (is : List Intent) → held_at (stage_asking way is) ≡ None
asking_none Go is = refl
asking_none Leave is = refl

asked_none : (is : List Intent) (reply : Reply) → held_at (stage_asked is reply) ≡ None
asked_none [] reply = refl
asked_none (i ∷ is) (Answered n c way) = either_none (n == i.serial) (Settling i.serial c way is) (Unanswered i.serial (Answered n c way)) refl refl
asked_none (i ∷ is) (Running n way) = either_none (n == i.serial) (stage_asking way is) (Unanswered i.serial (Running n way)) (asking_none way is) refl
asked_none (i ∷ is) Garbled = refl
asked_none (i ∷ is) Closed = refl

cleared_from : (s : ℕ) (a : ProcessView) (j : ℕ) (clear : Bool) (n : ℕ) → held_at (stage_cleared s a j clear) ≡ Some n → Some s ≡ Some n
cleared_from s a j true n is = is
cleared_from s a j false n is = absurd (cc is)

stage_from : (st : Stage) (d : Deed) → StageFrom st (stage_after st d)
stage_from st (HasFallen t) n is = absurd (cc is)
stage_from (Going s a way) (WasLoaded w x) n is = holds_none (Going s a way) (stage_told w x s way (process_after a x)) (told_none w x s way (process_after a x)) n is
stage_from (Going s a way) (WasStored w x) n is = holds_none (Going s a way) (stage_told w x s way (process_after a 0)) (told_none w x s way (process_after a 0)) n is
stage_from (Finding s a j) (Found i) n is = absurd (cc is)
stage_from (Intending s a j) (Intended m i) n is = inr (cc is)
stage_from (Clearing s a j) (Cleared m i clear) n is = inl (cleared_from s a j clear n is)
stage_from (Performing s a j) (Performed m i reply) n is = holds_none (Performing s a j) (stage_replied s a reply) (replied_none s a reply) n is
stage_from (Noting s a c way) (Noted m d) n is = absurd (cc is)
stage_from (Leaving a) (WasStored w x) n is = absurd (cc is)
stage_from (Asking intents) (Asked m line reply) n is = holds_none (Asking intents) (stage_asked intents reply) (asked_none intents reply) n is
stage_from (Settling s c way rest) (Noted m d) n is = holds_none (Settling s c way rest) (stage_asking way rest) (asking_none way rest) n is
stage_from st d n is = inl is

by_from : (t : Option Try) (st : Stage) (c : Call) → StageFrom st (stage_by t st c)
by_from None st c n is = inl is
by_from (Some t) st c n is = stage_from st (effect_of t c) n is

-- ---- phases

abbrev pub HasJustPut : Phase → ℕ → Type 0
HasJustPut (Works me jobs st owes logs) n = HasPutIt st n
HasJustPut ph n = ⊥

abbrev pub PhaseFrom : Phase → Phase → Type 0
PhaseFrom ph ph' = (n : ℕ) → held_in ph' ≡ Some n → (held_in ph ≡ Some n) ⊎ HasJustPut ph' n

held_before : (ph : Phase) → IsBefore ph → held_in ph ≡ None
held_before (Works me jobs (Going s a way) owes logs) before = refl
held_before (Works me jobs st owes logs) before = absurd before
held_before (Clears me jobs s a j logs left) before = absurd before
held_before ph before = refl

none_from : (ph : Phase) (c : Call) → StaysBefore ph → PhaseFrom ph (phase_after ph c)
none_from ph c stays n is = absurd (cc (none_before held_in held_before ph c stays, is))

asks_from : (me : Identity) (st : Stage) (c : Call) → PhaseFrom (Asks me st) (asks_on me st c)
asks_from me st c n is = absurd (cc (none_asking held_in (λ ph out. held_before ph (outside_before ph out)) (λ you at. refl) me st c, is))

on_from : (me : Identity) (jobs : List ℕ) (s : ℕ) (a : ProcessView) (j : ℕ) (logs : Option Logs) (left : List LogFile) (n : ℕ)
    → held_in (reads_on me jobs s a j logs left) ≡ Some n → Some s ≡ Some n
on_from me jobs s a j None left n is = absurd (cc is)
on_from me jobs s a j (Some logs) (f ∷ left) n is = is
on_from me jobs s a j (Some logs) [] n is = cleared_from s a j (job_is_clear me s (line_at jobs j) logs) n is

reading_from : (me : Identity) (jobs : List ℕ) (st : Stage) (owes : Bool) (logs : Logs) (f : LogFile) (texts : List (List ℕ))
    → PhaseFrom (Works me jobs st owes logs) (reads_first me jobs st logs f texts)
reading_from me jobs (Clearing s a j) owes logs f texts n is = inl (on_from me jobs s a j (logs_after logs f texts) (journals_from 1 MAX_WORKERS) n is)
reading_from me jobs st owes logs f texts n is = absurd (cc is)

unread_none : (st : Stage) → held_in (unread st) ≡ None
unread_none (Clearing s a j) = refl
unread_none st = refl

fails_none : (me : Identity) (jobs : List ℕ) (st : Stage) (owes : Bool) (logs : Logs) (r : Request) → held_in (fails me jobs st owes logs r) ≡ None
fails_none me jobs st owes logs (Put entry) = refl
fails_none me jobs st owes logs (Owe entry) = refl
fails_none me jobs st owes logs Pay = refl
fails_none me jobs st owes logs (ReadOn f) = unread_none st
fails_none me jobs st owes logs r = refl

works_from : (me : Identity) (jobs : List ℕ) (st : Stage) (owes : Bool) (logs : Logs) (c : Call)
    → PhaseFrom (Works me jobs st owes logs) (works_on me jobs st owes logs c)
works_from me jobs st owes logs (HasUnlocked lock) n is = absurd (cc is)
works_from me jobs st owes logs (HasRead f texts) n is = reading_from me jobs st owes logs f texts n is
works_from me jobs st owes logs (Fell r) n is = absurd (cc (fails_none me jobs st owes logs r, is))
works_from me jobs st owes logs c n is = by_from (due st) st c n is

clears_from : (me : Identity) (jobs : List ℕ) (s : ℕ) (a : ProcessView) (j : ℕ) (logs : Logs) (left : List LogFile) (c : Call) (n : ℕ)
    → held_in (clears_on me jobs s a j logs left c) ≡ Some n → Some s ≡ Some n
clears_from me jobs s a j logs left (HasRead f texts) n is = on_from me jobs s a j (logs_after logs f texts) (others left) n is
clears_from me jobs s a j logs left (Fell (ReadOn f)) n is = absurd (cc is)
clears_from me jobs s a j logs left c n is = absurd (cc is)

-- An attempt that a process has in hand after a call was in its hand before, or its intent was just
-- put.
pub phase_from : (ph : Phase) (c : Call) → PhaseFrom ph (phase_after ph c)
phase_from (Starts worker start) c = none_from (Starts worker start) c tt
phase_from (Asks me st) c = asks_from me st c
phase_from (Idle me logs) c = none_from (Idle me logs) c tt
phase_from (Begins me begin) c = none_from (Begins me begin) c tt
phase_from (Joins me join) c = none_from (Joins me join) c tt
phase_from (Reads me purpose logs counts left) c = none_from (Reads me purpose logs counts left) c tt
phase_from (Works me jobs st owes logs) c = works_from me jobs st owes logs c
phase_from (Clears me jobs s a j logs left) c = λ n is. inl (clears_from me jobs s a j logs left c n is)
phase_from (Unclear s) c = none_from (Unclear s) c tt
phase_from (Over me logs) c = none_from (Over me logs) c tt
phase_from (Stays me logs) c = none_from (Stays me logs) c tt
phase_from Ended c = none_from Ended c tt
