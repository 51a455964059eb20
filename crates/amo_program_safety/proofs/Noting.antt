-- How a process comes to record an outcome of an attempt: it has declined the attempt, or a runner
-- has reported the outcome.
use Rattle.std.proofs.Common.{◌≡◌, ◌⊎◌, inl, inr, ⊎_elim, sym, ap, ◌∙◌, subst, ℕ, zero, suc, List, [], ◌∷◌, Option, Some, None, refl}
use Rattle.std.specs.Prelude.{Bool, true, false, ◌==◌, ◌+◌, if◌then◌else◌}
use Rattle.std.proofs.lemmas.Bool.{cases_eq, eq-eqb, ne_eqb}
use Rattle.amo_params.specs.declared.limits.TheConstants.{MAX_WORKERS}
use Rattle.amo_process.specs.Heard.{told_by, doubted_by}
use Rattle.amo_process.specs.Stepped.{ProcessView, process_after, may_leave, is_refused}
use Rattle.amo_driver.specs.Course.{due, stage_after, stage_cleared, stage_heard, stage_by_jobs, stage_told, stage_replied, stage_asking, stage_asked}
use Rattle.amo_driver.specs.Stage.{Stage, Going, Finding, Intending, Clearing, Performing, Noting, Leaving, Asking, Settling, Unanswered, Refused}
use Rattle.amo_driver.specs.declared.answer.JobResult.{JobResult}
use Rattle.amo_driver.specs.declared.answer.Reply.{Reply}
use Rattle.amo_driver.specs.declared.answer.Reply.TheVariants.{Answered, Running, Garbled, Closed}
use Rattle.amo_driver.specs.declared.answer.Way.{Way}
use Rattle.amo_driver.specs.declared.answer.Way.TheVariants.{Go, Leave}
use Rattle.amo_driver.specs.declared.model.Deed.{Deed}
use Rattle.amo_driver.specs.declared.model.Deed.TheVariants.{Loaded as WasLoaded, Stored as WasStored, Found, Intended, Cleared, Performed, Noted, Asked, Fell as HasFallen}
use Rattle.amo_driver.specs.declared.model.Try.{Try}
use Rattle.amo_driver.specs.declared.model.Try.TheVariants.{Load, Store, Find, Intend, Clear, Perform, Note, Ask}
use Rattle.amo_driver.specs.declared.past.Intent.{Intent}
use Rattle.amo_host.specs.declared.model.Hold.TheVariants.{Shared, Exclusive}
use Rattle.amo_host.specs.declared.model.LogFile.{LogFile}
use Rattle.amo_host.specs.Calls.{Request, TryLock, Put, Owe, Pay, ReadOn, Call, Tried, HasUnlocked, Loaded, Stored, PassedOver, HasPut, HasOwed, HasRead, Heard, Fell, request_of}
use Rattle.amo_host.specs.Logs.{Logs, journals_from, logs_after, others}
use Rattle.amo_host.specs.Phase.{Identity, Phase, Starts, Asks, Idle, Begins, Joins, Reads, Works, Clears, Unclear, Over, Stays, Ended}
use Rattle.amo_host.specs.Protocol.{line_at, effect_of, stage_by, job_is_clear, reads_on, reads_first, unread, fails, phase_after}
use Rattle.amo_runner_protocol.specs.Lines.{reply_heard}
use Rattle.amo_program_safety.proofs.Holding.{HasPutIt}
use Rattle.amo_program_safety.proofs.Outside.{IsBefore, StaysBefore, none_before}

-- ---- stages

-- the attempt whose outcome is about to be recorded
abbrev pub noted_at : Stage → Option ℕ
noted_at (Noting s a c way) = Some s
noted_at (Settling s c way rest) = Some s
noted_at st = None

abbrev pub noted_in : Phase → Option ℕ
noted_in (Asks me st) = noted_at st
noted_in (Works me jobs st owes logs) = noted_at st
noted_in (Unclear s) = Some s
noted_in ph = None

-- the reply is an outcome of the attempt of this serial number
abbrev pub IsOutcome : Reply → ℕ → Type 0
IsOutcome reply n = (result : JobResult) × (way : Way) × (reply ≡ Answered n result way)

abbrev pub HasHeard : Call → ℕ → Type 0
HasHeard (Heard line reply) n = IsOutcome (reply_heard reply) n
HasHeard c n = ⊥

abbrev DeedHeard : Deed → ℕ → Type 0
DeedHeard (Performed m j reply) n = IsOutcome reply n
DeedHeard (Asked m line reply) n = IsOutcome reply n
DeedHeard d n = ⊥

some_is : {a b : ℕ} → Some a ≡ Some b → a ≡ b
some_is e = cc

-- The stage notes an attempt that it noted before, an attempt that it has declined, or an attempt
-- whose outcome a runner has reported.
abbrev StageNotes : Stage → Deed → ℕ → Type 0
StageNotes st d n = (noted_at st ≡ Some n) ⊎ (HasPutIt st n ⊎ DeedHeard d n)

notes_none : (st st' : Stage) (d : Deed) (n : ℕ) → noted_at st' ≡ None → noted_at st' ≡ Some n → StageNotes st d n
notes_none st st' d n none is = absurd (cc (none, is))

either_none : (b : Bool) (x y : Stage) → noted_at x ≡ None → noted_at y ≡ None → noted_at (if b then x else y) ≡ None
either_none true x y hx hy = hx
either_none false x y hx hy = hy

jobs_none : (s : ℕ) (a : ProcessView) (performs doubts : ℕ) → noted_at (stage_by_jobs s a performs doubts) ≡ None
jobs_none s a zero zero = refl
jobs_none s a zero (suc j) = refl
jobs_none s a (suc j) d = refl

heard_none : (s : ℕ) (way : Way) (a : ProcessView) → noted_at (stage_heard s way a) ≡ None
heard_none s Go a = jobs_none s a (told_by a.standing) (doubted_by a.standing)
heard_none s Leave a = either_none (may_leave a.standing) (Leaving a) (Going s a Leave) refl refl

told_none : (w x s : ℕ) (way : Way) (a : ProcessView) → noted_at (stage_told w x s way a) ≡ None
told_none w x s way a = either_none (is_refused a.standing) (Refused w x) (stage_heard s way a) refl (heard_none s way a)

if_heard : (k s : ℕ) (c : JobResult) (way : Way) (x y : Stage) (n : ℕ) → noted_at x ≡ Some s → noted_at y ≡ None → noted_at (if k == s then x else y) ≡ Some n
    → IsOutcome (Answered k c way) n
if_heard k s c way x y n hx hy is = ⊎_elim
    (λ (e : k ≡ s).
    let now : noted_at x ≡ Some n = subst (λ (b : Bool). noted_at (if b then x else y) ≡ Some n) (eq-eqb k s e) is in
    (c, way, ap (λ m. Answered m c way) (e ∙ some_is (sym hx ∙ now))))
    (λ (ne : k ≡ s → ⊥).
    let now : noted_at y ≡ Some n = subst (λ (b : Bool). noted_at (if b then x else y) ≡ Some n) (ne_eqb k s ne) is in
    absurd (cc (hy, now)))
    (cases_eq k s)

replied_notes : (s : ℕ) (a : ProcessView) (reply : Reply) (n : ℕ) → noted_at (stage_replied s a reply) ≡ Some n → IsOutcome reply n
replied_notes s a (Answered k c way) n is = if_heard k s c way (Noting s a c way) (Unanswered s (Answered k c way)) n refl refl is
replied_notes s a (Running k way) n is =
    let none : noted_at (stage_replied s a (Running k way)) ≡ None = either_none (k == s) (Going (s + 1) a way) (Unanswered s (Running k way)) refl refl in
    absurd (cc (none, is))
replied_notes s a Garbled n is = absurd (cc is)
replied_notes s a Closed n is = absurd (cc is)

asking_none : (way : Way) (is : List Intent) → noted_at (stage_asking way is) ≡ None
asking_none Go is = refl
asking_none Leave is = refl

asked_notes : (is : List Intent) (reply : Reply) (n : ℕ) → noted_at (stage_asked is reply) ≡ Some n → IsOutcome reply n
asked_notes [] reply n at = absurd (cc at)
asked_notes (i ∷ is) (Answered k c way) n at = if_heard k i.serial c way (Settling i.serial c way is) (Unanswered i.serial (Answered k c way)) n refl refl at
asked_notes (i ∷ is) (Running k way) n at =
    let none : noted_at (stage_asked (i ∷ is) (Running k way)) ≡ None =
    either_none (k == i.serial) (stage_asking way is) (Unanswered i.serial (Running k way)) (asking_none way is) refl in
    absurd (cc (none, at))
asked_notes (i ∷ is) Garbled n at = absurd (cc at)
asked_notes (i ∷ is) Closed n at = absurd (cc at)

cleared_notes : (s : ℕ) (a : ProcessView) (j : ℕ) (clear : Bool) (n : ℕ) → noted_at (stage_cleared s a j clear) ≡ Some n → s ≡ n
cleared_notes s a j true n is = absurd (cc is)
cleared_notes s a j false n is = some_is is

stage_notes : (st : Stage) (d : Deed) (n : ℕ) → noted_at (stage_after st d) ≡ Some n → StageNotes st d n
stage_notes st (HasFallen t) n is = absurd (cc is)
stage_notes (Going s a way) (WasLoaded w x) n is =
    notes_none (Going s a way) (stage_told w x s way (process_after a x)) (WasLoaded w x) n (told_none w x s way (process_after a x)) is
stage_notes (Going s a way) (WasStored w x) n is =
    notes_none (Going s a way) (stage_told w x s way (process_after a 0)) (WasStored w x) n (told_none w x s way (process_after a 0)) is
stage_notes (Finding s a j) (Found i) n is = absurd (cc is)
stage_notes (Intending s a j) (Intended m i) n is = absurd (cc is)
stage_notes (Clearing s a j) (Cleared m i clear) n is = inr (inl (cleared_notes s a j clear n is))
stage_notes (Performing s a j) (Performed m i reply) n is = inr (inr (replied_notes s a reply n is))
stage_notes (Noting s a c way) (Noted m d) n is = absurd (cc is)
stage_notes (Leaving a) (WasStored w x) n is = absurd (cc is)
stage_notes (Asking intents) (Asked m line reply) n is = inr (inr (asked_notes intents reply n is))
stage_notes (Settling s c way rest) (Noted m d) n is = notes_none (Settling s c way rest) (stage_asking way rest) (Noted m d) n (asking_none way rest) is
stage_notes st d n is = inl is

load_none : (w : ℕ) (c : Call) (n : ℕ) → DeedHeard (effect_of (Load w) c) n → ⊥
load_none w (Loaded register value) n h = h
load_none w c n h = h

store_none : (w x : ℕ) (c : Call) (n : ℕ) → DeedHeard (effect_of (Store w x) c) n → ⊥
store_none w x (Stored register value) n h = h
store_none w x c n h = h

find_none : (j : ℕ) (c : Call) (n : ℕ) → DeedHeard (effect_of (Find j) c) n → ⊥
find_none j (PassedOver job) n h = h
find_none j c n h = h

intend_none : (s j : ℕ) (c : Call) (n : ℕ) → DeedHeard (effect_of (Intend s j) c) n → ⊥
intend_none s j (HasPut entry) n h = h
intend_none s j c n h = h

note_none : (s : ℕ) (o : JobResult) (c : Call) (n : ℕ) → DeedHeard (effect_of (Note s o) c) n → ⊥
note_none s o (HasPut entry) n h = h
note_none s o (HasOwed entry) n h = h
note_none s o c n h = h

perform_heard : (s j : ℕ) (c : Call) (n : ℕ) → DeedHeard (effect_of (Perform s j) c) n → HasHeard c n
perform_heard s j (Heard line reply) n h = h
perform_heard s j c n h = absurd h

ask_heard : (s line : ℕ) (c : Call) (n : ℕ) → DeedHeard (effect_of (Ask s line) c) n → HasHeard c n
ask_heard s line (Heard said reply) n h = h
ask_heard s line c n h = absurd h

clear_none : (s j : ℕ) (c : Call) (n : ℕ) → DeedHeard (effect_of (Clear s j) c) n → ⊥
clear_none s j c n h = h

heard_by : (t : Try) (c : Call) (n : ℕ) → DeedHeard (effect_of t c) n → HasHeard c n
heard_by (Load w) c n h = absurd (load_none w c n h)
heard_by (Store w x) c n h = absurd (store_none w x c n h)
heard_by (Find j) c n h = absurd (find_none j c n h)
heard_by (Intend s j) c n h = absurd (intend_none s j c n h)
heard_by (Clear s j) c n h = absurd (clear_none s j c n h)
heard_by (Perform s j) c n h = perform_heard s j c n h
heard_by (Note s o) c n h = absurd (note_none s o c n h)
heard_by (Ask s line) c n h = ask_heard s line c n h

by_notes : (t : Option Try) (st : Stage) (c : Call) (n : ℕ) → noted_at (stage_by t st c) ≡ Some n → (noted_at st ≡ Some n) ⊎ (HasPutIt st n ⊎ HasHeard c n)
by_notes None st c n is = inl is
by_notes (Some t) st c n is = ⊎_elim
    (λ old. inl old)
    (λ new. inr (⊎_elim (λ put. inl put) (λ heard. inr (heard_by t c n heard)) new))
    (stage_notes st (effect_of t c) n is)

-- ---- phases

-- The process may still decline the attempt of this serial number by this call.
abbrev pub MayDecline : Phase → Call → ℕ → Type 0
MayDecline (Asks me st) c n = HasPutIt st n
MayDecline (Works me jobs st owes logs) c n = HasPutIt st n
MayDecline (Clears me jobs s a j logs left) c n = (s ≡ n) × (f : LogFile) × (request_of c ≡ ReadOn f)
MayDecline ph c n = ⊥

abbrev pub PhaseNotes : Phase → Call → Type 0
PhaseNotes ph c = (n : ℕ) → noted_in (phase_after ph c) ≡ Some n → (noted_in ph ≡ Some n) ⊎ (MayDecline ph c n ⊎ HasHeard c n)

noted_before : (ph : Phase) → IsBefore ph → noted_in ph ≡ None
noted_before (Asks me (Asking intents)) before = refl
noted_before (Asks me st) before = absurd before
noted_before (Works me jobs (Going s a way) owes logs) before = refl
noted_before (Works me jobs st owes logs) before = absurd before
noted_before (Unclear s) before = absurd before
noted_before ph before = refl

none_notes : (ph : Phase) (c : Call) → StaysBefore ph → PhaseNotes ph c
none_notes ph c stays n is = absurd (cc (none_before noted_in noted_before ph c stays, is))

asks_notes : (me : Identity) (st : Stage) (c : Call) → PhaseNotes (Asks me st) c
asks_notes me st (Tried lock Shared true) n is = absurd (cc is)
asks_notes me st (Tried lock Exclusive true) n is = absurd (cc is)
asks_notes me st (Tried lock Shared false) n is = inl is
asks_notes me st (Tried lock Exclusive false) n is = inl is
asks_notes me st (Fell (TryLock lock hold)) n is = absurd (cc is)
asks_notes me st c n is = by_notes (due st) st c n is

on_notes : (me : Identity) (jobs : List ℕ) (s : ℕ) (a : ProcessView) (j : ℕ) (logs : Option Logs) (left : List LogFile) (n : ℕ)
    → noted_in (reads_on me jobs s a j logs left) ≡ Some n → s ≡ n
on_notes me jobs s a j None left n is = some_is is
on_notes me jobs s a j (Some logs) (f ∷ left) n is = absurd (cc is)
on_notes me jobs s a j (Some logs) [] n is = cleared_notes s a j (job_is_clear me s (line_at jobs j) logs) n is

reading_notes : (me : Identity) (jobs : List ℕ) (st : Stage) (logs : Logs) (f : LogFile) (texts : List (List ℕ)) (n : ℕ)
    → noted_in (reads_first me jobs st logs f texts) ≡ Some n → HasPutIt st n
reading_notes me jobs (Clearing s a j) logs f texts n is = on_notes me jobs s a j (logs_after logs f texts) (journals_from 1 MAX_WORKERS) n is
reading_notes me jobs st logs f texts n is = absurd (cc is)

unread_notes : (st : Stage) (n : ℕ) → noted_in (unread st) ≡ Some n → HasPutIt st n
unread_notes (Clearing s a j) n is = some_is is
unread_notes st n is = absurd (cc is)

fails_notes : (me : Identity) (jobs : List ℕ) (st : Stage) (owes : Bool) (logs : Logs) (r : Request) (n : ℕ) → noted_in (fails me jobs st owes logs r) ≡ Some n
    → HasPutIt st n
fails_notes me jobs st owes logs (Put entry) n is = absurd (cc is)
fails_notes me jobs st owes logs (Owe entry) n is = absurd (cc is)
fails_notes me jobs st owes logs Pay n is = absurd (cc is)
fails_notes me jobs st owes logs (ReadOn f) n is = unread_notes st n is
fails_notes me jobs st owes logs r n is = absurd (cc is)

works_notes : (me : Identity) (jobs : List ℕ) (st : Stage) (owes : Bool) (logs : Logs) (c : Call) → PhaseNotes (Works me jobs st owes logs) c
works_notes me jobs st owes logs (HasUnlocked lock) n is = absurd (cc is)
works_notes me jobs st owes logs (HasRead f texts) n is = inr (inl (reading_notes me jobs st logs f texts n is))
works_notes me jobs st owes logs (Fell r) n is = inr (inl (fails_notes me jobs st owes logs r n is))
works_notes me jobs st owes logs c n is = by_notes (due st) st c n is

clears_notes : (me : Identity) (jobs : List ℕ) (s : ℕ) (a : ProcessView) (j : ℕ) (logs : Logs) (left : List LogFile) (c : Call)
    → PhaseNotes (Clears me jobs s a j logs left) c
clears_notes me jobs s a j logs left (HasRead f texts) n is = inr (inl (on_notes me jobs s a j (logs_after logs f texts) (others left) n is, f, refl))
clears_notes me jobs s a j logs left (Fell (ReadOn f)) n is = inr (inl (some_is is, f, refl))
clears_notes me jobs s a j logs left c n is = absurd (cc is)

-- After a call, a process is about to record an outcome only in one of three cases. It was about to
-- record the outcome before. Or it has declined the attempt. Or its runner has reported the
-- outcome.
pub phase_notes : (ph : Phase) (c : Call) → PhaseNotes ph c
phase_notes (Starts worker start) c = none_notes (Starts worker start) c tt
phase_notes (Asks me st) c = asks_notes me st c
phase_notes (Idle me logs) c = none_notes (Idle me logs) c tt
phase_notes (Begins me begin) c = none_notes (Begins me begin) c tt
phase_notes (Joins me join) c = none_notes (Joins me join) c tt
phase_notes (Reads me purpose logs counts left) c = none_notes (Reads me purpose logs counts left) c tt
phase_notes (Works me jobs st owes logs) c = works_notes me jobs st owes logs c
phase_notes (Clears me jobs s a j logs left) c = clears_notes me jobs s a j logs left c
phase_notes (Unclear s) c = none_notes (Unclear s) c tt
phase_notes (Over me logs) c = none_notes (Over me logs) c tt
phase_notes (Stays me logs) c = none_notes (Stays me logs) c tt
phase_notes Ended c = none_notes Ended c tt
