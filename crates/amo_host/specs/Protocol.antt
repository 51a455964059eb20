-- The protocol of a run: the calls that each phase of a process allows, and the phase after each
-- call.
use Rattle.std.specs.Prelude.{◌≡◌, ◌⊎◌, ℕ, zero, suc, Bool, true, false, List, [], ◌∷◌, Option, Some, None, slice_get}
use Rattle.amo_params.specs.declared.limits.TheConstants.{MAX_WORKERS}
use Rattle.amo_process.specs.Stepped.{ProcessView}
use Rattle.amo_driver.specs.declared.answer.JobResult.{JobResult}
use Rattle.amo_driver.specs.declared.answer.JobResult.TheVariants.{Done, Doubt, Unbegun, Untouched}
use Rattle.amo_driver.specs.declared.model.Deed.{Deed}
use Rattle.amo_driver.specs.declared.model.Deed.TheVariants.{Loaded as WasLoaded, Stored as WasStored, Found, Intended, Performed, Noted, Asked, Fell as HasFallen}
use Rattle.amo_driver.specs.declared.model.Try.{Try}
use Rattle.amo_driver.specs.declared.model.Try.TheVariants.{Load, Store, Find, Intend, Clear, Perform, Note, Ask}
use Rattle.amo_driver.specs.Course.{due, stage_after, stage_cleared}
use Rattle.amo_driver.specs.Stage.{Stage, Asking, Clearing, Broken}
use Rattle.amo_driver.specs.declared.answer.Way.{Way}
use Rattle.amo_driver.specs.declared.answer.Way.TheVariants.{Go, Leave}
use Rattle.amo_runner_protocol.specs.Lines.{reply_heard}
use Rattle.amo_runner_protocol.specs.Replies.{way_in}
use Rattle.amo_runner_protocol.specs.Sayings.{over_text, perform_text, was_text}
use Rattle.amo_run_files.specs.Jobs.{line_of}
use Rattle.amo_run_log.specs.declared.entry.Entry.{Entry}
use Rattle.amo_run_log.specs.declared.entry.Entry.TheVariants.{Intent, Answer as Answered}
use Rattle.amo_run_log.specs.declared.entry.Outcome.{Outcome}
use Rattle.amo_run_log.specs.declared.entry.Outcome.TheVariants.{Done as DoneAt, Doubt as DoubtAt, Unbegun as NotBegun, Untouched as UntouchedAt}
use Rattle.amo_run_log.specs.Clearance.{is_clear}
use Rattle.amo_host.specs.declared.model.LogFile.{LogFile}
use Rattle.amo_host.specs.declared.model.LogFile.TheVariants.{Answers}
use Rattle.amo_host.specs.declared.model.Hold.{Hold}
use Rattle.amo_host.specs.declared.model.Hold.TheVariants.{Shared, Exclusive}
use Rattle.amo_host.specs.declared.model.RunLock.TheVariants.{Round}
use Rattle.amo_host.specs.Calls.{Request, TryLock, Unlock, CheckFolder, LoadRegister, StoreRegister, PassOver, Put, Owe, Pay, ReadOn, Say, Call, Tried, HasUnlocked, FolderIsKept, Loaded, Stored, PassedOver, HasPut, HasOwed, HasPaid, HasRead, Heard, Fell, request_of}
use Rattle.amo_host.specs.Beginning.{begins_on, MayDo}
use Rattle.amo_host.specs.Joining.{joins_on, MayJoin}
use Rattle.amo_host.specs.Logs.{Logs, journals_from, logs_after, others}
use Rattle.amo_host.specs.Phase.{Identity, Locked, LockedAlone, Phase, Starts, Asks, Idle, Begins, Joins, Reads, Works, Clears, Unclear, Over, Stays, Ended}
use Rattle.amo_host.specs.Reading.{reads_after, MayRead}
use Rattle.amo_host.specs.Starting.{starts_on, MayStart}

-- The line of this job, from 1.
abbrev pub line_at : (jobs : List ℕ) → (job : ℕ) → Option ℕ
line_at jobs zero = None
line_at jobs (suc i) = slice_get jobs i

-- An outcome that came at this time.
abbrev pub outcome_at : (time : ℕ) → JobResult → Outcome
outcome_at time (Done code) = DoneAt code time
outcome_at time Doubt = DoubtAt time
outcome_at time Unbegun = NotBegun
outcome_at time (Untouched code) = UntouchedAt code time

-- The entry of the outcome of the attempt of this serial number.
abbrev pub outcome_entry : (serial time : ℕ) → JobResult → Entry
outcome_entry serial time result = Answered serial (outcome_at time result)

-- In a round, this request carries out what is tried. An attempt is at the line of its job, and the
-- runner gets the text of that line.
abbrev pub CarriesOut : Identity → (jobs : List ℕ) → Try → Request → Type 0
CarriesOut me jobs (Load w) r = r ≡ LoadRegister w
CarriesOut me jobs (Store w v) r = r ≡ StoreRegister w v
CarriesOut me jobs (Find j) r = r ≡ PassOver j
CarriesOut me jobs (Intend s j) r = (line : ℕ) × (time : ℕ) × (line_at jobs j ≡ Some line) × (r ≡ Put (Intent s line time))
CarriesOut me jobs (Clear s j) r = r ≡ ReadOn Answers
CarriesOut me jobs (Perform s j) r = (line : ℕ) × (text : List ℕ) × (line_at jobs j ≡ Some line) × (line_of me.lines line ≡ Some text) × (r ≡ Say (perform_text s line text))
CarriesOut me jobs (Note s c) r = (time : ℕ) × (r ≡ Owe (outcome_entry s time c))
CarriesOut me jobs (Ask s line) r = ⊥

-- Before a round, while it asks what became of earlier attempts, this request carries out what is
-- tried. An outcome is recorded at once.
abbrev pub CarriesOutBefore : Identity → Try → Request → Type 0
CarriesOutBefore me (Note s c) r = (time : ℕ) × (r ≡ Put (outcome_entry s time c))
CarriesOutBefore me (Ask s line) r = (text : List ℕ) × (line_of me.lines line ≡ Some text) × (r ≡ Say (was_text s line text))
CarriesOutBefore me t r = ⊥

-- The effect of a call that carries out this.
abbrev pub effect_of : Try → Call → Deed
effect_of (Load w) (Loaded register value) = WasLoaded w value
effect_of (Store w v) (Stored register value) = WasStored w v
effect_of (Find j) (PassedOver job) = Found j
effect_of (Intend s j) (HasPut entry) = Intended s j
effect_of (Perform s j) (Heard line reply) = Performed s j (reply_heard reply)
effect_of (Note s c) (HasPut entry) = Noted s c
effect_of (Note s c) (HasOwed entry) = Noted s c
effect_of (Ask s line) (Heard said reply) = Asked s line (reply_heard reply)
effect_of t c = HasFallen t

-- The stage after a call that carries out what was due.
abbrev pub stage_by : Option Try → Stage → Call → Stage
stage_by None st c = st
stage_by (Some t) st c = stage_after st (effect_of t c)

-- Whether the line of this job is clear for the attempt of this serial number, by what was read.
abbrev pub job_is_clear : Identity → (serial : ℕ) → (line : Option ℕ) → Logs → Bool
job_is_clear me serial None logs = false
job_is_clear me serial (Some line) logs = is_clear logs.findings logs.journals (record { worker = me.worker; serial = serial }) line

-- The phase after more was read: it reads on what is left, and then it knows whether the line is
-- clear.
abbrev pub reads_on : Identity → (jobs : List ℕ) → (serial : ℕ) → ProcessView → (job : ℕ) → Option Logs → (left : List LogFile) → Phase
reads_on me jobs s a j None left = Unclear s
reads_on me jobs s a j (Some logs) (f ∷ left) = Clears me jobs s a j logs (f ∷ left)
reads_on me jobs s a j (Some logs) [] = Works me jobs (stage_cleared s a j (job_is_clear me s (line_at jobs j) logs)) false logs

-- The phase after the answers were read: the journals of all workers are left.
abbrev pub reads_first : Identity → (jobs : List ℕ) → Stage → Logs → LogFile → List (List ℕ) → Phase
reads_first me jobs (Clearing s a j) logs f texts = reads_on me jobs s a j (logs_after logs f texts) (journals_from 1 MAX_WORKERS)
reads_first me jobs st logs f texts = Ended

-- Whether it owes an outcome after a call.
abbrev pub owes_after : Bool → Call → Bool
owes_after owes (HasOwed entry) = true
owes_after owes (HasPut entry) = false
owes_after owes HasPaid = false
owes_after owes c = owes

-- The phase after a log couldn't be read on.
abbrev pub unread : Stage → Phase
unread (Clearing s a j) = Unclear s
unread st = Ended

-- The phase in a round after this has failed: after an append that failed nothing more is appended.
abbrev pub fails : Identity → (jobs : List ℕ) → Stage → (owes : Bool) → Logs → Request → Phase
fails me jobs st owes logs (Put entry) = Ended
fails me jobs st owes logs (Owe entry) = Ended
fails me jobs st owes logs Pay = Ended
fails me jobs st owes logs (ReadOn f) = unread st
fails me jobs st owes logs r = Works me jobs Broken owes logs

-- The phase after a call in a round.
abbrev pub works_on : Identity → (jobs : List ℕ) → Stage → (owes : Bool) → Logs → Call → Phase
works_on me jobs st owes logs (HasUnlocked lock) = Over me logs
works_on me jobs st owes logs (HasRead f texts) = reads_first me jobs st logs f texts
works_on me jobs st owes logs (Fell r) = fails me jobs st owes logs r
works_on me jobs st owes logs c = Works me jobs (stage_by (due st) st c) (owes_after owes c) logs

-- The phase after a call by which it asks whether a line is clear.
abbrev pub clears_on : Identity → (jobs : List ℕ) → (serial : ℕ) → ProcessView → (job : ℕ) → Logs → (left : List LogFile) → Call → Phase
clears_on me jobs s a j logs left (HasRead f texts) = reads_on me jobs s a j (logs_after logs f texts) (others left)
clears_on me jobs s a j logs left (Fell (ReadOn f)) = Unclear s
clears_on me jobs s a j logs left c = Ended

-- The phase after a process has tried the lock of the round. It was in the phase `from`, and in no
-- round. It joins a round if it shares the lock, and begins one if it has the lock alone.
abbrev pub locked_if : (from : Phase) → Identity → Option Logs → Hold → Bool → Phase
locked_if from me prior Shared true = Joins me (Locked prior)
locked_if from me prior Exclusive true = Begins me (LockedAlone prior)
locked_if from me prior hold false = from

-- The phase after a call of a process that asks for earlier attempts, or has asked for all of them.
abbrev pub asks_on : Identity → Stage → Call → Phase
asks_on me st (Tried lock hold got) = locked_if (Asks me st) me None hold got
asks_on me st (Fell (TryLock lock hold)) = Ended
asks_on me st c = Asks me (stage_by (due st) st c)

-- The phase after a call of a process that is in no round.
abbrev pub idles_on : Identity → Logs → Call → Phase
idles_on me logs (Tried lock hold got) = locked_if (Idle me logs) me (Some logs) hold got
idles_on me logs c = Ended

-- The reply to `over` that this line is, without its end. If no whole line came, it is no reply.
abbrev pub over_way : Option (List ℕ) → Option Way
over_way (Some line) = way_in line
over_way None = None

-- The phase after the runner has replied to `over`.
abbrev pub stays_if : Identity → Logs → Option Way → Phase
stays_if me logs (Some Go) = Stays me logs
stays_if me logs (Some Leave) = Ended
stays_if me logs None = Ended

-- The phase after a call of a process whose part of the round is over.
abbrev pub over_on : Identity → Logs → Call → Phase
over_on me logs (Heard line reply) = stays_if me logs (over_way reply)
over_on me logs c = Ended

-- The phase after a call of a process that stays.
abbrev pub stays_on : Identity → Logs → Call → Phase
stays_on me logs FolderIsKept = Idle me logs
stays_on me logs c = Ended

-- The phase after a call.
abbrev pub phase_after : Phase → Call → Phase
phase_after (Starts worker start) c = starts_on worker start c
phase_after (Asks me st) c = asks_on me st c
phase_after (Idle me logs) c = idles_on me logs c
phase_after (Begins me begin) c = begins_on me begin c
phase_after (Joins me join) c = joins_on me join c
phase_after (Reads me purpose logs counts left) c = reads_after me purpose logs counts left c
phase_after (Works me jobs st owes logs) c = works_on me jobs st owes logs c
phase_after (Clears me jobs s a j logs left) c = clears_on me jobs s a j logs left c
phase_after (Unclear s) c = Ended
phase_after (Over me logs) c = over_on me logs c
phase_after (Stays me logs) c = stays_on me logs c
phase_after Ended c = Ended

-- In no round, it may try the lock of the round.
abbrev pub MayTryRound : Request → Type 0
MayTryRound r = (hold : Hold) × (r ≡ TryLock Round hold)

-- Before a round it may carry out what is due. Once it has asked for all earlier attempts, it may
-- try the lock of the round.
abbrev pub MayAsk : Identity → Stage → Request → Type 0
MayAsk me st r = ((t : Try) × (due st ≡ Some t) × CarriesOutBefore me t r) ⊎ ((st ≡ Asking []) × MayTryRound r)

-- In a round it may carry out what is due. If nothing is, it may append what it owes, and then
-- unlock the round.
abbrev pub MayWork : Identity → (jobs : List ℕ) → Stage → (owes : Bool) → Request → Type 0
MayWork me jobs st owes r =
    ((t : Try) × (due st ≡ Some t) × CarriesOut me jobs t r) ⊎ ((due st ≡ None) × ((r ≡ Pay) ⊎ ((owes ≡ false) × (r ≡ Unlock Round))))

-- It may read on what is next, or record that the attempt was not started.
abbrev pub MayClear : (serial : ℕ) → (left : List LogFile) → Request → Type 0
MayClear s [] r = ⊥
MayClear s (f ∷ left) r = (r ≡ ReadOn f) ⊎ (r ≡ Put (outcome_entry s 0 Unbegun))

-- The calls that a phase allows.
abbrev pub Allows : Phase → Request → Type 0
Allows (Starts worker start) r = MayStart worker start r
Allows (Asks me st) r = MayAsk me st r
Allows (Idle me logs) r = MayTryRound r
Allows (Begins me begin) r = MayDo me begin r
Allows (Joins me join) r = MayJoin join r
Allows (Reads me purpose logs counts left) r = MayRead purpose left r
Allows (Works me jobs st owes logs) r = MayWork me jobs st owes r
Allows (Clears me jobs s a j logs left) r = MayClear s left r
Allows (Unclear s) r = r ≡ Put (outcome_entry s 0 Unbegun)
Allows (Over me logs) r = r ≡ Say over_text
Allows (Stays me logs) r = r ≡ CheckFolder
Allows Ended r = ⊥

-- It is in a phase that allows this.
abbrev pub MayCall : (Phase → Type 0) → Request → Type 0
MayCall stands r = (ph : Phase) × stands ph × Allows ph r

-- A call that a phase allows leads to the phase after it.
abbrev pub Moves : (before after : Phase → Type 0) → Call → Type 0
Moves before after c = (ph : Phase) → before ph → Allows ph (request_of c) → after (phase_after ph c)

-- It is in a phase: so each of its calls was allowed.
abbrev pub Lives : (Phase → Type 0) → Type 0
Lives stands = (ph : Phase) × stands ph

-- Each of these calls was allowed by the phase before it, the first of which is this one.
abbrev pub AreAllowed : Phase → List Call → Type 0
AreAllowed ph [] = Unit {0}
AreAllowed ph (c ∷ cs) = Allows ph (request_of c) × AreAllowed (phase_after ph c) cs

-- The phase after all of them.
abbrev pub phase_after_all : Phase → List Call → Phase
phase_after_all ph [] = ph
phase_after_all ph (c ∷ cs) = phase_after_all (phase_after ph c) cs

-- A process that was in the phase `first` has since made these calls, each of which was allowed,
-- and is in this phase.
abbrev pub Stands : (first : Phase) → List Call → Phase → Type 0
Stands first cs ph = AreAllowed first cs × (phase_after_all first cs ≡ ph)
