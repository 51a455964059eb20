-- Which calls the phases of an operator's command allow, and which phase follows.
use Rattle.std.specs.Prelude.{◌≡◌, ◌⊎◌, ℕ, Bool, true, false, List, [], ◌∷◌, ◌++◌, length, Option, Some, None}
use Rattle.amo_run_files.specs.declared.round_file.RoundFile.{RoundFile}
use Rattle.amo_run_log.specs.declared.finding.Finding.{Finding}
use Rattle.amo_status.specs.declared.state.AttemptId.{AttemptId}
use Rattle.amo_host.specs.declared.model.LogFile.TheVariants.{Answers, Journal as JournalFile}
use Rattle.amo_operator.specs.declared.model.Command.{Command}
use Rattle.amo_operator.specs.declared.model.Command.TheVariants.{Status, Doubts, Answer, Again}
use Rattle.amo_operator.specs.declared.model.OperatorLock.TheVariants.{Answers as AnswersLock, Journal, Runner, Command as CommandLock}
use Rattle.amo_operator.specs.Calls.{Request, TryLock, Unlock, UnlockAll, CheckFolder, ReadRound, ReadLog, Recover, ReadJobs, ReadClock, PutDoubt, RemoveCommandFile, PutAnswer, Print}
use Rattle.amo_operator.specs.Calls.{Call, Tried, HasUnlocked, HasUnlockedAll, FolderIsKept, RoundIs, LogIs, Recovered, JobsAre, TimeIs, HasPutDoubt, HasRemoved, HasPutAnswer, HasPrinted, request_of}
use Rattle.amo_operator.specs.Phase.{Known, Texts, Phase, Enters, Guards, Checked, HasHeader, Reads, Checks, Settles, Looks, Behind, Pends, Idles, Rests, Probes, Finds, Dates, Records, Reports, Prints, Waits, Puts, Ended}
use Rattle.amo_operator.specs.Judging.{Judged, again_at, judged_all, none_judged}
use Rattle.amo_operator.specs.Knowing.{all_workers, and_journal, known_in, pending_of, pends, with_doubt, with_final, with_journal, without_records}
use Rattle.amo_operator.specs.Reports.{doubts_of, status_of}

-- Whether a command only looks at the run: it may do so without the lock of the answers.
abbrev pub only_looks : Command → Bool
only_looks (Status form) = true
only_looks (Doubts form) = true
only_looks (Answer said quiet) = false
only_looks Again = false

-- Whether a command records the attempts that it finds final as in doubt.
abbrev pub records_doubts : Command → Bool
records_doubts (Status form) = false
records_doubts (Doubts form) = true
records_doubts (Answer said quiet) = true
records_doubts Again = false

-- Whether a command must not be carried out on a run that was given up.
abbrev pub must_be_kept : Command → Bool
must_be_kept Again = true
must_be_kept command = false

-- The phase after the lock of the answers was tried.
abbrev pub enters_if : Command → (got : Bool) → Phase
enters_if command true = Guards command
enters_if command false = Enters command true

-- The phase after a call of one that has no lock.
abbrev pub enters_on : Command → Call → Phase
enters_on command (Tried lock got) = enters_if command got
enters_on command (FolderIsKept kept) = Checked command
enters_on command c = Ended

-- The phase after a call that checks the folder.
abbrev pub checks_on : Command → Call → Phase
checks_on command (FolderIsKept kept) = Checked command
checks_on command c = Ended

-- The phase after the call that reads the header.
abbrev pub header_on : Command → Call → Phase
header_on command (RoundIs last) = HasHeader command last
header_on command c = Ended

-- The phase once no log is found damaged, by whether the command only looks.
abbrev pub has_read : Command → Option RoundFile → Texts → (looks : Bool) → Phase
has_read command last t true = Looks command last t all_workers
has_read command last t false = Settles command last t

-- The phase once these were read, and the journals of these workers are left.
abbrev pub reads_to : Command → Option RoundFile → Texts → (left : List ℕ) → Phase
reads_to command last t [] = Checks command last t
reads_to command last t (w ∷ left) = Reads command last t (w ∷ left)

-- The phase after the call that reads the answers.
abbrev pub answers_on : Command → Option RoundFile → Call → Phase
answers_on command last (LogIs log from texts) = reads_to command last (record { answers = texts; journals = []; alive = []; idle = [] }) all_workers
answers_on command last c = Ended

-- The phase after the call that reads a journal.
abbrev pub reads_on : Command → Option RoundFile → Texts → (left : List ℕ) → Call → Phase
reads_on command last t (w ∷ left) (LogIs log from texts) = reads_to command last (and_journal t texts) left
reads_on command last t left c = Ended

-- The phase once the lines were read, if by them all logs can be read.
abbrev pub sound_if : Command → Option RoundFile → Texts → Option Known → Phase
sound_if command last t None = Ended
sound_if command last t (Some k) = has_read command last t (only_looks command)

-- The phase after the call that reads the lines.
abbrev pub sound_on : Command → Option RoundFile → Texts → Call → Phase
sound_on command last t (JobsAre from lines) = sound_if command last t (known_in (length lines) lines t (records_doubts command))
sound_on command last t c = Ended

-- The phase after the call that recovers the answers.
abbrev pub settles_on : Command → Option RoundFile → Texts → Call → Phase
settles_on command last t (Recovered log from texts) = Looks command last (record t { answers = texts }) all_workers
settles_on command last t c = Ended

-- The phase after the lock of a journal was tried.
abbrev pub looks_if : Command → Option RoundFile → Texts → (worker : ℕ) → (left : List ℕ) → (got : Bool) → Phase
looks_if command last t w left true = Behind command last t w left
looks_if command last t w left false = Looks command last (record t { alive = t.alive ++ w ∷ [] }) left

-- The phase once all that the run has written down is known, if it can be read.
abbrev pub probes_if : Command → (idle : List ℕ) → Option Known → Phase
probes_if command idle None = Ended
probes_if command idle (Some k) = Probes command k (pending_of idle k.journals)

-- The phase after the call that tries a worker's lock, or reads the lines again.
abbrev pub looks_on : Command → Option RoundFile → Texts → (left : List ℕ) → Call → Phase
looks_on command last t [] (JobsAre from lines) = probes_if command t.idle (known_in (length lines) lines t (records_doubts command))
looks_on command last t (w ∷ left) (Tried lock got) = looks_if command last t w left got
looks_on command last t left c = Ended

-- The phase after a journal was read behind its lock, by whether an attempt is pending.
abbrev pub behind_if : Command → Option RoundFile → Texts → (worker : ℕ) → (left : List ℕ) → Option Bool → Phase
behind_if command last t w left (Some true) = Pends command last t w left
behind_if command last t w left (Some false) = Rests command last t w left
behind_if command last t w left None = Ended

-- The phase after the call that reads a journal under its lock.
abbrev pub behind_on : Command → Option RoundFile → Texts → (worker : ℕ) → (left : List ℕ) → Call → Phase
behind_on command last t w left (LogIs log from texts) = behind_if command last (with_journal t w texts) w left (pends texts)
behind_on command last t w left c = Ended

-- The phase after the lock of a runner was tried.
abbrev pub pends_if : Command → Option RoundFile → Texts → (worker : ℕ) → (left : List ℕ) → (got : Bool) → Phase
pends_if command last t w left true = Idles command last t w left
pends_if command last t w left false = Rests command last t w left

-- The phase after the call that tries the lock of a runner.
abbrev pub pends_on : Command → Option RoundFile → Texts → (worker : ℕ) → (left : List ℕ) → Call → Phase
pends_on command last t w left (Tried lock got) = pends_if command last t w left got
pends_on command last t w left c = Ended

-- The phase after the call that recovers a journal under its lock.
abbrev pub idles_on : Command → Option RoundFile → Texts → (worker : ℕ) → (left : List ℕ) → Call → Phase
idles_on command last t w left (Recovered log from texts) = Looks command last (record (with_journal t w texts) { idle = t.idle ++ w ∷ [] }) left
idles_on command last t w left c = Ended

-- The phase after the call that unlocks a journal.
abbrev pub rests_on : Command → Option RoundFile → Texts → (left : List ℕ) → Call → Phase
rests_on command last t left (HasUnlocked worker) = Looks command last t left
rests_on command last t left c = Ended

-- The phase after an attempt was found final, by whether that is to be recorded.
abbrev pub finds_if : Command → Known → AttemptId → (left : List AttemptId) → (records : Bool) → Phase
finds_if command k i left true = Finds command k i left
finds_if command k i left false = Probes command k left

-- The phase after the lock of a command was tried.
abbrev pub probed_if : Command → Known → AttemptId → (left : List AttemptId) → (got : Bool) → Phase
probed_if command k i left true = finds_if command (with_final k i) i left k.records
probed_if command k i left false = Probes command k left

-- The phase once all answers were looked at.
abbrev pub decides : Command → Option Judged → Phase
decides command None = Ended
decides command (Some j) = decided command j j.is_early j.runs
  where
    decided : Command → Judged → Bool → Bool → Phase
    decided command j true runs = Ended
    decided command j false true = Waits command
    decided command j false false = Puts j.fresh

-- The phase once all is known, and the clock shows this time.
abbrev pub acts : Command → Known → (time : ℕ) → Phase
acts (Status form) k time = Reports (status_of form k)
acts (Doubts form) k time = Reports (doubts_of form k time)
acts (Answer said quiet) k time = decides (Answer said quiet) (judged_all k quiet time (none_judged k) said.items)
acts Again k time = Puts (again_at k time)

-- The phase after the call that tries the lock of an attempt, or reads the clock.
abbrev pub probes_on : Command → Known → (left : List AttemptId) → Call → Phase
probes_on command k [] (TimeIs time) = acts command k time
probes_on command k (i ∷ left) (Tried lock got) = probed_if command k i left got
probes_on command k left c = Ended

-- The phase after the call that reads the clock for a doubt.
abbrev pub finds_on : Command → Known → AttemptId → (left : List AttemptId) → Call → Phase
finds_on command k i left (TimeIs time) = Dates command k i time left
finds_on command k i left c = Ended

-- After an append has failed nothing more is recorded.
abbrev pub dates_on : Command → Known → AttemptId → (time : ℕ) → (left : List AttemptId) → Call → Phase
dates_on command k i time left (HasPutDoubt attempt at) = Records command (with_doubt k i time) i left
dates_on command k i time left c = Probes command (without_records k) left

-- The phase after the call that removes the lock of a recorded attempt.
abbrev pub records_on : Command → Known → (left : List AttemptId) → Call → Phase
records_on command k left (HasRemoved attempt) = Probes command k left
records_on command k left c = Ended

-- The phase after the call that gives up all locks before the text is printed.
abbrev pub reports_on : (text : List ℕ) → Call → Phase
reports_on text HasUnlockedAll = Prints text
reports_on text c = Ended

-- The phase after the call that prints a text.
abbrev pub prints_on : Call → Phase
prints_on (HasPrinted text) = Puts []
prints_on c = Ended

-- The phase after the call that gives up all locks before a new try.
abbrev pub waits_on : Command → Call → Phase
waits_on command HasUnlockedAll = Enters command false
waits_on command c = Ended

-- The phase after the call that appends an answer.
abbrev pub puts_on : (left : List Finding) → Call → Phase
puts_on (f ∷ left) (HasPutAnswer answer) = Puts left
puts_on left c = Ended

-- The phase after a call.
abbrev pub phase_after : Phase → Call → Phase
phase_after (Enters command tried) c = enters_on command c
phase_after (Guards command) c = checks_on command c
phase_after (Checked command) c = header_on command c
phase_after (HasHeader command last) c = answers_on command last c
phase_after (Reads command last t left) c = reads_on command last t left c
phase_after (Checks command last t) c = sound_on command last t c
phase_after (Settles command last t) c = settles_on command last t c
phase_after (Looks command last t left) c = looks_on command last t left c
phase_after (Behind command last t w left) c = behind_on command last t w left c
phase_after (Pends command last t w left) c = pends_on command last t w left c
phase_after (Idles command last t w left) c = idles_on command last t w left c
phase_after (Rests command last t w left) c = rests_on command last t left c
phase_after (Probes command k left) c = probes_on command k left c
phase_after (Finds command k i left) c = finds_on command k i left c
phase_after (Dates command k i time left) c = dates_on command k i time left c
phase_after (Records command k i left) c = records_on command k left c
phase_after (Reports text) c = reports_on text c
phase_after (Prints text) c = prints_on c
phase_after (Waits command) c = waits_on command c
phase_after (Puts left) c = puts_on left c
phase_after Ended c = Ended

-- The phase with which a command ends: by the number of an answer that is to an attempt that may
-- still run, if there is one.
abbrev pub ends_as : Command → (running : Option ℕ) → Phase
ends_as command None = Puts []
ends_as command (Some number) = Waits command

-- It may try the lock of the answers. If it only looks, and has tried that, it may go on without
-- it.
abbrev pub MayEnter : Command → (tried : Bool) → Request → Type 0
MayEnter command tried r =
    (r ≡ TryLock AnswersLock) ⊎ ((only_looks command ≡ true) × (tried ≡ true) × (r ≡ CheckFolder (must_be_kept command)))

-- The call by which it reads the next journal.
abbrev pub MayRead : Option RoundFile → (left : List ℕ) → Request → Type 0
MayRead last [] r = ⊥
MayRead last (w ∷ left) r = r ≡ ReadLog (JournalFile w) last

-- It may try the lock of the next journal. Once it has looked at all of them it may read the lines
-- that the run knows.
abbrev pub MayLook : Option RoundFile → (left : List ℕ) → Request → Type 0
MayLook last [] r = r ≡ ReadJobs last
MayLook last (w ∷ left) r = r ≡ TryLock (Journal w)

-- It may try the lock of the command of the next attempt. Once it has looked at all of them it may
-- read the clock.
abbrev pub MayProbe : (left : List AttemptId) → Request → Type 0
MayProbe [] r = r ≡ ReadClock
MayProbe (i ∷ left) r = r ≡ TryLock (CommandLock i.worker i.serial)

-- It may append the next answer.
abbrev pub MayPut : (left : List Finding) → Request → Type 0
MayPut [] r = ⊥
MayPut (f ∷ left) r = r ≡ PutAnswer f

-- The calls that a phase allows.
abbrev pub Allows : Phase → Request → Type 0
Allows (Enters command tried) r = MayEnter command tried r
Allows (Guards command) r = r ≡ CheckFolder (must_be_kept command)
Allows (Checked command) r = r ≡ ReadRound
Allows (HasHeader command last) r = r ≡ ReadLog Answers last
Allows (Reads command last t left) r = MayRead last left r
Allows (Checks command last t) r = r ≡ ReadJobs last
Allows (Settles command last t) r = r ≡ Recover Answers last
Allows (Looks command last t left) r = MayLook last left r
Allows (Behind command last t w left) r = r ≡ ReadLog (JournalFile w) last
Allows (Pends command last t w left) r = r ≡ TryLock (Runner w)
Allows (Idles command last t w left) r = r ≡ Recover (JournalFile w) last
Allows (Rests command last t w left) r = r ≡ Unlock w
Allows (Probes command k left) r = MayProbe left r
Allows (Finds command k i left) r = r ≡ ReadClock
Allows (Dates command k i time left) r = r ≡ PutDoubt i time
Allows (Records command k i left) r = r ≡ RemoveCommandFile i
Allows (Reports text) r = r ≡ UnlockAll
Allows (Prints text) r = r ≡ Print text
Allows (Waits command) r = r ≡ UnlockAll
Allows (Puts left) r = MayPut left r
Allows Ended r = ⊥

-- It is in a phase that allows this.
abbrev pub MayCall : (Phase → Type 0) → Request → Type 0
MayCall stands r = (ph : Phase) × stands ph × Allows ph r

-- A call that a phase allows leads to the phase after it.
abbrev pub Moves : (before after : Phase → Type 0) → Call → Type 0
Moves before after c = (ph : Phase) → before ph → Allows ph (request_of c) → after (phase_after ph c)

-- It is in a phase: so each of its calls was allowed.
abbrev pub Lives : (Phase → Type 0) → Type 0
Lives stands = (ph : Phase) × stands ph

-- Each of these calls was allowed by the phase before it, the first of which is this one.
abbrev pub AreAllowed : Phase → List Call → Type 0
AreAllowed ph [] = Unit {0}
AreAllowed ph (c ∷ cs) = Allows ph (request_of c) × AreAllowed (phase_after ph c) cs

-- The phase after all of them.
abbrev pub phase_after_all : Phase → List Call → Phase
phase_after_all ph [] = ph
phase_after_all ph (c ∷ cs) = phase_after_all (phase_after ph c) cs

-- A process that was in the phase `first` has since made these calls, each of which was allowed,
-- and is in this phase.
abbrev pub Stands : (first : Phase) → List Call → Phase → Type 0
Stands first cs ph = AreAllowed first cs × (phase_after_all first cs ≡ ph)
