-- Facts about a world and the site that goes with it. The site is a state of the model by journals
-- alone.
use Rattle.std.proofs.Common.{◌≡◌, ◌⊎◌, ◌≤◌, ◌<◌, ◌^◌, ℕ, suc, List, [], ◌∷◌, ◌++◌, length, map, Option, Some, None}
use Rattle.std.specs.Prelude.{⊤, true, slice_get}
use Rattle.amo_safety_by_journals.specs.Model.{Handing, IsOneOf, Away, Free, Clearing as ModelClearing, Site, line_of}
use Rattle.amo_safety_by_journals.specs.Runs.{HasSeenAll}
use Rattle.amo_driver.specs.Stage.{Stage, Going, Finding, Intending, Clearing, Performing, Noting, Leaving, Asking, Settling, Dismissed, Gone, Unanswered, Refused, Broken}
use Rattle.amo_driver.specs.declared.answer.JobResult.{JobResult}
use Rattle.amo_driver.specs.declared.answer.JobResult.TheVariants.{Unbegun}
use Rattle.amo_driver.specs.declared.past.Intent.{Intent as Pending}
use Rattle.amo_params.specs.declared.limits.TheConstants.{MAX_WORKERS}
use Rattle.amo_host.specs.declared.model.LogFile.{LogFile}
use Rattle.amo_host.specs.declared.model.LogFile.TheVariants.{Answers, Journal}
use Rattle.amo_host.specs.Calls.{Request, Put}
use Rattle.amo_host.specs.Logs.{Logs}
use Rattle.amo_host.specs.Phase.{Start, Unborn, Guards, Checked, Knows as KnowsRound, HasRecovered, Settled as HasSettled, Join, Locked, Booted, HasHeader, HasJobs, Seated, Begin, LockedAlone, BootedAlone, HasLast, KnowsJobs, ListHasGrown, KnowsAll, RoundMade, RegistersMade, Purpose, ToWork, ToBegin, Phase, Starts, Asks, Idle, Begins, Joins, Reads, Works, Clears, Unclear, Over, Stays, Ended}
use Rattle.amo_host.specs.Protocol.{line_at}
use Rattle.amo_run_log.specs.declared.entry.Entry.{Entry}
use Rattle.amo_run_log.specs.declared.entry.Entry.TheVariants.{Answer as Answered}
use Rattle.amo_run_log.specs.declared.entry.Outcome.{Outcome}
use Rattle.amo_run_log.specs.declared.entry.Outcome.TheVariants.{Unbegun as NotBegun}
use Rattle.amo_run_log.specs.declared.finding.Finding.{Finding as Answer}
use Rattle.amo_run_log.specs.declared.finding.Resolution.TheVariants.{NotDone}
use Rattle.amo_run_log.specs.declared.journal.Attempt.{Attempt}
use Rattle.amo_run_log.specs.Clearance.{any_stands}
use Rattle.amo_run_log.specs.Entries.{append_in}
use Rattle.amo_run_log.specs.Findings.{finding_in, is_undone}
use Rattle.amo_run_log.specs.Open.{IsAnswer}
use Rattle.amo_program_safety.specs.Texts.{entries_of, lines_in}
use Rattle.amo_program_safety.specs.World.{Log, Process, World, text_by}
use Rattle.amo_program_safety.specs.Runs.{FitsRequest, IsFirst, IsNamed}
use Rattle.amo_program_safety.proofs.Texts.{AreOpened}

abbrev pub IsOpened : Site → (worker serial : ℕ) → Type 0
IsOpened v q s = IsOneOf v.opened (record { worker = q; serial = s })

-- The intent of this attempt is kept.
abbrev pub IsKept : Site → (worker serial : ℕ) → Type 0
IsKept v q s = (line : ℕ) × (line_of (v.kept q) s ≡ Some line)

-- The intent of this attempt is kept, and the model's process of this worker doesn't hold the
-- attempt. So that process never holds the attempt again.
abbrev pub Settled : Site → (worker serial : ℕ) → Type 0
Settled v q s = IsKept v q s × ((line : ℕ) (seen : List ℕ) → v.stage q ≡ ModelClearing s line seen → ⊥)

-- ---- the texts that a process has read

pub record Knows (v : Site) (read : LogFile → List (List ℕ)) (logs : Logs) : Type 0 where
  pub len : length logs.journals ≡ MAX_WORKERS
  pub lines : (k : ℕ) (es : List Attempt) → slice_get logs.journals k ≡ Some es → map (λ (a : Attempt). a.line) es ≡ lines_in (read (Journal (suc k)))
  pub opened : (k : ℕ) (es : List Attempt) → slice_get logs.journals k ≡ Some es → AreOpened (λ s. IsOpened v (suc k) s) es
  pub undone : (worker serial : ℕ) → is_undone logs.findings worker serial ≡ true → IsOpened v worker serial

abbrev pub Unread : (LogFile → List (List ℕ)) → Type 0
Unread read = (f : LogFile) → read f ≡ []

abbrev pub KnowsPrior : Site → (LogFile → List (List ℕ)) → Option Logs → Type 0
KnowsPrior v read None = Unread read
KnowsPrior v read (Some logs) = Knows v read logs

-- ---- the lock and the attempt that a process has

-- The text that a process has written and doesn't know to be on the disk, as a list. The list is
-- empty if the process has written no text.
abbrev pub rest_if : Option (List ℕ) → List (List ℕ)
rest_if None = []
rest_if (Some text) = text ∷ []

abbrev pub rest_by : (owed : Option Entry) → Option Request → List (List ℕ)
rest_by owed None = []
rest_by owed (Some r) = rest_if (text_by owed r)

-- The process has the lock on its journal. Each append there that is not known to be on the disk is
-- its own.
pub record Owns (w : World) (pid : ℕ) (p : Process) : Type 0 where
  pub guard : w.guard p.worker ≡ Some pid
  pub rest : (w.logs (Journal p.worker)).rest ≡ rest_by p.owed p.writes

-- The process has the lock on its journal, and attempts no line in the model.
pub record Quiet (w : World) (v : Site) (pid : ℕ) (p : Process) : Type 0 where
  pub owns : Owns w pid p
  pub free : v.stage p.worker ≡ Free

-- The process has the lock on its journal, and has not recovered the journal yet.
pub record Fresh (w : World) (v : Site) (pid : ℕ) (p : Process) : Type 0 where
  pub guard : w.guard p.worker ≡ Some pid
  pub away : v.stage p.worker ≡ Away
  pub idle : p.writes ≡ None

-- The intent of the process for this line is kept, and the attempt was not handed over. In the
-- model, the process has looked at the journals `seen`.
pub record Holds (w : World) (v : Site) (pid : ℕ) (p : Process) (jobs : List ℕ) (s j line : ℕ) (seen : List ℕ) : Type 0 where
  pub owns : Owns w pid p
  pub stage : v.stage p.worker ≡ ModelClearing s line seen
  pub serial : s ≡ length (v.kept p.worker)
  pub kept : line_of (v.kept p.worker) s ≡ Some line
  pub job : line_at jobs j ≡ Some line
  pub first : IsFirst w p.worker s
  -- The process has written no append in a call that has not ended.
  pub idle : p.writes ≡ None
  pub fits : (s < 2 ^ 64) × (line < 2 ^ 64)

-- The process has handed its attempt over.
pub record Gave (w : World) (v : Site) (pid : ℕ) (p : Process) (s : ℕ) : Type 0 where
  pub quiet : Quiet w v pid p
  pub serial : s ≡ length (v.kept p.worker)
  pub kept : IsKept v p.worker s
  pub given : (h : Handing) × IsOneOf w.handed h × IsNamed p.worker s h
  pub fits : s < 2 ^ 64

-- ---- the phases

abbrev pub StartsAt : World → Site → ℕ → Process → Start → Type 0
StartsAt w v pid p Unborn = ((q : ℕ) → w.guard q ≡ Some pid → ⊥) × (p.writes ≡ None)
StartsAt w v pid p Guards = Fresh w v pid p
StartsAt w v pid p Checked = Fresh w v pid p
StartsAt w v pid p (KnowsRound last) = Fresh w v pid p
StartsAt w v pid p (HasRecovered last texts) = Quiet w v pid p × (texts ≡ (w.logs (Journal p.worker)).kept)
StartsAt w v pid p (HasSettled last texts) = Quiet w v pid p × (texts ≡ (w.logs (Journal p.worker)).kept)

-- The intents of these pending attempts are kept.
abbrev pub ArePending : Site → ℕ → List Pending → Type 0
ArePending v q is = (i : Pending) → IsOneOf is i → IsKept v q i.serial

abbrev pub OpensIf : Site → ℕ → ℕ → JobResult → Type 0
OpensIf v q s c = c ≡ Unbegun → IsOpened v q s

-- The process may do nothing any more. If it has the lock on its journal, no process has this
-- journal in the model.
abbrev pub Halted : World → Site → ℕ → Process → Type 0
Halted w v pid p = w.guard p.worker ≡ Some pid → v.stage p.worker ≡ Away

abbrev pub AsksAt : World → Site → ℕ → Process → Stage → Type 0
AsksAt w v pid p (Asking is) = Quiet w v pid p × ArePending v p.worker is
AsksAt w v pid p (Settling s c way is) = Quiet w v pid p × OpensIf v p.worker s c × ArePending v p.worker is × IsKept v p.worker s
AsksAt w v pid p (Dismissed is) = Halted w v pid p
AsksAt w v pid p (Unanswered s reply) = Halted w v pid p
AsksAt w v pid p Broken = Halted w v pid p
AsksAt w v pid p st = ⊥

-- The process is quiet, and s is the serial number of its next intent.
abbrev pub IsNext : World → Site → ℕ → Process → ℕ → Type 0
IsNext w v pid p s = Quiet w v pid p × (s ≡ suc (length (v.kept p.worker)))

abbrev pub WorksAt : World → Site → ℕ → Process → (jobs : List ℕ) → Stage → Type 0
WorksAt w v pid p jobs (Going s a way) = IsNext w v pid p s
WorksAt w v pid p jobs (Finding s a j) = IsNext w v pid p s
WorksAt w v pid p jobs (Intending s a j) = IsNext w v pid p s
WorksAt w v pid p jobs (Clearing s a j) = (line : ℕ) × Holds w v pid p jobs s j line []
WorksAt w v pid p jobs (Performing s a j) =
    ((line : ℕ) × (seen : List ℕ) × Holds w v pid p jobs s j line seen × HasSeenAll MAX_WORKERS seen) ⊎ Gave w v pid p s
WorksAt w v pid p jobs (Noting s a c way) = Quiet w v pid p × (s ≡ length (v.kept p.worker)) × OpensIf v p.worker s c × IsKept v p.worker s
WorksAt w v pid p jobs (Leaving a) = Quiet w v pid p
WorksAt w v pid p jobs Gone = Quiet w v pid p
WorksAt w v pid p jobs (Unanswered s reply) = Quiet w v pid p
WorksAt w v pid p jobs (Refused word value) = Quiet w v pid p
WorksAt w v pid p jobs Broken = Quiet w v pid p
WorksAt w v pid p jobs st = ⊥

-- An attempt in the journal of q keeps the line from being clear.
abbrev pub Stands : Logs → (worker s line q : ℕ) → Type 0
Stands logs worker s line q =
    (k : ℕ) × (es : List Attempt) × (q ≡ suc k) × (slice_get logs.journals k ≡ Some es)
    × (any_stands logs.findings (record { worker = worker; serial = s }) line q 1 es ≡ true)

-- Each journal is left to be read, was looked at, or has an attempt that keeps the line from being
-- clear.
abbrev pub Covers : Logs → (worker s line : ℕ) → (seen : List ℕ) → (left : List LogFile) → Type 0
Covers logs worker s line seen left = (q : ℕ) → 1 ≤ q → q ≤ MAX_WORKERS → IsOneOf left (Journal q) ⊎ (IsOneOf seen q ⊎ Stands logs worker s line q)

-- Only journals are left to be read.
abbrev pub AreJournals : List LogFile → Type 0
AreJournals left = (f : LogFile) → IsOneOf left f → (q : ℕ) × (f ≡ Journal q)

abbrev pub ClearsAt : World → Site → ℕ → Process → (jobs : List ℕ) → (s j : ℕ) → Logs → List LogFile → Type 0
ClearsAt w v pid p jobs s j logs left =
    (line : ℕ) × (seen : List ℕ) × Holds w v pid p jobs s j line seen × IsOneOf seen 0 × Covers logs p.worker s line seen left × AreJournals left

-- The process has written that its attempt was not started, and no process has its journal in the
-- model.
pub record Drops (w : World) (v : Site) (pid : ℕ) (p : Process) (s : ℕ) : Type 0 where
  pub owns : Owns w pid p
  pub away : v.stage p.worker ≡ Away
  pub writes : p.writes ≡ Some (Put (Answered s NotBegun))

-- If a process reads all logs in order to work in a round, it has read its own journal whole, or
-- this journal is left to be read.
abbrev pub ReadsOwn : World → Process → Purpose → List LogFile → Type 0
ReadsOwn w p (ToWork file givens seat) left = IsOneOf left (Journal p.worker) ⊎ (p.read (Journal p.worker) ≡ (w.logs (Journal p.worker)).kept)
ReadsOwn w p (ToBegin boot last known list) left = ⊤

abbrev pub prior_of_begin : Begin → Option Logs
prior_of_begin (LockedAlone prior) = prior
prior_of_begin (BootedAlone prior boot) = prior
prior_of_begin (HasLast prior boot last) = prior
prior_of_begin (KnowsJobs prior boot last) = prior
prior_of_begin (ListHasGrown boot last logs counts) = Some logs
prior_of_begin (KnowsAll boot last logs counts) = Some logs
prior_of_begin (RoundMade file logs) = Some logs
prior_of_begin (RegistersMade logs) = Some logs

abbrev pub prior_of_join : Join → Option Logs
prior_of_join (Locked prior) = prior
prior_of_join (Booted prior boot) = prior
prior_of_join (HasHeader prior file) = prior
prior_of_join (HasJobs prior file) = prior
prior_of_join (Seated prior file givens seat) = prior

abbrev pub At : World → Site → ℕ → Process → Phase → Type 0
At w v pid p (Starts k start) = (k ≡ p.worker) × Unread p.read × StartsAt w v pid p start
At w v pid p (Asks me st) = (me.worker ≡ p.worker) × Unread p.read × AsksAt w v pid p st
At w v pid p (Idle me logs) = (me.worker ≡ p.worker) × Knows v p.read logs × Quiet w v pid p
At w v pid p (Begins me begin) = (me.worker ≡ p.worker) × KnowsPrior v p.read (prior_of_begin begin) × Quiet w v pid p
At w v pid p (Joins me join) = (me.worker ≡ p.worker) × KnowsPrior v p.read (prior_of_join join) × Quiet w v pid p
At w v pid p (Reads me purpose logs counts left) = (me.worker ≡ p.worker) × Knows v p.read logs × Quiet w v pid p × ReadsOwn w p purpose left
At w v pid p (Works me jobs st owes logs) = (me.worker ≡ p.worker) × Knows v p.read logs × WorksAt w v pid p jobs st
At w v pid p (Clears me jobs s a j logs left) = (me.worker ≡ p.worker) × Knows v p.read logs × (ClearsAt w v pid p jobs s j logs left ⊎ Drops w v pid p s)
At w v pid p (Unclear s) = Quiet w v pid p × IsOpened v p.worker s × IsKept v p.worker s
At w v pid p (Over me logs) = (me.worker ≡ p.worker) × Knows v p.read logs × Quiet w v pid p
At w v pid p (Stays me logs) = (me.worker ≡ p.worker) × Knows v p.read logs × Quiet w v pid p
At w v pid p Ended = Halted w v pid p

-- Each number that the process has written has at most 64 bits.
abbrev pub FitsWrites : Option Entry → Option Request → Type 0
FitsWrites owed None = ⊤
FitsWrites owed (Some r) = FitsRequest owed r

-- If this entry opens an attempt, the attempt is opened in the site.
abbrev pub OpensOpened : Site → (q : ℕ) → Entry → Type 0
OpensOpened v q entry = (s : ℕ) → entry ≡ Answered s NotBegun → IsOpened v q s

-- If this entry answers an attempt, the attempt is settled.
abbrev pub AnswersSettled : Site → (q : ℕ) → Entry → Type 0
AnswersSettled v q entry = (s : ℕ) (c : Outcome) → entry ≡ Answered s c → Settled v q s

-- The owed entry is an answer to a settled attempt. If the entry opens the attempt, the attempt is
-- opened in the site.
abbrev pub Owes : Site → ℕ → Option Entry → Type 0
Owes v q None = ⊤
Owes v q (Some entry) = IsAnswer entry × OpensOpened v q entry × AnswersSettled v q entry

pub record Stand (w : World) (v : Site) (pid : ℕ) (p : Process) : Type 0 where
  pub low : 1 ≤ p.worker
  pub high : p.worker ≤ MAX_WORKERS
  pub owes : Owes v p.worker p.owed
  pub fits : FitsWrites p.owed p.writes
  pub here : At w v pid p p.phase

-- ---- the whole

abbrev pub all_of : Log → List (List ℕ)
all_of log = log.kept ++ log.rest

pub record Goes (w : World) (v : Site) : Type 0 where
  pub alive : v.alive ≡ w.alive
  pub performed : v.performed ≡ w.performed
  pub kept : (q : ℕ) → v.kept q ≡ lines_in (w.logs (Journal q)).kept
  pub nobody : lines_in (all_of (w.logs (Journal 0))) ≡ []
  pub unbegun : (q s : ℕ) (text : List ℕ) → IsOneOf (all_of (w.logs (Journal q))) text → IsOneOf (entries_of (append_in text)) (Answered s NotBegun) → IsOpened v q s
  -- Each attempt that has an outcome in its worker's journal is settled, whatever the outcome is.
  pub answered : (q s : ℕ) (c : Outcome) (text : List ℕ) → IsOneOf (all_of (w.logs (Journal q))) text → IsOneOf (entries_of (append_in text)) (Answered s c) → Settled v q s
  pub undone : (text : List ℕ) → IsOneOf (all_of (w.logs Answers)) text → (f : Answer) → finding_in text ≡ Some f → f.verdict ≡ NotDone → IsOpened v f.worker f.serial
  pub alive_handed : (h : Handing) → IsOneOf w.alive h → IsOneOf w.handed h
  pub performed_handed : (h : Handing) → IsOneOf w.performed h → IsOneOf w.handed h
  -- The intent of each attempt that was handed over is kept.
  pub handed : (h : Handing) → IsOneOf w.handed h → line_of (v.kept h.worker) h.serial ≡ Some h.line
  pub away : (q : ℕ) → w.guard q ≡ None → v.stage q ≡ Away
  pub owner : (q pid : ℕ) → w.guard q ≡ Some pid → (p : Process) × (w.process pid ≡ Some p) × (p.worker ≡ q)
  pub stand : (pid : ℕ) (p : Process) → w.process pid ≡ Some p → Stand w v pid p
