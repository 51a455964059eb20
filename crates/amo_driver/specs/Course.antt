-- The deeds of a worker's process, one after the other: the accesses of its process, in their
-- order. Between a claim and the filing of it come the intent, the clearance, the performance if
-- the job is clear, and the note of the claimed job.
use Rattle.std.specs.Prelude.{◌≡◌, ⊤, ℕ, zero, suc, ◌+◌, Bool, true, false, List, [], ◌∷◌, Option, Some, None, ◌==◌, if◌then◌else◌}
use Rattle.amo_kk.specs.Words.{next_word}
use Rattle.amo_params.specs.declared.givens.Givens.{Givens}
use Rattle.amo_process.specs.Heard.{told_by, doubted_by}
use Rattle.amo_process.specs.Stepped.{ProcessView, new_process, process_after, access_of, may_leave, is_refused}
use Rattle.amo_process.specs.declared.access.Access.{Access}
use Rattle.amo_process.specs.declared.access.Access.TheVariants.{Load as LoadAccess, Store as StoreAccess, Nothing}
use Rattle.amo_driver.specs.declared.answer.JobResult.TheVariants.{Unbegun}
use Rattle.amo_driver.specs.declared.answer.Reply.{Reply}
use Rattle.amo_driver.specs.declared.answer.Reply.TheVariants.{Answered, Running, Garbled, Closed}
use Rattle.amo_driver.specs.declared.answer.Way.{Way}
use Rattle.amo_driver.specs.declared.answer.Way.TheVariants.{Go, Leave}
use Rattle.amo_driver.specs.declared.model.Deed.{Deed}
use Rattle.amo_driver.specs.declared.model.Deed.TheVariants.{Loaded, Stored, Found, Intended, Cleared, Performed, Noted, Asked, Fell}
use Rattle.amo_driver.specs.declared.model.Try.{Try}
use Rattle.amo_driver.specs.declared.model.Try.TheVariants.{Load, Store, Find, Intend, Clear, Perform, Note, Ask}
use Rattle.amo_driver.specs.declared.past.Intent.{Intent}
use Rattle.amo_driver.specs.Stage.{Stage, Going, Finding, Intending, Clearing, Performing, Noting, Leaving, Asking, Settling, Dismissed, Gone, Unanswered, Refused, Broken}

-- what was tried in a deed
abbrev pub try_of : Deed → Try
try_of (Loaded w v) = Load w
try_of (Stored w v) = Store w v
try_of (Found j) = Find j
try_of (Intended s j) = Intend s j
try_of (Cleared s j clear) = Clear s j
try_of (Performed s j reply) = Perform s j
try_of (Noted s c) = Note s c
try_of (Asked s line reply) = Ask s line
try_of (Fell t) = t

-- an access as a try
abbrev pub access_tried : Access → Option Try
access_tried (LoadAccess w) = Some (Load w)
access_tried (StoreAccess w v) = Some (Store w v)
access_tried Nothing = None

-- the one thing that a process may try which stands so
abbrev pub due : Stage → Option Try
due (Going s a way) = access_tried (access_of a.givens a.number a.standing)
due (Finding s a j) = Some (Find j)
due (Intending s a j) = Some (Intend s j)
due (Clearing s a j) = Some (Clear s j)
due (Performing s a j) = Some (Perform s j)
due (Noting s a c way) = Some (Note s c)
due (Leaving a) = Some (Store (next_word a.number) 0)
due (Asking []) = None
due (Asking (i ∷ rest)) = Some (Ask i.serial i.line)
due (Settling s c way rest) = Some (Note s c)
due (Dismissed rest) = None
due Gone = None
due (Unanswered s reply) = None
due (Refused w v) = None
due Broken = None

-- the stage of a process that has just read a number, by the job that it is to perform, or 0, and
-- the job in doubt, or 0
abbrev pub stage_by_jobs : ℕ → ProcessView → (performs doubts : ℕ) → Stage
stage_by_jobs s a zero zero = Going s a Go
stage_by_jobs s a zero (suc j) = Finding s a (suc j)
stage_by_jobs s a (suc j) d = Intending s a (suc j)

-- the same; one that is to leave does so as soon as it may
abbrev pub stage_heard : ℕ → Way → ProcessView → Stage
stage_heard s Go a = stage_by_jobs s a (told_by a.standing) (doubted_by a.standing)
stage_heard s Leave a = if may_leave a.standing then Leaving a else Going s a Leave

-- the same, where v came from word w and the process may refuse it
abbrev pub stage_told : (w v : ℕ) → ℕ → Way → ProcessView → Stage
stage_told w v s way a = if is_refused a.standing then Refused w v else stage_heard s way a

-- the stage of a process that has asked whether job j may be handed over by intent s: if it may,
-- its performance is due; if it is taken, the note that it was not begun
abbrev pub stage_cleared : ℕ → ProcessView → ℕ → Bool → Stage
stage_cleared s a j true = Performing s a j
stage_cleared s a j false = Noting s a Unbegun Go

-- the stage after this reply to intent s. A reply to another intent doesn't count, and while a job
-- runs nothing is noted
abbrev pub stage_replied : ℕ → ProcessView → Reply → Stage
stage_replied s a (Answered n c way) = if n == s then Noting s a c way else Unanswered s (Answered n c way)
stage_replied s a (Running n way) = if n == s then Going (s + 1) a way else Unanswered s (Running n way)
stage_replied s a Garbled = Unanswered s Garbled
stage_replied s a Closed = Unanswered s Closed

-- the stage after the outcome of an intent that a former process has left, these being left too
abbrev pub stage_asking : Way → List Intent → Stage
stage_asking Go rest = Asking rest
stage_asking Leave rest = Dismissed rest

-- the stage after this reply, when it has asked for the first of these
abbrev pub stage_asked : List Intent → Reply → Stage
stage_asked [] reply = Asking []
stage_asked (i ∷ rest) (Answered n c way) = if n == i.serial then Settling i.serial c way rest else Unanswered i.serial (Answered n c way)
stage_asked (i ∷ rest) (Running n way) = if n == i.serial then stage_asking way rest else Unanswered i.serial (Running n way)
stage_asked (i ∷ rest) Garbled = Unanswered i.serial Garbled
stage_asked (i ∷ rest) Closed = Unanswered i.serial Closed

-- the stage after a deed that was due
abbrev pub stage_after : Stage → Deed → Stage
stage_after s (Fell t) = Broken
stage_after (Going s a way) (Loaded w v) = stage_told w v s way (process_after a v)
stage_after (Going s a way) (Stored w v) = stage_told w v s way (process_after a 0)
stage_after (Finding s a j) (Found i) = Going s a Go
stage_after (Intending s a j) (Intended n i) = Clearing s a j
stage_after (Clearing s a j) (Cleared n i clear) = stage_cleared s a j clear
stage_after (Performing s a j) (Performed n i reply) = stage_replied s a reply
stage_after (Noting s a c way) (Noted n d) = Going (s + 1) a way
stage_after (Leaving a) (Stored w v) = Gone
stage_after (Asking intents) (Asked n line reply) = stage_asked intents reply
stage_after (Settling s c way rest) (Noted n d) = stage_asking way rest
-- no other deed is due anywhere
stage_after s d = s

-- the stage after all of these, in their order
abbrev pub stage_after_all : Stage → List Deed → Stage
stage_after_all s [] = s
stage_after_all s (d ∷ ds) = stage_after_all (stage_after s d) ds

-- each of these was just what was due, from stage s on
abbrev pub AreDue : Stage → List Deed → Type 0
AreDue s [] = ⊤
AreDue s (d ∷ ds) = (due s ≡ Some (try_of d)) × AreDue (stage_after s d) ds

-- the stage of worker p's process before its first deed, s being the serial number of its first
-- intent
abbrev pub first_stage : Givens → ℕ → ℕ → Stage
first_stage g p s = Going s (new_process g p) Go
