-- The state of a run at a moment, and the events that may happen to it.
use Rattle.std.specs.Prelude.{ℕ, ◌≤◌, Bool, true, false, List, [], Option, Some, None, ◌==◌, if◌then◌else◌}
use Rattle.amo_params.specs.declared.givens.Givens.{Givens}
use Rattle.amo_params.specs.declared.limits.TheConstants.{MAX_WORKERS}
use Rattle.amo_driver.specs.Stage.{Stage}
use Rattle.amo_driver.specs.declared.model.Deed.{Deed}
use Rattle.amo_driver.specs.declared.model.Try.{Try}
use Rattle.amo_driver_safety.specs.declared.model.Moment.{Moment}
use Rattle.amo_run_log.specs.declared.entry.Entry.{Entry}
use Rattle.amo_run_log.specs.declared.finding.Finding.{Finding}
use Rattle.amo_run_log.specs.declared.journal.Attempt.{Attempt}
use Rattle.amo_run_files.specs.Records.{RecordView}
use Rattle.amo_run_safety.specs.File.{File, empty}

-- The place of worker p's process. There is at most one: it holds the lock of the worker's journal.
pub data Whereabouts : Type 0 where
  -- no process lives
  Away : Whereabouts
  -- it has settled its journal, and asks for the intents that former processes have left
  Before : Stage → Whereabouts
  -- it has joined the round of this number, and acts as this one of its workers
  Inside : (round seat : ℕ) → Whereabouts

-- A round: its givens, its record, and what has happened in it, as a history of workers over one
-- list of words.
pub record Round : Type 0 where
  pub givens : Givens
  pub written : RecordView
  pub moments : List Moment

-- The site of a run: all that there is of it. Journals and whereabouts go by the worker's number.
pub record Site : Type 0 where
  pub journals : ℕ → File Entry
  pub findings : File Finding
  -- The outcomes that a process in a round has noted, and has not appended yet.
  pub owed : ℕ → List Entry
  -- How many lines the run knows.
  pub lines : ℕ
  -- The rounds that were begun, by their numbers; the last one's number; whether that can be joined, as its words are of this boot.
  pub rounds : ℕ → Option Round
  pub last : ℕ
  pub joinable : Bool
  pub whereabouts : ℕ → Whereabouts

-- nothing was done yet
abbrev pub first_site : Site
first_site = record { journals = λ p. empty; findings = empty; owed = λ p. []; lines = 0; rounds = λ k. None; last = 0; joinable = false; whereabouts = λ p. Away }

-- The next event. A first number is the worker's.
pub data Event : Type 0 where
  -- the process of the worker dies, or leaves its round; what it owes is lost
  Dies : ℕ → Event
  -- A process of the worker begins, the one before it being dead. Its journal says this, and it settles it.
  Starts : ℕ → List Attempt → Event
  -- a round is begun with these givens and this record, and the run knows so many lines
  RoundBegins : Givens → RecordView → (lines : ℕ) → Event
  -- The process joins the last round, as this one of its workers. The last is the serial number of its next intent.
  Joins : ℕ → (seat serial : ℕ) → Event
  -- At this time the process has done this, and knows it. If it fell, it has not come about; but of the entries that it was to append a
  -- stop of the machine may leave some.
  Acts : ℕ → (time : ℕ) → Deed → Event
  -- At this time the try of the process comes about, and it never learns of it: the call fails, or
  -- it dies in it.
  Misses : ℕ → (time : ℕ) → Try → Event
  -- the process appends what it owes, without an intent, and knows that it is written
  Pays : ℕ → Event
  -- It appends what it owes, and dies, and the append comes about.
  PaysUnheard : ℕ → Event
  -- The append of what it owes fails, so it ends. It isn't read, but a stop of the machine may leave it.
  PaysUnread : ℕ → Event
  -- a person says what became of an intent
  Says : Finding → Event
  -- it is written, and nobody learns that it is
  SaysUnheard : Finding → Event
  -- the put of it fails, and it isn't read, but a stop of the machine may leave it
  SaysUnread : Finding → Event
  -- The machine stops. So many are left of the entries in each journal that aren't kept, and of the findings that aren't. Owed
  -- outcomes are lost.
  Stops : (ℕ → ℕ) → ℕ → Event

-- a worker's number
pub record IsNumber (p : ℕ) : Type 0 where
  pub low : 1 ≤ p
  pub high : p ≤ MAX_WORKERS

-- it has joined a round
abbrev pub is_inside : Whereabouts → Bool
is_inside Away = false
is_inside (Before s) = false
is_inside (Inside k q) = true

-- the same for all numbers but this one
abbrev pub with_at : {A : Type 0} → (ℕ → A) → ℕ → A → ℕ → A
with_at f p x q = if q == p then x else f q

-- the lines of a round's record, in the order of its jobs
abbrev pub lines_of : Option Round → List ℕ
lines_of None = []
lines_of (Some r) = r.written.lines

-- those of the round in which a process is
abbrev pub lines_at : (ℕ → Option Round) → Whereabouts → List ℕ
lines_at rounds Away = []
lines_at rounds (Before s) = []
lines_at rounds (Inside k q) = lines_of (rounds k)
