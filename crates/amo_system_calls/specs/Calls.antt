-- The system calls of a process, and what comes of them.
use Rattle.std.specs.Prelude.{◌⊎◌, ◌∷◌, [], ℕ, List}
use Rattle.amo_system_calls.specs.declared.model.LockMode.{LockMode}
use Rattle.amo_system_calls.specs.declared.model.Mode.{Mode}

-- A call. A path is the bytes of a name. For an open file or folder it is the one by which that was opened.
pub data Call : Type 0 where
  -- To open a file or folder.
  Open : (path : List ℕ) → Mode → Call
  -- To read a file by its name, all of it.
  ReadFile : (path : List ℕ) → Call
  -- To read an open file from a place to its end.
  ReadFrom : (path : List ℕ) → (start : ℕ) → Call
  -- To read so many bytes at the front of an open file.
  ReadFront : (path : List ℕ) → (count : ℕ) → Call
  -- To read the eight bytes at a place of an open file at once.
  Load : (path : List ℕ) → (place : ℕ) → Call
  -- To write a number as the eight bytes at a place of an open file at once.
  Store : (path : List ℕ) → (place value : ℕ) → Call
  -- To write bytes to an open file, all of them.
  Write : (path bytes : List ℕ) → Call
  -- To sync an open file or folder: what it has is on the disk then.
  Sync : (path : List ℕ) → Call
  -- To take a lock on an open file, without waiting.
  Lock : (path : List ℕ) → LockMode → Call
  -- To compare an open file with the one that has a name now.
  Compare : (path name : List ℕ) → Call
  -- To ask how long an open file is.
  Measure : (path : List ℕ) → Call
  -- To get a second handle of an open file.
  Copy : (path : List ℕ) → Call
  -- To give what has a name another one, in the place of what has that.
  Rename : (old new : List ℕ) → Call
  -- To give a file a second name.
  Link : (old new : List ℕ) → Call
  -- To take a file's name away.
  Remove : (path : List ℕ) → Call
  -- To look at what has a name.
  Look : (path : List ℕ) → Call
  -- To make a folder.
  MakeFolder : (path : List ℕ) → Call
  -- To read the names in a folder.
  Names : (path : List ℕ) → Call
  -- To remove a folder with all that it has.
  RemoveFolder : (path : List ℕ) → Call
  -- To ask who owns what has a name.
  Owner : (path : List ℕ) → Call
  -- To follow the links in a path.
  Follow : (path : List ℕ) → Call
  -- To write to standard output.
  Print : (bytes : List ℕ) → Call
  -- To wait for a line of standard input.
  ReadLine : Call

-- A call that was made.
pub data Made : Type 0 where
  Did : Call → Made
  -- The answer is no: nothing has this name, something has it already, or another process has the lock.
  Missed : Call → Made
  Fell : Call → Made

-- The calls of a process once it has made these too. The newest is the first.
abbrev pub after_all : List Made → (past : List Made) → List Made
after_all [] past = past
after_all (made ∷ more) past = after_all more (made ∷ past)

-- In between, the process makes these calls, in this order, and no other.
abbrev pub Makes : (before after : List Made → Type 0) → List Made → Type 0
Makes before after made = (past : List Made) → before past → after (after_all made past)

-- After past calls the process has made the first of these, each of which succeeded, but for the last one: that may have failed, or missed.
abbrev pub HasStopped : (after : List Made → Type 0) → List Call → (past : List Made) → Type 0
HasStopped after [] past = after past
HasStopped after (c ∷ cs) past = after past ⊎ (after (Fell c ∷ past) ⊎ (after (Missed c ∷ past) ⊎ HasStopped after cs (Did c ∷ past)))

-- In between, the process makes the first of these calls, in this order, and no other. Only the last one may fail or miss.
abbrev pub MakesSome : (before after : List Made → Type 0) → List Call → Type 0
MakesSome before after calls = (past : List Made) → before past → HasStopped after calls past
