-- The phases of a door, between two calls.
use Rattle.std.specs.Prelude.{ℕ, Bool, List}
use Rattle.amo_dir_admission.specs.declared.halt.Refusal.{Refusal}
use Rattle.amo_dir_admission.specs.declared.model.Asked.{Asked}
use Rattle.amo_dir_admission.specs.declared.model.Purpose.{Purpose}
use Rattle.amo_dir_admission.specs.declared.model.RunFile.{RunFile}

-- The phase of a door: the point that it has come to.
pub data Phase : Type 0 where
  -- Nothing is known.
  Begins : Asked → Phase
  -- Something has the folder's name, and a new run is to be made.
  Found : (is_named : Bool) → Phase
  -- The folder isn't there, and no id is named.
  Absent : (into : Bool) → Phase
  -- Since then it has seen that the folder above is on a file system that is taken.
  Above : (into : Bool) → Phase
  -- Since then it has seen that the list can be a run's. It may make the folder.
  Makes : (into : Bool) → Phase
  -- It has a name for a folder that it makes beside.
  Beside : Phase
  -- It makes these files in that folder, and then the id.
  Fills : (left : List RunFile) → Phase
  -- It has made all files but the id, which it has drawn.
  Finishes : (id : List ℕ) → Phase
  -- It has made all files there.
  Filled : Phase
  -- It has synced that folder since then.
  Synced : Phase
  -- Making that folder has failed. It has to be removed.
  Fails : Phase
  -- It has removed what was made.
  Removed : Phase
  -- Something has the folder's name, and nothing else is known of it.
  Looks : Purpose → Phase
  -- It is a folder, and no link.
  Folder : Purpose → Phase
  -- It is one's own too.
  Own : Purpose → Phase
  -- It is on a file system that is taken too.
  Taken : Purpose → Phase
  -- Its record is of version 0.1.0.
  Dated : Purpose → Phase
  -- Its version fits too.
  Checked : Purpose → Phase
  -- It has no id, and is refused by what its record says.
  Idless : Phase
  -- It has no id, and is to be read.
  Bare : (is_named : Bool) → Phase
  -- It has no id, and a run may be made there. If `locked` is true, this process has had the lock of the round since before it looked for the id.
  New : (locked : Bool) → Phase
  -- It has no record either.
  Recordless : (locked : Bool) → Phase
  -- It has no file either by which no new run can be there. This process has no lock.
  Free : Phase
  -- Since then it has seen that the list can be a run's.
  Listed : Phase
  -- It has a name for a file that it makes.
  Named : Phase
  -- `lock.round` is there. It has tried the lock if `tried` is true.
  Locks : (tried : Bool) → Phase
  -- It has the lock of the round.
  Locked : Phase
  -- It makes these files if they are missing or have no byte. It has the lock, and has looked at the folder under it.
  Puts : (left : List RunFile) → Phase
  -- This file is missing.
  Lacks : RunFile → (left : List RunFile) → Phase
  -- This file has no byte.
  Blank : RunFile → (left : List RunFile) → Phase
  -- All files but the id are there, and it has synced the folder since then.
  Kept : Phase
  -- It has drawn this id since then.
  Signs : (id : List ℕ) → Phase
  -- The id is there.
  Signed : Phase
  -- The id is there, and the folder was synced since then. It has the lock of the round.
  Made : Phase
  -- The folder was checked, and has the id of the run.
  Identified : Phase
  -- Each file that was made with the id is there with its byte, but for these, at which it hasn't looked.
  Whole : Purpose → (left : List RunFile) → Phase
  -- The folder is of version 0.1.0, and may be read. It may call nothing more.
  OldRead : Phase
  -- It has seen whether the folder has an id. It may call nothing more.
  Seen : Phase
  -- The folder was checked and is whole, and the folder above was synced.
  Entered : Phase
  -- The list was checked too. It may call nothing more, and has done what was asked for.
  Done : Phase
  -- It may call nothing more, since the folder is refused.
  Refuses : Refusal → Phase
  -- It may call nothing more, since no new run can be in a folder with a file of this name.
  RefusesFile : (name : List ℕ) → Phase
  -- It may call nothing more, since a call has failed.
  Ended : Phase
