-- The phases of a process of the run, between two calls.
use Rattle.std.specs.Prelude.{ℕ, Bool, List, Option}
use Rattle.amo_params.specs.declared.givens.Givens.{Givens}
use Rattle.amo_driver.specs.Stage.{Stage}
use Rattle.amo_process.specs.Stepped.{ProcessView}
use Rattle.amo_run_files.specs.declared.extent.Extent.{Extent}
use Rattle.amo_run_files.specs.declared.round_file.RoundFile.{RoundFile}
use Rattle.amo_host.specs.declared.model.LogFile.{LogFile}
use Rattle.amo_host.specs.Logs.{Logs}

-- Which worker it is, and the lines that its run knows.
pub record Identity : Type 0 where
  pub worker : ℕ
  pub lines : List (List ℕ)

-- The steps by which it takes its number. The file of a round is that of the last one, if there is
-- one.
pub data Start : Type 0 where
  -- It has called nothing.
  Unborn : Start
  -- It has the guard of its number.
  Guards : Start
  -- Since then it has seen that the folder is the run's.
  Checked : Start
  -- Since then it has read the file of the last round.
  Knows : Option RoundFile → Start
  -- It has recovered its journal, whose appends have these texts.
  HasRecovered : Option RoundFile → (texts : List (List ℕ)) → Start
  -- Since then it has synced the folder.
  Settled : Option RoundFile → (texts : List (List ℕ)) → Start

-- The steps by which it joins a round, all of them under the lock of the round, which it shares.
-- `prior` are the logs that it has read in earlier rounds, if there were any.
pub data Join : Type 0 where
  Locked : (prior : Option Logs) → Join
  -- It has read the boot id.
  Booted : (prior : Option Logs) → (boot : List ℕ) → Join
  -- It has read the file of the last round, which is of this boot.
  HasHeader : (prior : Option Logs) → RoundFile → Join
  -- Since then it has read the lines that the run knows.
  HasJobs : (prior : Option Logs) → RoundFile → Join
  -- It has opened the registers, which are that round's, and has this seat in the round.
  Seated : (prior : Option Logs) → RoundFile → Givens → (seat : ℕ) → Join

-- The steps by which it begins a round, all of them under the lock of the round, which it has
-- alone. `prior` are the logs that it has read in earlier rounds. `last` is the file of the last
-- round. `counts` is how much of each log is on the disk for good.
pub data Begin : Type 0 where
  LockedAlone : (prior : Option Logs) → Begin
  -- It has read the boot id.
  BootedAlone : (prior : Option Logs) → (boot : List ℕ) → Begin
  HasLast : (prior : Option Logs) → (boot : List ℕ) → (last : Option RoundFile) → Begin
  -- Since then it has read the lines that the run knows.
  KnowsJobs : (prior : Option Logs) → (boot : List ℕ) → (last : Option RoundFile) → Begin
  -- Since then it has read the list, which has more lines than the run knew, and all logs.
  ListHasGrown : (boot : List ℕ) → (last : Option RoundFile) → Logs → (counts : List Extent) → Begin
  -- It has read all that, and the run knows all lines of the list.
  KnowsAll : (boot : List ℕ) → (last : Option RoundFile) → Logs → (counts : List Extent) → Begin
  -- The file of the round is in its place.
  RoundMade : RoundFile → Logs → Begin
  -- So are the registers.
  RegistersMade : Logs → Begin

-- The purpose for which it reads all logs.
pub data Purpose : Type 0 where
  -- To work in the round of this file, in this seat.
  ToWork : RoundFile → Givens → (seat : ℕ) → Purpose
  -- To begin a round by the list, which has these bytes. The run knew the lines of the bytes `known`.
  ToBegin : (boot : List ℕ) → (last : Option RoundFile) → (known list : List ℕ) → Purpose

-- The phase of a worker's process: the point that it has come to.
pub data Phase : Type 0 where
  -- The process of the worker of this number takes that number.
  Starts : (worker : ℕ) → Start → Phase
  -- It asks what became of the attempts that its journal has pending. The stage says what is due.
  Asks : Identity → Stage → Phase
  -- It is in no round, and has read these logs in earlier ones.
  Idle : Identity → Logs → Phase
  -- It begins a round.
  Begins : Identity → Begin → Phase
  -- It joins a round.
  Joins : Identity → Join → Phase
  -- It has read these logs, and the others are left.
  Reads : Identity → Purpose → Logs → (counts : List Extent) → (left : List LogFile) → Phase
  -- It works in a round whose jobs are the lines of these numbers. The stage says what is due. It owes its journal an outcome if `owes` is
  -- true. By these logs it has joined, or read them since.
  Works : Identity → (jobs : List ℕ) → Stage → (owes : Bool) → Logs → Phase
  -- The attempt of this serial number at this job is in its journal, and it asks whether the line is clear. These are still to be read on.
  Clears : Identity → (jobs : List ℕ) → (serial : ℕ) → ProcessView → (job : ℕ) → Logs → (left : List LogFile) → Phase
  -- It couldn't find out whether the line of the attempt of this serial number is clear, and doesn't hand it over.
  Unclear : (serial : ℕ) → Phase
  -- It has unlocked the round: its part of it is over, or it takes none.
  Over : Identity → Logs → Phase
  -- The runner has it stay for the next round.
  Stays : Identity → Logs → Phase
  -- It may call nothing any more.
  Ended : Phase
