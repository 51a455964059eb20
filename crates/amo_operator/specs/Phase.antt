-- The phases of an operator's command, between two calls.
use Rattle.std.specs.Prelude.{ℕ, Bool, List, Option}
use Rattle.amo_run_files.specs.declared.round_file.RoundFile.{RoundFile}
use Rattle.amo_run_log.specs.declared.finding.Finding.{Finding}
use Rattle.amo_run_log.specs.declared.journal.Attempt.{Attempt}
use Rattle.amo_status.specs.declared.state.AttemptId.{AttemptId}
use Rattle.amo_operator.specs.declared.model.Command.{Command}

-- The logs of a run, as a command has read them: the texts of their appends.
pub record Texts : Type 0 where
  pub answers : List (List ℕ)
  -- the journals of the workers 1, 2 and so on
  pub journals : List (List (List ℕ))
  -- The workers whose journals other processes have locked.
  pub alive : List ℕ
  -- The workers of which this process has locked journal and runner, and recovered the journal, which has a pending attempt.
  pub idle : List ℕ

-- A run as a command knows it, once it has read the lines.
pub record Known : Type 0 where
  pub lines : List (List ℕ)
  pub findings : List Finding
  -- the journals of the workers 1, 2 and so on
  pub journals : List (List Attempt)
  pub alive : List ℕ
  -- The attempts that are final: they were pending while this process had the locks of journal, runner and command.
  pub finals : List AttemptId
  -- Whether attempts that are found final are recorded as in doubt. After an append has failed nothing more is recorded.
  pub records : Bool

-- The phase of an operator's command: the point that it has come to.
pub data Phase : Type 0 where
  -- It has no lock. It has tried that of the answers if `tried` is true.
  Enters : Command → (tried : Bool) → Phase
  -- It has the lock of the answers.
  Guards : Command → Phase
  -- Since then it has seen that the folder is the run's. If it only looks, it may be without the lock.
  Checked : Command → Phase
  -- It has read the file of the last round.
  HasHeader : Command → (last : Option RoundFile) → Phase
  -- It has read the answers and some journals, to see that none is damaged. The journals of these workers are left.
  Reads : Command → (last : Option RoundFile) → Texts → (left : List ℕ) → Phase
  -- It has read all of them, and reads the lines that the run knows, to see that no log is damaged.
  Checks : Command → (last : Option RoundFile) → Texts → Phase
  -- No log is damaged, and it has the lock of the answers, which it recovers next.
  Settles : Command → (last : Option RoundFile) → Texts → Phase
  -- It reads each journal under its lock. The journals of these workers are left.
  Looks : Command → (last : Option RoundFile) → Texts → (left : List ℕ) → Phase
  -- It has the lock of the journal of this worker.
  Behind : Command → (last : Option RoundFile) → Texts → (worker : ℕ) → (left : List ℕ) → Phase
  -- It has read the journal under that lock, and an attempt is pending.
  Pends : Command → (last : Option RoundFile) → Texts → (worker : ℕ) → (left : List ℕ) → Phase
  -- It has the lock of the worker's runner too.
  Idles : Command → (last : Option RoundFile) → Texts → (worker : ℕ) → (left : List ℕ) → Phase
  -- It has the lock of the journal, and needs it no longer.
  Rests : Command → (last : Option RoundFile) → Texts → (worker : ℕ) → (left : List ℕ) → Phase
  -- It knows what the run has written down. These pending attempts of idle workers are left to be looked at.
  Probes : Command → Known → (left : List AttemptId) → Phase
  -- It has found this attempt final, which is to be recorded.
  Finds : Command → Known → AttemptId → (left : List AttemptId) → Phase
  -- Since then it has read the clock.
  Dates : Command → Known → AttemptId → (time : ℕ) → (left : List AttemptId) → Phase
  -- It has recorded that the attempt is in doubt.
  Records : Command → Known → AttemptId → (left : List AttemptId) → Phase
  -- It has this text to print, and has locks.
  Reports : (text : List ℕ) → Phase
  -- It has the text to print, and has no lock.
  Prints : (text : List ℕ) → Phase
  -- An answer is to an attempt that may still run. Nothing was appended.
  Waits : Command → Phase
  -- It has these answers to append. Once none is left it may call nothing more, and has done what was asked for.
  Puts : (left : List Finding) → Phase
  -- It may call nothing any more.
  Ended : Phase
