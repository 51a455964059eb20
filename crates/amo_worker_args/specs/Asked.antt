-- The requests and the misuses of a command line, with the texts that they name.
use Rattle.std.specs.Prelude.{ℕ, Bool, List, Option, Result, Ok, Err, option_copied}
use Rattle.amo_operator.specs.declared.model.Form.{Form}
use Rattle.amo_run_faults.specs.declared.settings.ListSettings.{ListSettings}
use Rattle.amo_run_faults.specs.declared.settings.Setting.{Setting}
use Rattle.amo_worker_args.specs.declared.args.Misuse.{Misuse}
use Rattle.amo_worker_args.specs.declared.args.Misuse.TheVariants.{Memory, Words, Number, Word, Protocol}
use Rattle.amo_worker_args.specs.declared.args.Request.{Request}
use Rattle.amo_worker_args.specs.declared.args.Request.TheVariants.{Door, Work, Lines, Status, Damaged, Follow, Doubts, Answer, AnswerFrom, Again}
use Rattle.amo_worker_args.specs.declared.by_lines.ByLines.{ByLines}

-- the list of a run, and how it is shared
pub record Jobs : Type 0 where
  -- the path of the list
  pub list : List ℕ
  -- the number of workers
  pub workers : ℕ
  -- the threshold
  pub beta : ℕ

-- what is asked for
pub data Asked : Type 0 where
  AskedDoor : (jobs : Jobs) (into : Bool) → Asked
  AskedWork : (jobs : Jobs) (worker : ℕ) → Asked
  AskedLines : (lines : ByLines) → Asked
  AskedStatus : (form : Form) → Asked
  AskedDamaged : Asked
  AskedFollow : (once : Bool) → Asked
  AskedDoubts : (form : Form) → Asked
  AskedAnswer : (intent line text verdict : List ℕ) (quiet : Option ℕ) → Asked
  AskedAnswerFrom : (sheet : List ℕ) (quiet : Option ℕ) → Asked
  AskedAgain : Asked

-- why it is no request
pub data Misused : Type 0 where
  NoMemory : Misused
  NoWords : Misused
  NoNumber : (name : List ℕ) (low high : ℕ) → Misused
  NoWord : (name wanted : List ℕ) → Misused
  NoProtocol : Misused

-- the jobs that the code holds
abbrev pub jobs_in : ListSettings → Jobs
jobs_in jobs = record { list = jobs.list.now; workers = jobs.workers; beta = jobs.beta }

-- the request that the code holds
abbrev pub asked_in : Request → Asked
asked_in (Door jobs into) = AskedDoor (jobs_in jobs) into
asked_in (Work jobs worker) = AskedWork (jobs_in jobs) worker
asked_in (Lines lines) = AskedLines lines
asked_in (Status form) = AskedStatus form
asked_in Damaged = AskedDamaged
asked_in (Follow once) = AskedFollow once
asked_in (Doubts form) = AskedDoubts form
asked_in (Answer intent line text verdict quiet) = AskedAnswer intent.now line.now text.now verdict.now quiet
asked_in (AnswerFrom sheet quiet) = AskedAnswerFrom sheet.now quiet
asked_in Again = AskedAgain

-- the conditions on a run, and what is asked of it
pub record Said : Type 0 where
  -- the id that the run must have
  pub id : Option (List ℕ)
  -- a type of file system that is accepted too
  pub file_system : Option (List ℕ)
  -- the path of the file with the boot id
  pub boot : List ℕ
  pub asked : Asked

-- the same, of what the code holds
abbrev pub said_in : Setting × Request → Said
said_in said = record { id = option_copied said.0.id; file_system = option_copied said.0.file_system; boot = said.0.boot.now; asked = asked_in said.1 }

-- the misuse that the code holds
abbrev pub misused_in : Misuse → Misused
misused_in Memory = NoMemory
misused_in (Words error) = NoWords
misused_in (Number name low high) = NoNumber name.now low high
misused_in (Word name wanted) = NoWord name.now wanted.now
misused_in Protocol = NoProtocol

-- the answer that the code holds, by what its value says
abbrev pub answer_in : {A B : Type 0} → (A → B) → Result A Misuse → Result B Misused
answer_in view (Ok x) = Ok (view x)
answer_in view (Err e) = Err (misused_in e)
