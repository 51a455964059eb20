-- The answers and journals of a run, as far as a process has read them.
use Rattle.std.specs.Prelude.{ℕ, zero, suc, ◌+◌, List, [], ◌∷◌, length, max, replicate, slice_get, Option, Some, None, option_map}
use Rattle.amo_params.specs.declared.limits.TheConstants.{MAX_WORKERS}
use Rattle.amo_run_log.specs.declared.finding.Finding.{Finding}
use Rattle.amo_run_log.specs.declared.journal.Attempt.{Attempt}
use Rattle.amo_run_log.specs.ReadLogs.{findings_after, journals_after}
use Rattle.amo_host.specs.declared.model.LogFile.{LogFile}
use Rattle.amo_host.specs.declared.model.LogFile.TheVariants.{Answers, Journal}

-- The resolutions of operators, and the attempts of each journal, those of the workers 1, 2 and so
-- on. The journals are of a run of so many lines.
pub record Logs : Type 0 where
  pub count : ℕ
  pub findings : List Finding
  pub journals : List (List Attempt)

-- the logs once these texts are read too; none if they can't follow what was read
abbrev pub logs_after : Logs → LogFile → List (List ℕ) → Option Logs
logs_after logs Answers texts = option_map (λ findings. record logs { findings = findings }) (findings_after logs.findings texts)
logs_after logs (Journal worker) texts = option_map (λ journals. record logs { journals = journals }) (journals_after logs.count logs.journals worker texts)

-- The journals of so many workers, from this one on.
abbrev pub journals_from : (worker count : ℕ) → List LogFile
journals_from worker zero = []
journals_from worker (suc n) = Journal worker ∷ journals_from (worker + 1) n

-- All logs of a run, in the order in which they are read: the answers first, so that none of them
-- is to an attempt that isn't read.
abbrev pub all_logs : List LogFile
all_logs = Answers ∷ journals_from 1 MAX_WORKERS

-- All but the first.
abbrev pub others : List LogFile → List LogFile
others [] = []
others (f ∷ left) = left

-- The logs before a round is joined: those that were read in earlier rounds, in a run that knows so
-- many lines by now.
abbrev pub logs_before : (count : ℕ) → Option Logs → Logs
logs_before count None = record { count = count; findings = []; journals = replicate MAX_WORKERS [] }
logs_before count (Some logs) = record logs { count = max logs.count count }

-- How many attempts a journal has.
abbrev pub attempts_of : Option (List Attempt) → ℕ
attempts_of None = 0
attempts_of (Some attempts) = length attempts

-- The serial number of the next attempt of a worker, by the journals of the workers 1, 2 and so on.
abbrev pub next_serial : (journals : List (List Attempt)) → (worker : ℕ) → ℕ
next_serial journals zero = 1
next_serial journals (suc k) = attempts_of (slice_get journals k) + 1
