-- The replies of the calls, as functions of their arguments. Refused memory is left out.
use Rattle.std.specs.Prelude.{ℕ, ◌+◌, Bool, List, Option, Some, None, Result, Ok, Err, if◌then◌else◌}
use Rattle.std.specs.Result.{is_ok}
use Rattle.amo_params.specs.Givens.{givens_of, bound, is_within}
use Rattle.amo_kk.specs.Words.{next_word, claim_word, done_word, word_count}
use Rattle.amo_params.specs.declared.givens.Givens.{Givens}
use Rattle.amo_params.specs.declared.givens.GivensFault.{GivensFault}
use Rattle.amo_process.specs.Heard.{standing_of}
use Rattle.amo_process.specs.declared.standing.Standing.{Standing}
use Rattle.amo_c.specs.Codes.{fault_code, fault_of}
use Rattle.amo_c.specs.Told.{next_of, leave_by}
use Rattle.amo_c.specs.declared.codes.FaultCode.{FaultCode}
use Rattle.amo_c.specs.declared.codes.FaultCode.TheVariants.{NoSuchWorker, NoSuchNumber}
use Rattle.amo_c.specs.declared.worker.Worker.{Worker}
use Rattle.amo_c.specs.declared.told.AmoGivens.{AmoGivens}
use Rattle.amo_c.specs.declared.told.AmoNext.{AmoNext}

-- the givens, or the fault that comes of the first limit that they break
abbrev pub givens_or_fault : Result Givens GivensFault → Result Givens FaultCode
givens_or_fault (Ok g) = Ok g
givens_or_fault (Err fault) = Err (fault_of fault)

-- the givens of the three numbers
abbrev pub givens_in : AmoGivens → Result Givens FaultCode
givens_in x = givens_or_fault (givens_of x.jobs x.workers x.beta)

-- worker p of these givens, or the fault
abbrev pub worker_in : Result Givens FaultCode → ℕ → Result Worker FaultCode
worker_in (Ok g) p = if is_within g.workers p then Ok (record { givens = g; number = p }) else Err NoSuchWorker
worker_in (Err fault) p = Err fault

-- the standing, or the fault of an impossible value
abbrev pub standing_or_fault : Option Standing → Result Standing FaultCode
standing_or_fault (Some s) = Ok s
standing_or_fault None = Err NoSuchNumber

-- the standing of a worker whose process has read these values
abbrev pub standing_in : Worker → List ℕ → Result Standing FaultCode
standing_in w heard = standing_or_fault (standing_of w.givens w.number heard)

-- the next step, if there was no fault
abbrev pub and_then : {X Y : Type 0} → Result X FaultCode → (X → Result Y FaultCode) → Result Y FaultCode
and_then (Ok x) f = f x
and_then (Err fault) f = Err fault

-- the reply for the worker of these numbers, by its standing
abbrev pub reply : {X : Type 0} → (Worker → Standing → Result X FaultCode) → AmoGivens → ℕ → List ℕ → Result X FaultCode
reply tell x p heard = and_then (worker_in (givens_in x) p) (λ w. and_then (standing_in w heard) (tell w))

-- the reply of `amo_next`
abbrev pub next_reply : AmoGivens → ℕ → List ℕ → Result AmoNext FaultCode
next_reply x p heard = reply (λ w s. Ok (next_of w s)) x p heard

-- the reply of `amo_leave`
abbrev pub leave_reply : AmoGivens → ℕ → List ℕ → Result AmoNext FaultCode
leave_reply x p heard = reply leave_by x p heard

-- the code of an answer: 0, or the number of the fault
abbrev pub code_of : {X : Type 0} → Result X FaultCode → ℕ
code_of (Ok x) = 0
code_of (Err fault) = fault_code fault

-- whether the numbers are givens that have worker p
abbrev pub has_worker : AmoGivens → ℕ → Bool
has_worker x p = is_ok (worker_in (givens_in x) p)

-- the number of registers; 0 if the numbers are no givens
abbrev pub words_in : Result Givens FaultCode → ℕ
words_in (Ok g) = word_count g
words_in (Err fault) = 0

-- the bound of the givens; 0 if the numbers are no givens
abbrev pub bound_in : Result Givens FaultCode → ℕ
bound_in (Ok g) = bound g
bound_in (Err fault) = 0

-- the place of a worker's announcement; 0 for another number, since word 0 belongs to nobody
abbrev pub announcement_in : Result Worker FaultCode → ℕ
announcement_in (Ok w) = next_word w.number
announcement_in (Err fault) = 0

-- the place of its count of claims
abbrev pub claims_in : Result Worker FaultCode → ℕ
claims_in (Ok w) = claim_word w.givens w.number
claims_in (Err fault) = 0

-- that of the k-th entry of its row, from 1, the last 0 among them
abbrev pub entry_in : Result Worker FaultCode → ℕ → ℕ
entry_in (Ok w) k = if is_within (w.givens.jobs + 1) k then done_word w.givens w.number k else 0
entry_in (Err fault) k = 0
