-- The attempts and findings of a run, by the texts of its answers and journals.
use Rattle.std.specs.Prelude.{ℕ, zero, suc, ◌+◌, ◌-◌, ◌^◌, Bool, true, false, ◌&&◌, not, ◌==◌, List, [], ◌∷◌, ◌++◌, length, map, slice_get, slice_set, slice_index_or, Option, Some, None, is_some, option_map, if◌then◌else◌}
use Rattle.std.specs.List.{list_all}
use Rattle.amo_params.specs.declared.limits.TheConstants.{MAX_WORKERS}
use Rattle.amo_run_log.specs.declared.entry.Outcome.TheVariants.{Doubt}
use Rattle.amo_run_log.specs.declared.finding.Finding.{Finding}
use Rattle.amo_run_log.specs.declared.journal.Attempt.{Attempt}
use Rattle.amo_run_log.specs.Findings.{findings_in, may_join}
use Rattle.amo_run_log.specs.Journals.{attempts_in, pending_from}
use Rattle.amo_status.specs.declared.state.AttemptId.{AttemptId}
use Rattle.amo_operator.specs.Phase.{Known, Texts}

-- The numbers of so many workers, from this one on.
abbrev pub workers_from : (worker count : ℕ) → List ℕ
workers_from worker zero = []
workers_from worker (suc n) = worker ∷ workers_from (worker + 1) n

-- All workers that a run may have.
abbrev pub all_workers : List ℕ
all_workers = workers_from 1 MAX_WORKERS

-- The numbers of the workers from this one to the last.
abbrev pub workers_since : (worker : ℕ) → List ℕ
workers_since worker = workers_from worker ((MAX_WORKERS + 1) - worker)

-- The texts of the logs, once this journal was read again.
abbrev pub with_journal : Texts → (worker : ℕ) → List (List ℕ) → Texts
with_journal t worker texts = record t { journals = slice_set t.journals (worker - 1) texts }

-- The texts of the logs, once the next journal was read.
abbrev pub and_journal : Texts → List (List ℕ) → Texts
and_journal t texts = record t { journals = t.journals ++ texts ∷ [] }

-- Whether a journal of these attempts has a pending one.
abbrev pub has_pending : List Attempt → Bool
has_pending attempts = not (length (pending_from 1 attempts) == 0)

-- Whether a journal of these texts has a pending attempt, whatever lines the run has. None if its
-- appends can't follow each other.
abbrev pub pends : List (List ℕ) → Option Bool
pends texts = option_map has_pending (attempts_in (2 ^ 64 - 1) texts)

-- The attempts, or no attempt if they can't be read.
abbrev pub or_none : Option (List Attempt) → List Attempt
or_none None = []
or_none (Some attempts) = attempts

-- The attempts of each of these journals, in a run of so many lines.
abbrev pub journals_in : (count : ℕ) → List (List (List ℕ)) → List (List Attempt)
journals_in count journals = map (λ texts. or_none (attempts_in count texts)) journals

-- Whether each of these journals can be read, in a run of so many lines.
abbrev pub are_readable : (count : ℕ) → List (List (List ℕ)) → Bool
are_readable count journals = list_all (λ texts. is_some (attempts_in count texts)) journals

-- Whether each of these findings may follow those before it.
abbrev pub are_in_place : List (List Attempt) → (before : List Finding) → List Finding → Bool
are_in_place journals before [] = true
are_in_place journals before (f ∷ fs) = may_join journals before f && are_in_place journals (before ++ f ∷ []) fs

-- The run as it is known by these findings. None if they couldn't be read, or if one is out of
-- place.
abbrev pub known_by : (lines : List (List ℕ)) → Texts → (records : Bool) → (journals : List (List Attempt)) → Option (List Finding) → Option Known
known_by lines t records journals None = None
known_by lines t records journals (Some findings) =
    if are_in_place journals [] findings
    then Some (record { lines = lines; findings = findings; journals = journals; alive = t.alive; finals = []; records = records })
    else None

-- The run of these lines, as it is known by these texts. None if a log can't be read, or if a
-- finding is out of place.
abbrev pub known_in : (count : ℕ) → (lines : List (List ℕ)) → Texts → (records : Bool) → Option Known
known_in count lines t records =
    if are_readable count t.journals then known_by lines t records (journals_in count t.journals) (findings_in t.answers) else None

-- The pending attempts of this worker, by its journal.
abbrev pub pending_in : (worker : ℕ) → List Attempt → List AttemptId
pending_in worker attempts = map (λ p. record { worker = worker; serial = p.0 }) (pending_from 1 attempts)

-- The pending attempts of these workers, by the journals of the workers 1, 2 and so on.
abbrev pub pending_of : (workers : List ℕ) → (journals : List (List Attempt)) → List AttemptId
pending_of [] journals = []
pending_of (w ∷ ws) journals = pending_in w (slice_index_or journals (w - 1) []) ++ pending_of ws journals

-- A journal, once the attempt of this serial number is in doubt.
abbrev pub doubted : List Attempt → (serial time : ℕ) → Option Attempt → List Attempt
doubted attempts serial time None = attempts
doubted attempts serial time (Some attempt) = slice_set attempts (serial - 1) (record attempt { answer = Some (Doubt time) })

-- The journals, once the attempt is in doubt.
abbrev pub doubted_of : List (List Attempt) → AttemptId → (time : ℕ) → Option (List Attempt) → List (List Attempt)
doubted_of journals i time None = journals
doubted_of journals i time (Some attempts) = slice_set journals (i.worker - 1) (doubted attempts i.serial time (slice_get attempts (i.serial - 1)))

-- The run, once the attempt is recorded as in doubt.
abbrev pub with_doubt : Known → AttemptId → (time : ℕ) → Known
with_doubt k i time = record k { journals = doubted_of k.journals i time (slice_get k.journals (i.worker - 1)) }

-- The run, once this attempt was found final.
abbrev pub with_final : Known → AttemptId → Known
with_final k i = record k { finals = k.finals ++ i ∷ [] }

-- The run, once an append has failed.
abbrev pub without_records : Known → Known
without_records k = record k { records = false }
