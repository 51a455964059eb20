-- Outcomes that are owed: one is lost with its process, one is appended alone, and one is appended
-- with the next intent.
use Rattle.std.proofs.Common.{◌≡◌, true, List, [], ◌∷◌, ◌++◌, Some, refl, arith}
use Rattle.amo_params.specs.Givens.{IsWorker}
use Rattle.amo_params.specs.Limits.{within_limits}
use Rattle.amo_params.specs.declared.givens.Givens.{Givens}
use Rattle.amo_driver.specs.declared.answer.JobResult.TheVariants.{Done}
use Rattle.amo_driver.specs.declared.answer.Reply.TheVariants.{Answered}
use Rattle.amo_driver.specs.declared.answer.Way.TheVariants.{Go}
use Rattle.amo_driver.specs.declared.model.Deed.TheVariants.{Loaded, Stored, Intended, Cleared, Performed, Noted, Asked}
use Rattle.amo_driver.specs.declared.model.Try.TheVariants.{Perform}
use Rattle.amo_driver_safety.proofs.Chains.{◌▸◌}
use Rattle.amo_run_log.specs.declared.entry.Outcome.TheVariants.{Done as NotedDone}
use Rattle.amo_run_log.specs.declared.entry.Entry.{Entry}
use Rattle.amo_run_log.specs.declared.journal.Attempt.{Attempt}
use Rattle.amo_run_files.specs.Records.{RecordView}
use Rattle.amo_run_safety.specs.Site.{Site, first_site, Event, Dies, Starts, RoundBegins, Joins, Acts, Misses, Pays, Says}
use Rattle.amo_run_safety.specs.Run.{site_after, IsRunFrom, IsRun, site_after_all}
use Rattle.amo_run_safety.proofs.Once.{run_parts}
use Rattle.amo_run_safety.proofs.Example.{only_worker, number_1, pending, undone, intended, asked, again, is_run, may_begin}

run_both : (w : Site) (before after : List Event) → IsRunFrom w before → IsRunFrom (site_after_all w before) after → IsRunFrom w (before ++ after)
run_both w [] after run rest = rest
run_both w (e ∷ before) after run rest = (run.0, run_both (site_after w e) before after run.1 rest)

not_none : (x : Entry) → x ∷ [] ≡ [] → ⊥
not_none x e = cc

-- a command has ended, and what came of it is owed
abbrev pub answered : List Event
answered = intended ++ Acts 1 20 (Performed 1 1 (Answered 1 (Done 0) Go)) ∷ Acts 1 20 (Noted 1 (Done 0)) ∷ []

answered_run : IsRun answered
answered_run = run_both first_site intended (Acts 1 20 (Performed 1 1 (Answered 1 (Done 0) Go)) ∷ Acts 1 20 (Noted 1 (Done 0)) ∷ [])
    (run_parts first_site intended (Misses 1 20 (Perform 1 1) ∷ asked ++ Says undone ∷ again) is_run).0
    ((number_1, (only_worker, refl, tt)) ▸ (number_1, (only_worker, refl, tt)) ▸ tt)

-- the process dies, and the next one asks for the attempt
abbrev pub asked_again : List Event
asked_again =
    Acts 1 30 (Asked 1 1 (Answered 1 (Done 0) Go)) ∷
    Acts 1 30 (Noted 1 (Done 0)) ∷ []

pub lost_run : IsRun (answered ++ Dies 1 ∷ Starts 1 (pending ∷ []) ∷ asked_again)
lost_run = run_both first_site answered (Dies 1 ∷ Starts 1 (pending ∷ []) ∷ asked_again) answered_run (tt ▸ (number_1, refl) ▸ (number_1, refl) ▸ (number_1, refl) ▸ tt)

-- it is appended alone, and the next process has nothing to ask for
abbrev pub known : Attempt
known = record { line = 1; time = 20; answer = Some (NotedDone 0 20) }

pub paid_run : IsRun (answered ++ Pays 1 ∷ Dies 1 ∷ Starts 1 (known ∷ []) ∷ [])
paid_run = run_both first_site answered (Pays 1 ∷ Dies 1 ∷ Starts 1 (known ∷ []) ∷ []) answered_run (not_none _ ▸ tt ▸ (number_1, refl) ▸ tt)

-- a round of two jobs: what came of the first is appended with the intent of the second

abbrev two_jobs : Givens
two_jobs = record { jobs = 2; workers = 1; beta = 1; limits = within_limits 2 1 1 refl }

one_worker : IsWorker two_jobs 1
one_worker = record { low = omega arith; high = omega arith }

abbrev record_of_two : RecordView
record_of_two = record { round = 1; boot = []; givens = record { jobs = 2; workers = 1; beta = 1 }; workers = 2; first = 1; lines = 1 ∷ 2 ∷ [] }

abbrev pub first_done : List Event
first_done =
    Starts 1 [] ∷
    RoundBegins two_jobs record_of_two 2 ∷
    Joins 1 1 1 ∷
    Acts 1 20 (Loaded 1 0) ∷
    Acts 1 20 (Loaded 2 0) ∷
    Acts 1 20 (Loaded 3 0) ∷
    Acts 1 20 (Stored 1 1) ∷
    Acts 1 20 (Stored 2 1) ∷
    Acts 1 20 (Intended 1 1) ∷
    Acts 1 20 (Cleared 1 1 true) ∷
    Acts 1 20 (Performed 1 1 (Answered 1 (Done 0) Go)) ∷
    Acts 1 20 (Noted 1 (Done 0)) ∷
    Acts 1 20 (Stored 3 1) ∷
    Acts 1 20 (Stored 1 2) ∷
    Acts 1 20 (Stored 2 2) ∷ []

pub next_run : IsRun (first_done ++ Acts 1 30 (Intended 2 2) ∷ [])
next_run =
    (number_1, refl) ▸
    may_begin _ 2 [] (λ p. []) (λ p. []) two_jobs record_of_two refl ((((((((((((((((tt, (refl, refl, refl)), (refl, refl, refl)), (refl, refl, refl)), (refl, refl, refl)), (refl, refl, refl)), (refl, refl, refl)), (refl, refl, refl)), (refl, refl, refl)), (refl, refl, refl)), (refl, refl, refl)), (refl, refl, refl)), (refl, refl, refl)), (refl, refl, refl)), (refl, refl, refl)), (refl, refl, refl)), (refl, refl, refl)) (λ line h. h) refl refl refl ▸
    record { asked = refl; joinable = refl; round = _; stands = refl; seat = refl; attempts = []; journal = refl; next = refl } ▸
    (number_1, (one_worker, refl, refl)) ▸ (number_1, (one_worker, refl, refl)) ▸ (number_1, (one_worker, refl, refl)) ▸
    (number_1, (one_worker, refl, tt)) ▸ (number_1, (one_worker, refl, tt)) ▸
    (number_1, (one_worker, refl, tt)) ▸ (number_1, (one_worker, refl, tt)) ▸ (number_1, (one_worker, refl, tt)) ▸
    (number_1, (one_worker, refl, tt)) ▸ (number_1, (one_worker, refl, tt)) ▸
    (number_1, (one_worker, refl, tt)) ▸ (number_1, (one_worker, refl, tt)) ▸
    (number_1, (one_worker, refl, tt)) ▸ tt
