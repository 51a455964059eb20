-- An example of a run. The machine stops while the only intent is put, and it is lost. A process
-- dies while its partner performs the line. A person says that it wasn't done, and another process
-- performs it in another round.
use Rattle.std.proofs.Common.{◌≡◌, ℕ, zero, suc, ◌≤◌, Bool, true, false, List, [], ◌∷◌, ◌++◌, Some, None, refl, arith, ⊎_elim, subst, sym}
use Rattle.std.specs.Prelude.{⊤, ◌==◌, ◌&&◌, ◌||◌, if◌then◌else◌}
use Rattle.std.proofs.lemmas.Bool.{cases_eq, and_parts, eqb-true}
use Rattle.amo_sets.specs.Lists.{table}
use Rattle.amo_sets.specs.Sets.{has}
use Rattle.amo_params.specs.Givens.{IsWorker}
use Rattle.amo_params.specs.Limits.{within_limits}
use Rattle.amo_params.specs.declared.givens.Givens.{Givens}
use Rattle.amo_params.specs.declared.limits.TheConstants.{MAX_WORKERS}
use Rattle.amo_driver.specs.declared.answer.JobResult.TheVariants.{Done, Doubt}
use Rattle.amo_driver.specs.declared.answer.Reply.TheVariants.{Answered}
use Rattle.amo_driver.specs.declared.answer.Way.TheVariants.{Go, Leave}
use Rattle.amo_driver.specs.declared.model.Deed.TheVariants.{Loaded, Stored, Intended, Cleared, Performed, Noted, Asked}
use Rattle.amo_driver.specs.declared.model.Try.TheVariants.{Intend, Perform}
use Rattle.amo_driver_safety.proofs.Chains.{◌▸◌}
use Rattle.amo_run_log.specs.declared.entry.Outcome.TheVariants.{Doubt as NotedDoubt}
use Rattle.amo_run_log.specs.declared.entry.Entry.{Entry}
use Rattle.amo_run_log.specs.declared.entry.Entry.TheVariants.{Intent as IntentOf, Answer as AnswerTo}
use Rattle.amo_run_log.specs.declared.finding.Finding.{Finding}
use Rattle.amo_run_log.specs.declared.finding.Resolution.TheVariants.{NotDone}
use Rattle.amo_run_log.specs.declared.journal.Attempt.{Attempt}
use Rattle.amo_run_log.specs.Journals.{journal_of}
use Rattle.amo_run_log.specs.Open.{open_lines}
use Rattle.amo_run_files.specs.Records.{RecordView, is_sound}
use Rattle.amo_run_safety.specs.File.{read_of}
use Rattle.amo_run_safety.specs.Site.{Site, Event, Dies, Starts, RoundBegins, Joins, Acts, Misses, Says, Stops, IsNumber, is_inside}
use Rattle.amo_run_safety.specs.Run.{MayBegin, IsRun, handings, openings, AreUnperformed, performed_lines, names_of}

-- what holds of each of 1..n
abbrev AllUpTo : ℕ → (ℕ → Type 0) → Type 0
AllUpTo zero P = ⊤
AllUpTo (suc n) P = AllUpTo n P × P (suc n)

up_to : (n : ℕ) (P : ℕ → Type 0) → AllUpTo n P → (p : ℕ) → 1 ≤ p → p ≤ n → P p
up_to zero P all p low high = absurd (omega arith)
up_to (suc n) P all p low high = ⊎_elim
    (λ (e : p ≡ suc n). subst P (sym e) all.1)
    (λ (m : p ≡ suc n → ⊥). up_to n P all.0 p low (omega arith))
    (cases_eq p (suc n))

each : (P : ℕ → Type 0) → AllUpTo MAX_WORKERS P → (p : ℕ) → IsNumber p → P p
each P all p is = up_to MAX_WORKERS P all p is.low is.high

abbrev one_job : Givens
one_job = record { jobs = 1; workers = 1; beta = 1; limits = within_limits 1 1 1 refl }

pub only_worker : IsWorker one_job 1
only_worker = record { low = omega arith; high = omega arith }

pub number_1 : IsNumber 1
number_1 = record { low = omega arith; high = omega arith }

number_2 : IsNumber 2
number_2 = record { low = omega arith; high = omega arith }

-- the record of a round of this number that worker `first` of two has begun
abbrev record_by : (round first : ℕ) → RecordView
record_by round first = record { round = round; boot = []; givens = record { jobs = 1; workers = 1; beta = 1 }; workers = 2; first = first; lines = 1 ∷ [] }

abbrev pub pending : Attempt
pending = record { line = 1; time = 20; answer = None }

abbrev pub in_doubt : Attempt
in_doubt = record { line = 1; time = 20; answer = Some (NotedDoubt 30) }

abbrev pub undone : Finding
undone = record { verdict = NotDone; worker = 1; serial = 1; time = 40 }

-- the process of worker p begins, and a round of it alone, which it joins
abbrev beginning : (p round : ℕ) → List Event
beginning p round = Starts p [] ∷ RoundBegins one_job (record_by round p) 1 ∷ Joins p 1 1 ∷ []

-- there it reads its own words, announces the job, and claims it
abbrev claiming : (p time : ℕ) → List Event
claiming p time =
    Acts p time (Loaded 1 0) ∷
    Acts p time (Loaded 2 0) ∷
    Acts p time (Loaded 3 0) ∷
    Acts p time (Stored 1 1) ∷
    Acts p time (Stored 2 1) ∷ []

-- an intent is lost; then one is kept
abbrev pub put : List Event
put =
    beginning 1 1 ++ claiming 1 10 ++
    Misses 1 10 (Intend 1 1) ∷
    Stops (λ p. 0) 0 ∷
    beginning 1 2 ++ claiming 1 20 ++
    Acts 1 20 (Intended 1 1) ∷ []

-- and it is clear
abbrev pub intended : List Event
intended = put ++ Acts 1 20 (Cleared 1 1 true) ∷ []

-- and its line is handed over, while the process dies
abbrev pub handed : List Event
handed = intended ++ Misses 1 20 (Perform 1 1) ∷ []

-- another process asks for it, and notes that it is in doubt
abbrev pub asked : List Event
asked =
    Starts 1 (pending ∷ []) ∷
    Acts 1 30 (Asked 1 1 (Answered 1 Doubt Leave)) ∷
    Acts 1 30 (Noted 1 Doubt) ∷
    Dies 1 ∷ []

-- another worker has the line in another round, and performs it
abbrev pub again : List Event
again =
    beginning 2 3 ++ claiming 2 50 ++
    Acts 2 50 (Intended 1 1) ∷
    Acts 2 50 (Cleared 1 1 true) ∷
    Acts 2 50 (Performed 1 1 (Answered 1 (Done 0) Go)) ∷
    Acts 2 50 (Noted 1 (Done 0)) ∷
    Acts 2 50 (Stored 3 1) ∷ []

abbrev pub events : List Event
events = handed ++ asked ++ Says undone ∷ again

-- by all but the intent of which the person spoke
abbrev pub truly : ℕ → ℕ → Bool
truly p n = p == 2

-- a round may be begun by these findings and journals, each of which is all that is read
module _ (w : Site) (lines : ℕ) (findings : List Finding) (entries : ℕ → List Entry) (attempts : ℕ → List Attempt) where
  abbrev IsReadAt : ℕ → Type 0
  IsReadAt p = (is_inside (w.whereabouts p) ≡ false) × (read_of (w.journals p) ≡ entries p ++ []) × (journal_of lines (entries p) ≡ Some (attempts p))

  pub may_begin : (g : Givens) (r : RecordView) → read_of w.findings ≡ findings ++ [] → AllUpTo MAX_WORKERS IsReadAt
      → ((line : ℕ) → has r.lines line ≡ true → has (open_lines findings (table MAX_WORKERS attempts) lines) line ≡ true) → is_sound r ≡ true
      → g.jobs ≡ r.givens.jobs → g.workers ≡ r.givens.workers → MayBegin w g r lines
  may_begin g r read all are_open sound jobs workers = record {
    nobody = λ q is. (each IsReadAt all q is).0;
    findings = findings;
    findings_seen = ([], read);
    entries = entries;
    entries_seen = λ q is. ([], (each IsReadAt all q is).1, tt);
    attempts = attempts;
    journals = λ q is. (each IsReadAt all q is).2;
    are_open = are_open;
    sound = sound;
    jobs = jobs;
    workers = workers;
  }

pub is_run : IsRun events
is_run =
    (number_1, refl) ▸
    may_begin _ 1 [] (λ p. []) (λ p. []) one_job (record_by 1 1) refl ((((((((((((((((tt, (refl, refl, refl)), (refl, refl, refl)), (refl, refl, refl)), (refl, refl, refl)), (refl, refl, refl)), (refl, refl, refl)), (refl, refl, refl)), (refl, refl, refl)), (refl, refl, refl)), (refl, refl, refl)), (refl, refl, refl)), (refl, refl, refl)), (refl, refl, refl)), (refl, refl, refl)), (refl, refl, refl)), (refl, refl, refl)) (λ line h. h) refl refl refl ▸
    record { asked = refl; joinable = refl; round = _; stands = refl; seat = refl; attempts = []; journal = refl; next = refl } ▸
    (number_1, (only_worker, refl, refl)) ▸ (number_1, (only_worker, refl, refl)) ▸ (number_1, (only_worker, refl, refl)) ▸
    (number_1, (only_worker, refl, tt)) ▸ (number_1, (only_worker, refl, tt)) ▸
    (number_1, (only_worker, refl)) ▸
    tt ▸
    (number_1, refl) ▸
    may_begin _ 1 [] (λ p. []) (λ p. []) one_job (record_by 2 1) refl ((((((((((((((((tt, (refl, refl, refl)), (refl, refl, refl)), (refl, refl, refl)), (refl, refl, refl)), (refl, refl, refl)), (refl, refl, refl)), (refl, refl, refl)), (refl, refl, refl)), (refl, refl, refl)), (refl, refl, refl)), (refl, refl, refl)), (refl, refl, refl)), (refl, refl, refl)), (refl, refl, refl)), (refl, refl, refl)), (refl, refl, refl)) (λ line h. h) refl refl refl ▸
    record { asked = refl; joinable = refl; round = _; stands = refl; seat = refl; attempts = []; journal = refl; next = refl } ▸
    (number_1, (only_worker, refl, refl)) ▸ (number_1, (only_worker, refl, refl)) ▸ (number_1, (only_worker, refl, refl)) ▸
    (number_1, (only_worker, refl, tt)) ▸ (number_1, (only_worker, refl, tt)) ▸
    (number_1, (only_worker, refl, tt)) ▸ (number_1, (only_worker, refl, tt)) ▸
    (number_1, (only_worker, refl)) ▸
    (number_1, refl) ▸
    (number_1, refl) ▸
    (number_1, refl) ▸
    tt ▸
    record { attempts = in_doubt ∷ []; journal = refl; high = omega arith } ▸
    (number_2, refl) ▸
    may_begin _ 1 (undone ∷ []) (λ p. if p == 1 then IntentOf 1 1 20 ∷ AnswerTo 1 (NotedDoubt 30) ∷ [] else []) (λ p. if p == 1 then in_doubt ∷ [] else []) one_job (record_by 3 2) refl ((((((((((((((((tt, (refl, refl, refl)), (refl, refl, refl)), (refl, refl, refl)), (refl, refl, refl)), (refl, refl, refl)), (refl, refl, refl)), (refl, refl, refl)), (refl, refl, refl)), (refl, refl, refl)), (refl, refl, refl)), (refl, refl, refl)), (refl, refl, refl)), (refl, refl, refl)), (refl, refl, refl)), (refl, refl, refl)), (refl, refl, refl)) (λ line h. h) refl refl refl ▸
    record { asked = refl; joinable = refl; round = _; stands = refl; seat = refl; attempts = []; journal = refl; next = refl } ▸
    (number_2, (only_worker, refl, refl)) ▸ (number_2, (only_worker, refl, refl)) ▸ (number_2, (only_worker, refl, refl)) ▸
    (number_2, (only_worker, refl, tt)) ▸ (number_2, (only_worker, refl, tt)) ▸
    (number_2, (only_worker, refl, tt)) ▸ (number_2, (only_worker, refl, tt)) ▸
    (number_2, (only_worker, refl, tt)) ▸
    (number_2, (only_worker, refl, tt)) ▸
    (number_2, (only_worker, refl, tt)) ▸ tt

pub names : names_of (handings events) ≡ (1, 1) ∷ (2, 1) ∷ []
names = refl

pub lines : performed_lines truly (handings events) ≡ 1 ∷ []
lines = refl

pub unperformed : AreUnperformed truly (openings events)
unperformed p n h =
    let first = and_parts (1 == p) (1 == n) (true_of ((1 == p) && (1 == n)) h) in
    subst (λ k. (k == 2) ≡ false) (eqb-true 1 p first.0) refl
  where
    true_of : (b : Bool) → (b || false) ≡ true → b ≡ true
    true_of true h = refl
    true_of false h = h
