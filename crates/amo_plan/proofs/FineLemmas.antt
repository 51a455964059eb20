-- The facts that hold after the tests of the jobs.
use Rattle.std.proofs.Common.{◌≡◌, ℕ, ◌+◌, Bool, true, false, ◌∙◌, List, [], ◌∷◌, map, Ok, refl}
use Rattle.std.specs.Prelude.{not}
use Rattle.std.proofs.lemmas.Bool.{not-true, or_parts}
use Rattle.std.specs.List.{list_all, AllByRecursion, IsDistinct}
use Rattle.std.specs.Str.{bytes_eq}
use Rattle.amo_plan.specs.declared.fault.PlanFault.TheVariants.{BadName, TwoNames, SumTooLarge}
use Rattle.amo_plan.specs.declared.job.Job.{Job}
use Rattle.amo_plan.specs.Keeps.{all_fit}
use Rattle.amo_plan.specs.Results.{fits}
use Rattle.amo_plan.specs.Passing.{unless, capped}
use Rattle.amo_plan.specs.Tree.{Key, is_known}
use Rattle.amo_plan.specs.Jobs.{is_name, fine_job, fine_jobs}
use Rattle.amo_plan.proofs.NamesLemmas.{bytes_eq-same}
use Rattle.amo_plan.proofs.PassingLemmas.{bind_ok, unless_ok}

-- a job that passes has a task that fits
job_fits : (is_taken : Bool) (j : ℕ) (job : Job) (x : Unit {0}) → fine_job is_taken j job ≡ Ok x → fits job.task ≡ true
unfolding fine_job
job_fits is_taken j job x e =
    let a = unless_ok (is_name job.name) (BadName j) (unless (not is_taken) (TwoNames j) (unless (fits job.task) (SumTooLarge j) (Ok tt))) x e in
    let b = unless_ok (not is_taken) (TwoNames j) (unless (fits job.task) (SumTooLarge j) (Ok tt)) x a.1 in
    (unless_ok (fits job.task) (SumTooLarge j) (Ok tt) x b.1).0

-- a job that passes has a proper name that is not taken
job_named : (is_taken : Bool) (j : ℕ) (job : Job) (x : Unit {0}) → fine_job is_taken j job ≡ Ok x → (is_name job.name ≡ true) × (is_taken ≡ false)
unfolding fine_job
job_named is_taken j job x e =
    let (proper, more) = unless_ok (is_name job.name) (BadName j) (unless (not is_taken) (TwoNames j) (unless (fits job.task) (SumTooLarge j) (Ok tt))) x e in
    let (free, last) = unless_ok (not is_taken) (TwoNames j) (unless (fits job.task) (SumTooLarge j) (Ok tt)) x more in
    (proper, not-true is_taken free)

-- jobs that pass have tasks that fit
pub jobs_fit : (earlier : List Key) (j : ℕ) (jobs : List Job) (x : Unit {0}) → fine_jobs earlier j jobs ≡ Ok x → all_fit (map (λ job. job.task) jobs) ≡ true
jobs_fit earlier j [] x e = refl
jobs_fit earlier j (job ∷ jobs) x e =
    let (first, here, more) = bind_ok (fine_job (is_known earlier job.name) (capped j) job) (λ _. fine_jobs (job.name ∷ earlier) (j + 1) jobs) x e in
    rw (job_fits (is_known earlier job.name) (capped j) job first here, jobs_fit (job.name ∷ earlier) (j + 1) jobs x more) refl

-- names that are in neither list
apart : (name : Key) (earlier : List Key) (names : List Key) → AllByRecursion (λ n. is_known (name ∷ earlier) n ≡ false) names → AllByRecursion (λ n. bytes_eq name n ≡ false) names × AllByRecursion (λ n. is_known earlier n ≡ false) names
apart name earlier [] all = (tt, tt)
apart name earlier (n ∷ names) all =
    let (here, more) = apart name earlier names all.1 in
    let (other, free) = or_parts (bytes_eq n name) (is_known earlier n) all.0 in
    ((bytes_eq-same name n ∙ other, here), (free, more))

-- what the names of jobs are
pub record AreNames (earlier : List Key) (names : List Key) : Type 0 where
  -- each is a proper name
  pub proper : list_all is_name names ≡ true
  -- none is one of the earlier ones
  pub free : AllByRecursion (λ n. is_known earlier n ≡ false) names
  -- no two are one
  pub distinct : IsDistinct bytes_eq names

-- jobs that pass have proper names, which all differ
pub jobs_named : (earlier : List Key) (j : ℕ) (jobs : List Job) (x : Unit {0}) → fine_jobs earlier j jobs ≡ Ok x → AreNames earlier (map (λ job. job.name) jobs)
unfolding IsDistinct
jobs_named earlier j [] x e = record { proper = refl; free = tt; distinct = tt }
jobs_named earlier j (job ∷ jobs) x e =
    let (first, here, more) = bind_ok (fine_job (is_known earlier job.name) (capped j) job) (λ _. fine_jobs (job.name ∷ earlier) (j + 1) jobs) x e in
    let (proper, untaken) = job_named (is_known earlier job.name) (capped j) job first here in
    let rest = jobs_named (job.name ∷ earlier) (j + 1) jobs x more in
    let (others, free) = apart job.name earlier (map (λ job. job.name) jobs) rest.free in
    record {
      proper = rw (proper, rest.proper) refl;
      free = (untaken, free);
      distinct = (others, rest.distinct);
    }
