-- The text that is written of a plan is read as that plan with the worst moves.
use Rattle.std.proofs.Common.{◌≡◌, ℕ, ◌+◌, ◌^◌, ◌<◌, ◌≤◌, Bool, true, false, List, [], ◌∷◌, length, map, replicate, Option, Some, None, Ok, refl, ap, ◌∙◌, subst, arith, inl, inr}
use Rattle.std.specs.Prelude.{pos, nat_le, ◌==◌, codes}
use Rattle.std.specs.Int.{div_ceil}
use Rattle.std.specs.List.{list_all}
use Rattle.std.specs.Str.{IsUtf8}
use Rattle.std.proofs.lemmas.Bool.{cases_Bool, le-leb}
use Rattle.std.proofs.lemmas.Bool.Decides.{nat_tests}
use Rattle.toml.specs.Data.{integer, Members, member, as_table}
use Rattle.amo_params.specs.Givens.{givens_of, numbers_or_fault}
use Rattle.amo_params.specs.Limits.{first_fault}
use Rattle.amo_params.specs.declared.givens.Givens.{Givens}
use Rattle.amo_params.specs.declared.givens.GivensFault.{GivensFault}
use Rattle.amo_plan.specs.declared.limits.TheConstants.{MOST_BYTES, MOST_MOVES, USUAL_BUDGET, MOST_IN_BLOCK}
use Rattle.amo_plan.specs.declared.task.Task.{Task}
use Rattle.amo_plan.specs.declared.task.Task.TheVariants.{Say, Add}
use Rattle.amo_plan.specs.Jobs.{job_at, read_jobs, fine_jobs}
use Rattle.amo_plan.specs.Keeps.{is_form}
use Rattle.amo_plan.specs.Limits.{budgets_within}
use Rattle.amo_plan.specs.Passing.{◌>>=◌, is_between, each, capped}
use Rattle.amo_plan.specs.Plan.{PlanSeen, document, or_bad_givens, plan_in, plan_with, plan_of}
use Rattle.amo_plan.specs.declared.fault.PlanFault.TheVariants.{TooLong}
use Rattle.amo_plan.specs.Schedule.{read_schedule}
use Rattle.amo_plan.specs.Top.{TopSeen, form_of, more_values, top_values, top_of}
use Rattle.amo_plan.specs.Tree.{natural, all_of}
use Rattle.amo_plan.proofs.KeepsLemmas.{plan_keeps}
use Rattle.amo_plan.proofs.PassingLemmas.{bind_ok, ok_is, unless_ok}
use Rattle.amo_plan.proofs.PlanLemmas.{document_ok, plan_in_is}
use Rattle.amo_bounds.specs.Worst.{worst_moves}
use Rattle.amo_worst_case.specs.Answer.{IsSmall, worst_plan}
use Rattle.amo_worst_case.specs.Schedule.{worst_schedule}
use Rattle.amo_worst_case.specs.Text.{plan_text}
use Rattle.amo_worst_case.specs.Tree.{number_items, job_tree, job_items, with_jobs, with_block, last_keys, tree_of, are_integers}
use Rattle.amo_worst_case.proofs.ReadWords.{schedule_read}
use Rattle.amo_worst_case.proofs.TreeTexts.{tree_read}

-- the tables of the jobs

abbrev job_tables : List (List ℕ) → List Task → List Members
job_tables [] tasks = []
job_tables (name ∷ names) [] = []
job_tables (name ∷ names) (task ∷ tasks) = job_tree name task ∷ job_tables names tasks

tables_read : (names : List (List ℕ)) (tasks : List Task) → all_of as_table (job_items names tasks) ≡ Some (job_tables names tasks)
tables_read [] tasks = refl
tables_read (name ∷ names) [] = refl
tables_read (name ∷ names) (task ∷ tasks) = rw (tables_read names tasks) refl

numbers_read : (ns : List ℕ) → all_of natural (number_items ns) ≡ Some ns
numbers_read [] = refl
numbers_read (n ∷ ns) = rw (numbers_read ns) refl

job_read : (j : ℕ) (name : List ℕ) (task : Task) → job_at j (job_tree name task) ≡ Ok (record { name = name; task = task })
unfolding job_at
job_read j name (Say text) = refl
job_read j name (Add ns) = rw (numbers_read ns) refl

-- jobs that were tried are read again
jobs_read : (i : ℕ) (jobs : List _) (r : _) → fine_jobs [] 1 jobs ≡ r → each job_at i (job_tables (map (λ job. job.name) jobs) (map (λ job. job.task) jobs)) ≡ Ok jobs
jobs_read i [] r tried = refl
jobs_read i (job ∷ jobs) r tried = rw (job_read (capped i) job.name job.task, jobs_read (i + 1) jobs (fine_jobs [] 1 jobs) refl) refl

-- the top level

abbrev top_seen : ℕ → ℕ → Givens → List (List ℕ) → List Task → TopSeen
top_seen version block g names tasks =
    record {
      form = record { version = version; block = block };
      workers = g.workers;
      beta = g.beta;
      jobs = job_tables names tasks;
      more = record { schedule = worst_schedule g; rounds = 0; budgets = None };
    }

abbrev tree : Bool → ℕ → ℕ → Givens → List (List ℕ) → List Task → Members
tree left_out version block g names tasks = member (codes "beta") (integer (pos g.beta)) (with_block left_out block (with_jobs names tasks (last_keys version g)))

top_read_1 : (g : Givens) (names : List (List ℕ)) (tasks : List Task) → top_of (tree true 1 1 g names tasks) ≡ Ok (top_seen 1 1 g names tasks)
unfolding top_of top_values form_of more_values
top_read_1 g [] tasks = refl
top_read_1 g (name ∷ names) [] = refl
top_read_1 g (name ∷ names) (task ∷ tasks) = rw (tables_read names tasks) refl

top_read_2 : (block : ℕ) (g : Givens) (names : List (List ℕ)) (tasks : List Task) → is_between 1 MOST_IN_BLOCK block ≡ true → top_of (tree false 2 block g names tasks) ≡ Ok (top_seen 2 block g names tasks)
unfolding top_of top_values form_of more_values
top_read_2 block g [] tasks known = rw known refl
top_read_2 block g (name ∷ names) [] known = rw known refl
top_read_2 block g (name ∷ names) (task ∷ tasks) known = rw (known, tables_read names tasks) refl

top_read : (version block : ℕ) (g : Givens) (names : List (List ℕ)) (tasks : List Task) → is_form version block ≡ true → top_of (tree (version == 1) version block g names tasks) ≡ Ok (top_seen version block g names tasks)
top_read version block g names tasks form = elim (cases_Bool (version == 1)) [
  | inl one ↦
      let v : version ≡ 1 = grind (arith, nat_tests) in
      let b : block ≡ 1 = grind (arith, nat_tests) in
      rw (v, b) (top_read_1 g names tasks)
  | inr other ↦
      let v : version ≡ 2 = grind (arith, nat_tests) in
      let b : is_between 1 MOST_IN_BLOCK block ≡ true = grind (arith, nat_tests) in
      rw v (top_read_2 block g names tasks b)
]

-- the givens have the numbers that they are of
numbers_kept : (n m beta : ℕ) (fault : Option GivensFault) (is : first_fault n m beta ≡ fault) (g : Givens) → or_bad_givens (numbers_or_fault n m beta fault is) ≡ Ok g → (m ≡ g.workers) × (beta ≡ g.beta)
numbers_kept n m beta None is g e = let same = ok_is _ g e in (ap (λ (h : Givens). h.workers) same, ap (λ (h : Givens). h.beta) same)
numbers_kept n m beta (Some fault) is g e = absurd cc

-- what the plan of the tree comes to
last : (version block : ℕ) (g : Givens) (names : List (List ℕ)) (tasks : List Task) (jobs : List _) (fine : _) → fine_jobs [] 1 jobs ≡ Ok fine → length (worst_moves g) ≤ MOST_MOVES
    → plan_with (top_seen version block g names tasks) g jobs
    ≡ Ok (record { version = version; block = block; givens = g; names = map (λ job. job.name) jobs; tasks = map (λ job. job.task) jobs; moves = worst_moves g; rounds = 0; budgets = replicate g.workers USUAL_BUDGET })
unfolding plan_with budgets_within
last version block g names tasks jobs fine of_fine short = rw (of_fine, schedule_read version g short) refl

-- a plan of these parts, and the one that is written of it
again : (top : TopSeen) (g : Givens) (jobs : List _) (p : PlanSeen) → plan_with top g jobs ≡ Ok p → or_bad_givens (givens_of (div_ceil (length jobs) top.form.block) g.workers g.beta) ≡ Ok g
    → is_form p.version p.block ≡ true → length (worst_moves p.givens) ≤ MOST_MOVES → plan_in (tree_of (p.version == 1) p) ≡ Ok (worst_plan p)
unfolding plan_with
again top g jobs p e givens =
    let (fine, of_fine, e1) = bind_ok (fine_jobs [] 1 jobs) _ p e in
    let (moves, of_moves, e2) = bind_ok (read_schedule top.form.version top.workers top.more.schedule) _ p e1 in
    let (budgets, of_budgets, e3) = bind_ok (budgets_within top.workers top.more.rounds top.more.budgets) _ p e2 in
    let names : List (List ℕ) = map (λ job. job.name) jobs in
    let tasks : List Task = map (λ job. job.task) jobs in
    let plan : PlanSeen = record { version = top.form.version; block = top.form.block; givens = g; names = names; tasks = tasks; moves = moves; rounds = top.more.rounds; budgets = budgets } in
    let same : plan ≡ p = ok_is plan p e3 in
    subst (λ (q : PlanSeen). is_form q.version q.block ≡ true → length (worst_moves q.givens) ≤ MOST_MOVES → plan_in (tree_of (q.version == 1) q) ≡ Ok (worst_plan q)) same
    (λ form short. plan_in_is (tree_of (plan.version == 1) plan) (top_seen plan.version plan.block g names tasks) jobs g (length jobs) refl
    (top_read plan.version plan.block g names tasks form) (jobs_read 1 jobs (Ok fine) of_fine) givens
    ∙ last top.form.version top.form.block g names tasks jobs fine of_fine short)

in_again : (doc : Members) (p : PlanSeen) → plan_in doc ≡ Ok p → is_form p.version p.block ≡ true → length (worst_moves p.givens) ≤ MOST_MOVES → plan_in (tree_of (p.version == 1) p) ≡ Ok (worst_plan p)
unfolding plan_in
in_again doc p e =
    let (top, of_top, e1) = bind_ok (top_of doc) _ p e in
    let (jobs, of_jobs, e2) = bind_ok (read_jobs top.jobs) _ p e1 in
    let n = div_ceil (length jobs) top.form.block in
    let (g, of_g, e3) = bind_ok (or_bad_givens (givens_of n top.workers top.beta)) _ p e2 in
    let (workers, beta) = numbers_kept n top.workers top.beta (first_fault n top.workers top.beta) refl g of_g in
    again top g jobs p e3 (subst (λ m. or_bad_givens (givens_of n m g.beta) ≡ Ok g) workers (subst (λ b. or_bad_givens (givens_of n top.workers b) ≡ Ok g) beta of_g))

plan_whole : (bytes : List ℕ) (p : PlanSeen) → plan_of bytes ≡ Ok p → list_all are_integers p.tasks ≡ true → IsSmall p → IsUtf8 (plan_text p) → is_form p.version p.block ≡ true → p.version < 2 ^ 63 → p.block < 2 ^ 63 → plan_of (plan_text p) ≡ Ok (worst_plan p)
unfolding plan_of
plan_whole bytes p e integers small text form version block =
    let short = unless_ok (nat_le (length bytes) MOST_BYTES) TooLong (document bytes >>= λ doc. plan_in doc) p e in
    let (doc, of_doc, e1) = bind_ok (document bytes) plan_in p short.1 in
    rw (le-leb (length (plan_text p)) MOST_BYTES small.brief, document_ok (plan_text p) (tree_of (p.version == 1) p) text (tree_read p version block integers)) (in_again doc p e1 form small.short)

pub plan_read : (bytes : List ℕ) (p : PlanSeen) → plan_of bytes ≡ Ok p → list_all are_integers p.tasks ≡ true → IsSmall p → IsUtf8 (plan_text p) → plan_of (plan_text p) ≡ Ok (worst_plan p)
plan_read bytes p e integers small text =
    let form : is_form p.version p.block ≡ true = (plan_keeps bytes p e).form in
    let version : p.version < 2 ^ 63 = grind (arith, nat_tests) in
    let block : p.block < 2 ^ 63 = grind (arith, nat_tests) in
    plan_whole bytes p e integers small text form version block
