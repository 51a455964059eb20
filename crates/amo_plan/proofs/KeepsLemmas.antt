-- The plans of the definition keep what each plan keeps.
use Rattle.std.proofs.Common.{◌≡◌, ◌≤◌, ℕ, zero, suc, true, cond, leb, List, [], length, map, Option, Some, None, Ok, refl, sym, ap, ◌∙◌, replicate, arith, inl, inr, subst}
use Rattle.std.specs.Prelude.{IfSome, ◌&&◌, ◌==◌, codes, option_and_then}
use Rattle.std.specs.Int.{div_ceil}
use Rattle.std.specs.List.{list_all}
use Rattle.std.proofs.lemmas.Bool.{cases_Bool, leb-true}
use Rattle.std.proofs.lemmas.Bool.Decides.{nat_tests}
use Rattle.std.proofs.lemmas.List.{length-map, length-replicate}
use Rattle.std.proofs.lemmas.Map.Made.{AllPairs-from_IsDistinct}
use Rattle.std.proofs.lemmas.Slice.Eq.{bytes_eq-Decides}
use Rattle.amo_params.specs.declared.moves.Move.{Move}
use Rattle.toml.specs.Data.{Data, Members, get_member}
use Rattle.amo_params.specs.declared.givens.Givens.{Givens}
use Rattle.amo_params.specs.declared.givens.GivensFault.{GivensFault}
use Rattle.amo_params.specs.Givens.{givens_of, numbers_or_fault}
use Rattle.amo_params.specs.Limits.{first_fault}
use Rattle.amo_plan.specs.declared.fault.PlanFault.TheVariants.{TooLong, WrongKind, UnknownKey, MissingKey}
use Rattle.amo_plan.specs.declared.job.Job.{Job}
use Rattle.amo_plan.specs.declared.limits.TheConstants.{NEWEST_VERSION, MOST_BYTES, MOST_MOVES, MOST_ROUNDS, USUAL_BUDGET, MOST_IN_BLOCK}
use Rattle.amo_plan.specs.declared.top.Form.{Form}
use Rattle.amo_plan.specs.Jobs.{read_jobs, fine_jobs}
use Rattle.amo_plan.specs.Keeps.{is_form, Keeps}
use Rattle.amo_plan.specs.Limits.{is_small, small_budgets, budgets_within}
use Rattle.amo_plan.specs.Plan.{PlanSeen, document, or_bad_givens, plan_with, plan_in, plan_of}
use Rattle.amo_plan.specs.Schedule.{words_of, read_words, moves_of, short_moves_of, read_schedule}
use Rattle.amo_plan.specs.Passing.{◌>>=◌, or_fault, unless, is_between}
use Rattle.amo_plan.specs.Top.{TopSeen, MoreSeen, version_of, block_in, block_of, so_many, jobs_of, text_of, rounds_of, budgets_of, is_two, is_top_key, form_of, more_values, top_values, top_of}
use Rattle.amo_plan.specs.Tree.{has, each_key, natural, naturals_in, natural_at}
use Rattle.amo_plan.proofs.FineLemmas.{jobs_fit, jobs_named}
use Rattle.amo_plan.proofs.PassingLemmas.{bind_ok, ok_is, or_ok, unless_ok, taken}
use Rattle.amo_plan.proofs.WithinLemmas.{schedule_in_range}

-- a number that was taken within its bounds
within_bounds : (low high : ℕ) (o : Option ℕ) (n : ℕ) → option_and_then (λ m. cond (is_between low high m) (Some m) None) o ≡ Some n → is_between low high n ≡ true
within_bounds low high None n e = absurd cc
within_bounds low high (Some m) n e =
    let (fits, is) = taken (is_between low high m) (Some m) n e in
    let same : m ≡ n = cc in
    rw (← same) fits

block_known : (o : Option Data) (b : ℕ) → block_in o ≡ Some b → is_between 1 MOST_IN_BLOCK b ≡ true
block_known None b e = let same : 1 ≡ b = cc in rw (← same) refl
block_known (Some d) b e = within_bounds 1 MOST_IN_BLOCK (natural d) b e

-- a version with its block
form_fits : (v b : ℕ) (o : Option ℕ) → is_between 1 NEWEST_VERSION v ≡ true → cond (v == 2) o (Some 1) ≡ Some b → (o ≡ Some b → is_between 1 MOST_IN_BLOCK b ≡ true) → is_form v b ≡ true
form_fits v b o known e fits =
    elim (cases_Bool (v == 2)) [
      | inl two ↦ let of_block : o ≡ Some b = rw two at e in let last : is_between 1 MOST_IN_BLOCK b ≡ true = fits of_block in grind (arith, nat_tests)
      | inr other ↦ let one : Some 1 ≡ Some b = rw other at e in let same : 1 ≡ b = cc in grind (arith, nat_tests)
    ]

form_known : (doc : Members) (form : Form) → form_of doc ≡ Ok form → is_form form.version form.block ≡ true
unfolding form_of
form_known doc form e =
    let (v, of_v, more) = bind_ok (or_fault (version_of doc) (WrongKind 0)) _ form e in
    let (b, of_b, last) = bind_ok (or_fault (block_of v doc) (WrongKind 0)) _ form more in
    let known : is_between 1 NEWEST_VERSION v ≡ true = within_bounds 1 NEWEST_VERSION (natural_at (codes "version") doc) v (or_ok (version_of doc) (WrongKind 0) v of_v) in
    let fits : is_form v b ≡ true = form_fits v b (block_in (get_member (codes "block") doc)) known (or_ok (block_of v doc) (WrongKind 0) b of_b) (block_known (get_member (codes "block") doc) b) in
    let same : record { version = v; block = b } ≡ form = ok_is _ form last in
    ap (λ (f : Form). is_form f.version f.block) (sym same) ∙ fits

-- budgets, if they are named, are as many as the workers
budgets_many : (m : ℕ) (xs : Option (List ℕ)) (bs : Option (List ℕ)) → option_and_then (so_many m) xs ≡ Some bs → IfSome bs (λ ys. length ys ≡ m)
budgets_many m None bs e = absurd cc
budgets_many m (Some xs) bs e =
    let (many, is) = taken (length xs == m) (Some (Some xs)) bs e in
    let same : Some xs ≡ bs = cc in
    let count : length xs ≡ m = grind (arith, nat_tests) in
    subst (λ (o : Option (List ℕ)). IfSome o (λ ys. length ys ≡ m)) same count

budgets_named : (m : ℕ) (o : Option Data) (bs : Option (List ℕ)) → budgets_of m o ≡ Some bs → IfSome bs (λ ys. length ys ≡ m)
budgets_named m None bs e =
    let same : None ≡ bs = cc in
    subst (λ (o : Option (List ℕ)). IfSome o (λ ys. length ys ≡ m)) same tt
budgets_named m (Some d) bs e = budgets_many m (naturals_in d) bs e

more_many : (m : ℕ) (doc : Members) (more : MoreSeen) → more_values m doc ≡ Ok more → IfSome more.budgets (λ ys. length ys ≡ m)
unfolding more_values
more_many m doc more e =
    let (schedule, of_s, e1) = bind_ok (or_fault (text_of (get_member (codes "schedule") doc)) (WrongKind 0)) _ more e in
    let (rounds, of_r, e2) = bind_ok (or_fault (rounds_of (get_member (codes "rounds") doc)) (WrongKind 0)) _ more e1 in
    let (budgets, of_b, e3) = bind_ok (or_fault (budgets_of m (get_member (codes "budgets") doc)) (WrongKind 0)) _ more e2 in
    let seen : MoreSeen = record { schedule = schedule; rounds = rounds; budgets = budgets } in
    let same : seen ≡ more = ok_is seen more e3 in
    subst (λ (t : MoreSeen). IfSome t.budgets (λ ys. length ys ≡ m)) same (budgets_named m (get_member (codes "budgets") doc) budgets (or_ok (budgets_of m (get_member (codes "budgets") doc)) (WrongKind 0) budgets of_b))

-- what the top level keeps
record TopKeeps (top : TopSeen) : Type 0 where
  form : is_form top.form.version top.form.block ≡ true
  budgets : IfSome top.more.budgets (λ ys. length ys ≡ top.workers)

top_keeps : (doc : Members) (top : TopSeen) → top_of doc ≡ Ok top → TopKeeps top
unfolding top_of top_values
top_keeps doc top e =
    let keys = unless_ok (each_key (is_top_key (is_two (version_of doc))) doc) (UnknownKey 0) (unless (has (codes "version") doc && (has (codes "workers") doc && has (codes "beta") doc)) (MissingKey 0) (top_values doc)) top e in
    let needed = unless_ok (has (codes "version") doc && (has (codes "workers") doc && has (codes "beta") doc)) (MissingKey 0) (top_values doc) top keys.1 in
    let (form, of_form, e1) = bind_ok (form_of doc) _ top needed.1 in
    let (workers, of_w, e2) = bind_ok (or_fault (natural_at (codes "workers") doc) (WrongKind 0)) _ top e1 in
    let (beta, of_beta, e3) = bind_ok (or_fault (natural_at (codes "beta") doc) (WrongKind 0)) _ top e2 in
    let (jobs, of_jobs, e4) = bind_ok (or_fault (jobs_of (get_member (codes "job") doc)) (WrongKind 0)) _ top e3 in
    let (more, of_more, e5) = bind_ok (more_values workers doc) _ top e4 in
    let seen : TopSeen = record { form = form; workers = workers; beta = beta; jobs = jobs; more = more } in
    let same : seen ≡ top = ok_is seen top e5 in
    subst TopKeeps {x = seen} same (record { form = form_known doc form of_form; budgets = more_many workers doc more of_more })

-- budgets within their limit are as many as the workers
small_many : (m : ℕ) (o : Option (List ℕ)) (out : List ℕ) → IfSome o (λ ys. length ys ≡ m) → small_budgets m o ≡ Ok out → length out ≡ m
small_many m None out many e = let same : replicate m USUAL_BUDGET ≡ out = ok_is _ out e in rw (← same) (length-replicate m USUAL_BUDGET)
small_many m (Some xs) out many e =
    let small = unless_ok (list_all is_small xs) TooLong (Ok xs) out e in
    let same : xs ≡ out = ok_is xs out small.1 in
    rw (← same) many

-- budgets within their limit are small
all_small : (m : ℕ) → list_all is_small (replicate m USUAL_BUDGET) ≡ true
all_small zero = refl
all_small (suc m) = all_small m

small_small : (m : ℕ) (o : Option (List ℕ)) (out : List ℕ) → small_budgets m o ≡ Ok out → list_all is_small out ≡ true
small_small m None out e = let same : replicate m USUAL_BUDGET ≡ out = ok_is _ out e in rw (← same) (all_small m)
small_small m (Some xs) out e =
    let small = unless_ok (list_all is_small xs) TooLong (Ok xs) out e in
    let same : xs ≡ out = ok_is xs out small.1 in
    rw (← same) small.0

-- and the rounds before them are not too many
budgets_few : (m rounds : ℕ) (o : Option (List ℕ)) (out : List ℕ) → budgets_within m rounds o ≡ Ok out → (leb rounds MOST_ROUNDS ≡ true) × (small_budgets m o ≡ Ok out)
unfolding budgets_within
budgets_few m rounds o out e = unless_ok (leb rounds MOST_ROUNDS) TooLong (small_budgets m o) out e

-- the moves that are read are not too many
schedule_short : (version m : ℕ) (text : List ℕ) (moves : List Move) → read_schedule version m text ≡ Ok moves → length moves ≤ MOST_MOVES
unfolding read_schedule short_moves_of
schedule_short version m text moves e =
    let (words, of_words, e1) = bind_ok (read_words version m (words_of text)) _ moves e in
    let few = unless_ok (leb (length (moves_of words)) MOST_MOVES) TooLong (Ok (moves_of words)) moves e1 in
    let same : moves_of words ≡ moves = ok_is _ _ few.1 in
    rw (← same) (leb-true (length (moves_of words)) MOST_MOVES few.0)

-- the givens have the numbers that they are of
numbers_kept : (n m beta : ℕ) (fault : Option GivensFault) (is : first_fault n m beta ≡ fault) (g : Givens) → or_bad_givens (numbers_or_fault n m beta fault is) ≡ Ok g → (n ≡ g.jobs) × (m ≡ g.workers)
numbers_kept n m beta None is g e = let same = ok_is _ g e in (ap (λ (h : Givens). h.jobs) same, ap (λ (h : Givens). h.workers) same)
numbers_kept n m beta (Some fault) is g e = absurd cc

with_keeps : (top : TopSeen) (g : Givens) (jobs : List Job) (p : PlanSeen) → TopKeeps top → div_ceil (length jobs) top.form.block ≡ g.jobs → top.workers ≡ g.workers → plan_with top g jobs ≡ Ok p → Keeps p
unfolding plan_with
with_keeps top g jobs p keeps count workers e =
    let (fine, of_fine, e1) = bind_ok (fine_jobs [] 1 jobs) _ p e in
    let (moves, of_moves, e2) = bind_ok (read_schedule top.form.version top.workers top.more.schedule) _ p e1 in
    let (budgets, of_budgets, e3) = bind_ok (budgets_within top.workers top.more.rounds top.more.budgets) _ p e2 in
    let plan : PlanSeen = record { version = top.form.version; block = top.form.block; givens = g; names = map (λ job. job.name) jobs; tasks = map (λ job. job.task) jobs; moves = moves; rounds = top.more.rounds; budgets = budgets } in
    let same : plan ≡ p = ok_is plan p e3 in
    let names = jobs_named [] 1 jobs fine of_fine in
    let few = budgets_few top.workers top.more.rounds top.more.budgets budgets of_budgets in
    subst Keeps same (record {
      form = keeps.form;
      blocks = simp length-map count;
      tasked = simp length-map;
      named = names.proper;
      distinct = AllPairs-from_IsDistinct bytes_eq-Decides (map (λ job. job.name) jobs) names.distinct;
      fitting = jobs_fit [] 1 jobs fine of_fine;
      within = schedule_in_range top.form.version g top.more.schedule moves (subst (λ (m : ℕ). read_schedule top.form.version m top.more.schedule ≡ Ok moves) workers of_moves);
      short = schedule_short top.form.version top.workers top.more.schedule moves of_moves;
      rounded = leb-true top.more.rounds MOST_ROUNDS few.0;
      budgeted = small_many top.workers top.more.budgets budgets keeps.budgets few.1 ∙ workers;
      small = small_small top.workers top.more.budgets budgets few.1;
    })

in_keeps : (doc : Members) (p : PlanSeen) → plan_in doc ≡ Ok p → Keeps p
unfolding plan_in
in_keeps doc p e =
    let (top, of_top, e1) = bind_ok (top_of doc) _ p e in
    let (jobs, of_jobs, e2) = bind_ok (read_jobs top.jobs) _ p e1 in
    let (g, of_g, e3) = bind_ok (or_bad_givens (givens_of (div_ceil (length jobs) top.form.block) top.workers top.beta)) _ p e2 in
    let (count, workers) = numbers_kept (div_ceil (length jobs) top.form.block) top.workers top.beta (first_fault (div_ceil (length jobs) top.form.block) top.workers top.beta) refl g of_g in
    with_keeps top g jobs p (top_keeps doc top of_top) count workers e3

-- each plan of a text keeps what a plan keeps
pub plan_keeps : (bytes : List ℕ) (p : PlanSeen) → plan_of bytes ≡ Ok p → Keeps p
unfolding plan_of
plan_keeps bytes p e =
    let short = unless_ok (leb (length bytes) MOST_BYTES) TooLong (document bytes >>= λ doc. plan_in doc) p e in
    let (doc, of_doc, e1) = bind_ok (document bytes) plan_in p short.1 in
    in_keeps doc p e1
