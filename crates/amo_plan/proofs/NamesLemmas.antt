-- The names of the jobs so far, and what is to come.
use Rattle.std.proofs.Common.{◌≡◌, ℕ, ◌+◌, ◌<◌, Bool, true, false, cond, List, [], ◌∷◌, length, get_or, drop, Option, Some, Ok, Err, Bor, refl, sym, ap, ◌∙◌}
use Rattle.std.specs.Prelude.{is_some, ◌||◌}
use Rattle.std.specs.Str.{bytes_eq}
use Rattle.std.specs.BTreeMap.{BTreeMap, get_by, UpdatesBy}
use Rattle.std.specs.Cmp.Lexicographic.{slice_cmp}
use Rattle.std.specs.Ordering.{nat_cmp}
use Rattle.std.proofs.lemmas.Bool.Decides.{same_from_decides, Decides-like}
use Rattle.std.proofs.lemmas.List.{drop_more}
use Rattle.std.proofs.lemmas.Map.Text.{btree_map_updates_str}
use Rattle.std.proofs.lemmas.Slice.Eq.{bytes_eq-Decides}
use Rattle.amo_plan.specs.declared.fault.PlanFault.{PlanFault}
use Rattle.amo_plan.specs.declared.job.Job.{Job}
use Rattle.amo_plan.specs.Passing.{capped}
use Rattle.amo_plan.specs.Tree.{Key, is_known}
use Rattle.amo_plan.specs.Jobs.{fine_job, fine_jobs}

-- the jobs from i on, after the earlier ones, decide
abbrev pub Decide : List Job → ℕ → List Key → Type 0
Decide js i earlier = fine_jobs earlier (i + 1) (drop i js) ≡ fine_jobs [] 1 js

pub fine_more : (js : List Job) (i : ℕ) (earlier : List Key) (job : Job) (is_taken : Bool) (place : ℕ) (x : Unit {0}) → i < length js → job ≡ get_or js i job → is_taken ≡ is_known earlier job.name → place ≡ capped (i + 1) → fine_job is_taken place job ≡ Ok x → Decide js i earlier → Decide js (i + 1) (job.name ∷ earlier)
fine_more js i earlier job is_taken place x lt is known at_i fine so_far =
    let next : drop i js ≡ job ∷ drop (i + 1) js = rw (← is) at (drop_more js i job lt) in
    let here : fine_job (is_known earlier job.name) (capped (i + 1)) job ≡ Ok x = rw (← known, ← at_i) fine in
    (rw (next, here) at so_far)

pub fine_stop : (js : List Job) (i : ℕ) (earlier : List Key) (job : Job) (is_taken : Bool) (place : ℕ) (e : PlanFault) → i < length js → job ≡ get_or js i job → is_taken ≡ is_known earlier job.name → place ≡ capped (i + 1) → fine_job is_taken place job ≡ Err e → Decide js i earlier → fine_jobs [] 1 js ≡ Err e
fine_stop js i earlier job is_taken place e lt is known at_i fine so_far =
    let next : drop i js ≡ job ∷ drop (i + 1) js = rw (← is) at (drop_more js i job lt) in
    let here : fine_job (is_known earlier job.name) (capped (i + 1)) job ≡ Err e = rw (← known, ← at_i) fine in
    sym (rw (next, here) at so_far)

-- a map to which each name is a key
abbrev pub Names : Type 0
Names = BTreeMap (Bor (List ℕ)) (Unit {0})

-- the map has this name
abbrev pub has_name : Names → Key → Bool
has_name names q = is_some (get_by (λ k. slice_cmp nat_cmp q k.now) names)

-- equality of texts has no order
pub bytes_eq-same : (xs ys : List ℕ) → bytes_eq xs ys ≡ bytes_eq ys xs
bytes_eq-same xs ys = same_from_decides (bytes_eq xs ys) (bytes_eq ys xs) (bytes_eq-Decides xs ys) (Decides-like (bytes_eq ys xs) sym sym (bytes_eq-Decides ys xs))

some_cond : {A : Type 0} (b : Bool) (x : A) (o : Option A) → is_some (cond b (Some x) o) ≡ (b || is_some o)
some_cond true x o = refl
some_cond false x o = refl

-- after a name is put in, the map has it, and what it had
pub has_more : (names more : Names) (earlier : List Key) (name : Key) → UpdatesBy (λ x y. slice_cmp nat_cmp x.now y.now) (λ k. slice_cmp nat_cmp name k.now) names more (Some tt) → ((q : Key) → has_name names q ≡ is_known earlier q) → (q : Key) → has_name more q ≡ is_known (name ∷ earlier) q
has_more names more earlier name put finds q =
    ap is_some (btree_map_updates_str name names more (Some tt) put q)
    ∙ some_cond (bytes_eq name q) tt (get_by (λ k. slice_cmp nat_cmp q k.now) names)
    ∙ rw (bytes_eq-same name q, finds q) refl
