-- The text of the plan is a document of its tree.
use Rattle.std.proofs.Common.{◌≡◌, ℕ, ◌≤◌, ◌<◌, ◌^◌, Bool, true, false, List, [], ◌∷◌, ◌++◌, Some, refl, sym, ap, ◌∙◌, subst, arith, append_assoc, append-nil}
use Rattle.std.specs.Prelude.{pos, nat_lt, if◌then◌else◌, ◌==◌, codes, FitsSigned}
use Rattle.std.specs.Int.{w64}
use Rattle.std.specs.Fmt.{decimal}
use Rattle.std.specs.List.{flat_map, list_all}
use Rattle.std.proofs.lemmas.Bool.{and_parts, ltb-true}
use Rattle.std.proofs.lemmas.Bool.Decides.{nat_tests}
use Rattle.toml_parser.specs.Strings.{Key}
use Rattle.toml_writer.specs.Text.{string_text, key_text}
use Rattle.toml.specs.Data.{string, integer, array, Members, member, items_depth, members_depth, items_have_valid_dates, members_have_valid_dates, items_are_sorted, members_are_sorted}
use Rattle.toml.specs.Tables.{Definition, key_value, array_table, Expression}
use Rattle.toml.specs.Parse.{parse_document}
use Rattle.toml.specs.Text.{IsValueText, IsItemsText, IsLineText, IsLinesText, breaks_lines, are_tables, pairs, sections, elements, expressions}
use Rattle.toml.proofs.ReadBack.{parse_document-printed}
use Rattle.amo_params.specs.declared.givens.Givens.{Givens}
use Rattle.amo_plan.specs.declared.task.Task.{Task}
use Rattle.amo_plan.specs.declared.task.Task.TheVariants.{Say, Add}
use Rattle.amo_plan.specs.Plan.{PlanSeen}
use Rattle.amo_worst_case.specs.Schedule.{worst_schedule}
use Rattle.amo_worst_case.specs.Tree.{number_items, job_tree, job_items, with_jobs, with_block, last_keys, tree_of, are_integers}
use Rattle.amo_worst_case.specs.Text.{after_comma, listed, say_lines, add_lines, job_lines, all_job_lines, block_line, head_lines, plan_text}

fits : (n : ℕ) → n < 2 ^ 63 → FitsSigned w64 (pos n)
fits n small = omega arith

-- the text of numbers
numbers_text : (ns : List ℕ) → list_all (λ n. nat_lt n (2 ^ 63)) ns ≡ true → IsItemsText false false false (number_items ns) (flat_map after_comma ns ++ codes "]")
numbers_text [] small = refl
numbers_text (n ∷ ns) small =
    let (here, more) = and_parts (nat_lt n (2 ^ 63)) (list_all (λ k. nat_lt k (2 ^ 63)) ns) small in
    (decimal n, flat_map after_comma ns ++ codes "]", append_assoc (codes ", " ++ decimal n) (flat_map after_comma ns) (codes "]"), (refl, fits n (ltb-true n (2 ^ 63) here)), numbers_text ns more)

-- they stand in one line
one_line : (n : ℕ) (ns : List ℕ) → breaks_lines false (number_items (n ∷ ns)) ≡ false
one_line n [] = refl
one_line n (k ∷ ns) = refl

first_text : (n : ℕ) (ns : List ℕ) → list_all (λ k. nat_lt k (2 ^ 63)) (n ∷ ns) ≡ true → IsItemsText false false true (number_items (n ∷ ns)) ((decimal n ++ flat_map after_comma ns) ++ codes "]")
first_text n ns small =
    let (here, more) = and_parts (nat_lt n (2 ^ 63)) (list_all (λ k. nat_lt k (2 ^ 63)) ns) small in
    (decimal n, flat_map after_comma ns ++ codes "]", append_assoc (decimal n) (flat_map after_comma ns) (codes "]"), (refl, fits n (ltb-true n (2 ^ 63) here)), numbers_text ns more)

list_text : (ns : List ℕ) → list_all (λ n. nat_lt n (2 ^ 63)) ns ≡ true → IsValueText false (array (number_items ns)) (codes "[" ++ (listed ns ++ codes "]"))
list_text [] small = (codes "]", refl, refl)
list_text (n ∷ ns) small =
    let text : List ℕ = (decimal n ++ flat_map after_comma ns) ++ codes "]" in
    (text, refl, subst (λ b. IsItemsText false b true (number_items (n ∷ ns)) text) (sym (one_line n ns)) (first_text n ns small))

-- a line, and others below it
line : (started : Bool) (key : Key) (d : Definition) (this rest text : List ℕ) (es : List Expression) → text ≡ this ++ rest → IsLineText false started key d this → IsLinesText false true es rest
    → IsLinesText false started ((key, d) ∷ es) text
line started key d this rest text es is this_line below = (this, rest, is, this_line, below)

abbrev job_key : Key
job_key = ([], codes "job")

-- what a line ends with and the lines below it
cut : (this below rest : List ℕ) → (this ++ 10 ∷ below) ++ rest ≡ (this ++ 10 ∷ []) ++ (below ++ rest)
cut this below rest = append_assoc this (10 ∷ below) rest ∙ sym (append_assoc this (10 ∷ []) (below ++ rest))

-- the lines of a job

say_text : (name text : List ℕ) (es : List Expression) (rest : List ℕ) → IsLinesText false true es rest
    → IsLinesText false true ((job_key, array_table) ∷ (([], codes "name"), key_value (string name)) ∷ (([], codes "say"), key_value (string text)) ∷ es) (job_lines name (Say text) ++ rest)
unfolding say_lines key_text
say_text name text es rest below =
    let said : List ℕ = codes "say = " ++ (string_text text ++ 10 ∷ []) in
    let named : List ℕ = codes "name = " ++ (string_text name ++ 10 ∷ []) in
    let last : List Expression = (([], codes "say"), key_value (string text)) ∷ es in
    let both : List Expression = (([], codes "name"), key_value (string name)) ∷ last in
    line true job_key array_table (codes "\n[[job]]\n") (named ++ (said ++ rest)) (job_lines name (Say text) ++ rest) both (ap (λ l. codes "\n[[job]]\nname = " ++ l) (cut (string_text name) said rest)) refl
    (line true ([], codes "name") (key_value (string name)) named (said ++ rest) (named ++ (said ++ rest)) last refl (string_text name, refl, refl)
    (line true ([], codes "say") (key_value (string text)) said rest (said ++ rest) es refl (string_text text, refl, refl) below))

add_text : (name ns : List ℕ) (es : List Expression) (rest : List ℕ) → list_all (λ n. nat_lt n (2 ^ 63)) ns ≡ true → IsLinesText false true es rest
    → IsLinesText false true ((job_key, array_table) ∷ (([], codes "add"), key_value (array (number_items ns))) ∷ (([], codes "name"), key_value (string name)) ∷ es) (job_lines name (Add ns) ++ rest)
unfolding add_lines key_text
add_text name ns es rest small below =
    let named : List ℕ = codes "name = " ++ (string_text name ++ 10 ∷ []) in
    let added : List ℕ = codes "add = [" ++ ((listed ns ++ 93 ∷ []) ++ 10 ∷ []) in
    let last : List Expression = (([], codes "name"), key_value (string name)) ∷ es in
    let both : List Expression = (([], codes "add"), key_value (array (number_items ns))) ∷ last in
    line true job_key array_table (codes "\n[[job]]\n") (added ++ (named ++ rest)) (job_lines name (Add ns) ++ rest) both
    (ap (λ l. codes "\n[[job]]\nadd = [" ++ l)
    (append_assoc (listed ns) (93 ∷ 10 ∷ named) rest ∙ sym (append_assoc (listed ns) (93 ∷ []) (10 ∷ (named ++ rest))) ∙ sym (append_assoc (listed ns ++ 93 ∷ []) (10 ∷ []) (named ++ rest)))) refl
    (line true ([], codes "add") (key_value (array (number_items ns))) added (named ++ rest) (added ++ (named ++ rest)) last refl (codes "[" ++ (listed ns ++ codes "]"), refl, list_text ns small)
    (line true ([], codes "name") (key_value (string name)) named rest (named ++ rest) es refl (string_text name, refl, refl) below))

job_text : (name : List ℕ) (task : Task) (es : List Expression) (rest : List ℕ) → are_integers task ≡ true → IsLinesText false true es rest
    → IsLinesText false true ((job_key, array_table) ∷ (pairs (job_tree name task) ++ sections (codes "job" ∷ []) (job_tree name task)) ++ es) (job_lines name task ++ rest)
job_text name (Say text) es rest small below = say_text name text es rest below
job_text name (Add []) es rest small below = add_text name [] es rest small below
job_text name (Add (n ∷ ns)) es rest small below = add_text name (n ∷ ns) es rest small below

jobs_text : (names : List (List ℕ)) (tasks : List Task) → list_all are_integers tasks ≡ true → IsLinesText false true (elements job_key (job_items names tasks)) (all_job_lines names tasks)
jobs_text [] tasks small = refl
jobs_text (name ∷ names) [] small = refl
jobs_text (name ∷ names) (task ∷ tasks) small =
    let (here, more) = and_parts (are_integers task) (list_all are_integers tasks) small in
    job_text name task (elements job_key (job_items names tasks)) (all_job_lines names tasks) here (jobs_text names tasks more)

-- the lines above the jobs

abbrev last_lines : ℕ → Givens → List ℕ
last_lines version g =
    codes "schedule = " ++ (string_text (worst_schedule g) ++ 10 ∷ (codes "version = " ++ (decimal version ++ 10 ∷ (codes "workers = " ++ (decimal g.workers ++ 10 ∷ [])))))

last_text : (version : ℕ) (g : Givens) (es : List Expression) (rest : List ℕ) → version < 2 ^ 63 → IsLinesText false true es rest
    → IsLinesText false true ((([], codes "schedule"), key_value (string (worst_schedule g))) ∷ (([], codes "version"), key_value (integer (pos version))) ∷ (([], codes "workers"), key_value (integer (pos g.workers))) ∷ es) (last_lines version g ++ rest)
unfolding key_text
last_text version g es rest small below =
    let words : List ℕ = string_text (worst_schedule g) in
    let workers : List ℕ = codes "workers = " ++ (decimal g.workers ++ 10 ∷ []) in
    let versions : List ℕ = codes "version = " ++ (decimal version ++ 10 ∷ []) in
    let few : g.workers < 2 ^ 63 = let most = g.limits.few_workers in omega arith in
    let last : List Expression = (([], codes "workers"), key_value (integer (pos g.workers))) ∷ es in
    let both : List Expression = (([], codes "version"), key_value (integer (pos version))) ∷ last in
    line true ([], codes "schedule") (key_value (string (worst_schedule g))) (codes "schedule = " ++ (words ++ 10 ∷ [])) (versions ++ (workers ++ rest)) (last_lines version g ++ rest) both
    (ap (λ l. codes "schedule = " ++ l) (cut words (codes "version = " ++ (decimal version ++ 10 ∷ workers)) rest
    ∙ ap (λ l. (words ++ 10 ∷ []) ++ (codes "version = " ++ l)) (cut (decimal version) workers rest))) (words, refl, refl)
    (line true ([], codes "version") (key_value (integer (pos version))) versions (workers ++ rest) (versions ++ (workers ++ rest)) last refl (decimal version, refl, (refl, fits version small))
    (line true ([], codes "workers") (key_value (integer (pos g.workers))) workers rest (workers ++ rest) es refl (decimal g.workers, refl, (refl, fits g.workers few)) below))

abbrev block_pairs : Bool → ℕ → List Expression
block_pairs true block = []
block_pairs false block = (([], codes "block"), key_value (integer (pos block))) ∷ []

abbrev block_lines : Bool → ℕ → List ℕ
block_lines left_out block = if left_out then [] else codes "block = " ++ (decimal block ++ 10 ∷ [])

block_text : (left_out : Bool) (block : ℕ) (es : List Expression) (text rest : List ℕ) → block < 2 ^ 63 → IsLinesText false true es (text ++ rest)
    → IsLinesText false true (block_pairs left_out block ++ es) ((block_lines left_out block ++ text) ++ rest)
unfolding key_text
block_text true block es text rest small below = below
block_text false block es text rest small below =
    let lines : List ℕ = codes "block = " ++ (decimal block ++ 10 ∷ []) in
    line true ([], codes "block") (key_value (integer (pos block))) lines (text ++ rest) ((lines ++ text) ++ rest) es (append_assoc lines text rest) (decimal block, refl, (refl, fits block small)) below

head_text : (left_out : Bool) (version block : ℕ) (g : Givens) (es : List Expression) (rest : List ℕ) → version < 2 ^ 63 → block < 2 ^ 63 → IsLinesText false true es rest
    → IsLinesText false false ((([], codes "beta"), key_value (integer (pos g.beta))) ∷ block_pairs left_out block
    ++ (([], codes "schedule"), key_value (string (worst_schedule g))) ∷ (([], codes "version"), key_value (integer (pos version))) ∷ (([], codes "workers"), key_value (integer (pos g.workers))) ∷ es)
    ((codes "beta = " ++ (decimal g.beta ++ 10 ∷ (block_lines left_out block ++ last_lines version g))) ++ rest)
unfolding key_text
head_text left_out version block g es rest small short below =
    let few : g.beta < 2 ^ 63 = let most = g.limits.beta_high in omega arith in
    let last : List Expression =
    (([], codes "schedule"), key_value (string (worst_schedule g))) ∷ (([], codes "version"), key_value (integer (pos version))) ∷ (([], codes "workers"), key_value (integer (pos g.workers))) ∷ es in
    let above : List ℕ = block_lines left_out block ++ last_lines version g in
    line false ([], codes "beta") (key_value (integer (pos g.beta))) (codes "beta = " ++ (decimal g.beta ++ 10 ∷ [])) (above ++ rest) ((codes "beta = " ++ (decimal g.beta ++ 10 ∷ above)) ++ rest) (block_pairs left_out block ++ last)
    (ap (λ l. codes "beta = " ++ l) (cut (decimal g.beta) above rest)) (decimal g.beta, refl, (refl, fits g.beta few))
    (block_text left_out block last (last_lines version g) rest short (last_text version g es rest small below))

-- the lines of the tree

all_tables : (names : List (List ℕ)) (tasks : List Task) → are_tables (job_items names tasks) ≡ true
all_tables [] tasks = refl
all_tables (name ∷ names) [] = refl
all_tables (name ∷ names) (task ∷ tasks) = all_tables names tasks

tree_lines : (left_out : Bool) (version block : ℕ) (g : Givens) (names : List (List ℕ)) (tasks : List Task)
    → expressions (member (codes "beta") (integer (pos g.beta)) (with_block left_out block (with_jobs names tasks (last_keys version g))))
    ≡ (([], codes "beta"), key_value (integer (pos g.beta))) ∷ block_pairs left_out block
    ++ (([], codes "schedule"), key_value (string (worst_schedule g))) ∷ (([], codes "version"), key_value (integer (pos version))) ∷ (([], codes "workers"), key_value (integer (pos g.workers)))
    ∷ elements job_key (job_items names tasks)
unfolding worst_schedule
tree_lines true version block g [] tasks = refl
tree_lines false version block g [] tasks = refl
tree_lines true version block g (name ∷ names) [] = refl
tree_lines false version block g (name ∷ names) [] = refl
tree_lines true version block g (name ∷ names) (task ∷ tasks) = rw (all_tables names tasks, append-nil (elements job_key (job_items (name ∷ names) (task ∷ tasks)))) refl
tree_lines false version block g (name ∷ names) (task ∷ tasks) = rw (all_tables names tasks, append-nil (elements job_key (job_items (name ∷ names) (task ∷ tasks)))) refl

-- the tree is shallow, without dates, and its keys ascend

numbers_flat : (ns : List ℕ) → (items_depth (number_items ns) ≡ 0) × (items_have_valid_dates (number_items ns) ≡ true) × (items_are_sorted (number_items ns) ≡ true)
numbers_flat [] = (refl, refl, refl)
numbers_flat (n ∷ ns) = let h = numbers_flat ns in (rw h.0 refl, h.1, h.2)

abbrev IsFlat : Members → Type 0
IsFlat ms = (members_depth ms ≤ 1) × (members_have_valid_dates ms ≡ true) × (members_are_sorted ms ≡ true)

job_flat : (name : List ℕ) (task : Task) → IsFlat (job_tree name task)
job_flat name (Say text) = (omega arith, refl, refl)
job_flat name (Add ns) = let h = numbers_flat ns in (rw h.0 (omega arith), rw h.1 refl, rw h.2 refl)

jobs_flat : (names : List (List ℕ)) (tasks : List Task)
    → (items_depth (job_items names tasks) ≤ 2) × (items_have_valid_dates (job_items names tasks) ≡ true) × (items_are_sorted (job_items names tasks) ≡ true)
jobs_flat [] tasks = (omega arith, refl, refl)
jobs_flat (name ∷ names) [] = (omega arith, refl, refl)
jobs_flat (name ∷ names) (task ∷ tasks) =
    let here = job_flat name task in
    let more = jobs_flat names tasks in
    let deep = here.0 in
    let deeper = more.0 in
    (grind (arith, nat_tests), rw (here.1, more.1) refl, rw (here.2, more.2) refl)

tree_flat : (left_out : Bool) (version block : ℕ) (g : Givens) (names : List (List ℕ)) (tasks : List Task)
    → let ms = member (codes "beta") (integer (pos g.beta)) (with_block left_out block (with_jobs names tasks (last_keys version g))) in
    (members_depth ms ≤ 80) × (members_have_valid_dates ms ≡ true) × (members_are_sorted ms ≡ true)
tree_flat true version block g [] tasks = (omega arith, refl, refl)
tree_flat false version block g [] tasks = (omega arith, refl, refl)
tree_flat true version block g (name ∷ names) [] = (omega arith, refl, refl)
tree_flat false version block g (name ∷ names) [] = (omega arith, refl, refl)
tree_flat true version block g (name ∷ names) (task ∷ tasks) =
    let h = jobs_flat (name ∷ names) (task ∷ tasks) in let deep = h.0 in (grind (arith, nat_tests), rw h.1 refl, rw h.2 refl)
tree_flat false version block g (name ∷ names) (task ∷ tasks) =
    let h = jobs_flat (name ∷ names) (task ∷ tasks) in let deep = h.0 in (grind (arith, nat_tests), rw h.1 refl, rw h.2 refl)

-- so the text is read as the tree
pub tree_read : (p : PlanSeen) → p.version < 2 ^ 63 → p.block < 2 ^ 63 → list_all are_integers p.tasks ≡ true → parse_document (plan_text p) ≡ Some (tree_of (p.version == 1) p)
unfolding head_lines block_line
tree_read p small short integers =
    let flat = tree_flat (p.version == 1) p.version p.block p.givens p.names p.tasks in
    let text = head_text (p.version == 1) p.version p.block p.givens (elements job_key (job_items p.names p.tasks)) (all_job_lines p.names p.tasks) small short (jobs_text p.names p.tasks integers) in
    parse_document-printed false (tree_of (p.version == 1) p) (plan_text p)
    (subst (λ es. IsLinesText false false es (plan_text p)) (sym (tree_lines (p.version == 1) p.version p.block p.givens p.names p.tasks)) text) flat.0 flat.1 flat.2
