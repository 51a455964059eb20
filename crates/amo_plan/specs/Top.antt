-- The top level of a plan.
use Rattle.std.specs.Prelude.{ℕ, ◌==◌, List, [], ◌∷◌, length, Bool, false, ◌&&◌, ◌||◌, Option, Some, None, option_and_then, codes, if◌then◌else◌, Result, Ok}
use Rattle.std.specs.Str.{bytes_eq}
use Rattle.toml.specs.Data.{Data, Members, as_str, as_array, get_member}
use Rattle.amo_plan.specs.declared.fault.PlanFault.{PlanFault}
use Rattle.amo_plan.specs.declared.fault.PlanFault.TheVariants.{UnknownKey, MissingKey, WrongKind}
use Rattle.amo_plan.specs.declared.limits.TheConstants.{NEWEST_VERSION, MOST_IN_BLOCK}
use Rattle.amo_plan.specs.declared.top.Form.{Form}
use Rattle.amo_plan.specs.Passing.{◌>>=◌, or_fault, unless, is_between}
use Rattle.amo_plan.specs.Tree.{Key, has, natural, natural_at, is_known, each_key, tables_of, naturals_in}

-- the values that may be absent, but for the jobs
pub record MoreSeen : Type 0 where
  pub schedule : List ℕ
  pub rounds : ℕ
  -- None if the key is absent
  pub budgets : Option (List ℕ)

-- what the top level says
pub record TopSeen : Type 0 where
  pub form : Form
  pub workers : ℕ
  pub beta : ℕ
  pub jobs : List Members
  pub more : MoreSeen

-- a version that there is
abbrev pub known_version : ℕ → Option ℕ
known_version v = if is_between 1 NEWEST_VERSION v then Some v else None

-- the version of a document, if it is one that there is
abbrev pub version_of : Members → Option ℕ
version_of doc = option_and_then known_version (natural_at (codes "version") doc)

-- the version is 2
abbrev pub is_two : Option ℕ → Bool
is_two (Some v) = v == 2
is_two None = false

-- the keys of the top level, of which version 2 has one more
abbrev pub top_keys : List Key
top_keys = codes "version" ∷ codes "workers" ∷ codes "beta" ∷ codes "job" ∷ codes "schedule" ∷ codes "rounds" ∷ codes "budgets" ∷ []

-- the key is one of them; `block` is one only if the test is true
abbrev pub is_top_key : Bool → Key → Bool
is_top_key with_block k = is_known top_keys k || (with_block && bytes_eq k (codes "block"))

-- how many jobs a block may have
abbrev pub known_block : ℕ → Option ℕ
known_block g = if is_between 1 MOST_IN_BLOCK g then Some g else None

-- an integer of 1..=MOST_IN_BLOCK, or 1 if the key is absent
abbrev pub block_in : Option Data → Option ℕ
block_in None = Some 1
block_in (Some d) = option_and_then known_block (natural d)

-- how many jobs make a block: 1 in version 1, which has no such key
abbrev pub block_of : ℕ → Members → Option ℕ
block_of version doc = if version == 2 then block_in (get_member (codes "block") doc) else Some 1

-- an array of tables; no key, no jobs
abbrev pub jobs_of : Option Data → Option (List Members)
jobs_of None = Some []
jobs_of (Some d) = option_and_then tables_of (as_array d)

-- a text; no key, no words
abbrev pub text_of : Option Data → Option (List ℕ)
text_of None = Some []
text_of (Some d) = as_str d

-- an integer that is not negative; no key, no rounds
abbrev pub rounds_of : Option Data → Option ℕ
rounds_of None = Some 0
rounds_of (Some d) = natural d

-- the budgets that are named, if they are so many
abbrev pub so_many : ℕ → List ℕ → Option (Option (List ℕ))
so_many m xs = if length xs == m then Some (Some xs) else None

-- an array of m integers that are not negative, or nothing
abbrev pub budgets_of : ℕ → Option Data → Option (Option (List ℕ))
budgets_of m None = Some None
budgets_of m (Some d) = option_and_then (so_many m) (naturals_in d)

-- the version, and how many jobs make a block
unfoldable pub form_of : Members → Result Form PlanFault
form_of doc = do
  version ← or_fault (version_of doc) (WrongKind 0)
  block ← or_fault (block_of version doc) (WrongKind 0)
  Ok (record { version = version; block = block })

-- the values that may be absent, each of its kind
unfoldable pub more_values : ℕ → Members → Result MoreSeen PlanFault
more_values workers doc = do
  schedule ← or_fault (text_of (get_member (codes "schedule") doc)) (WrongKind 0)
  rounds ← or_fault (rounds_of (get_member (codes "rounds") doc)) (WrongKind 0)
  budgets ← or_fault (budgets_of workers (get_member (codes "budgets") doc)) (WrongKind 0)
  Ok (record { schedule = schedule; rounds = rounds; budgets = budgets })

-- the values, each of its kind
unfoldable pub top_values : Members → Result TopSeen PlanFault
top_values doc = do
  form ← form_of doc
  workers ← or_fault (natural_at (codes "workers") doc) (WrongKind 0)
  beta ← or_fault (natural_at (codes "beta") doc) (WrongKind 0)
  jobs ← or_fault (jobs_of (get_member (codes "job") doc)) (WrongKind 0)
  more ← more_values workers doc
  Ok (record { form = form; workers = workers; beta = beta; jobs = jobs; more = more })

-- no other keys, each that is needed, and each of its kind
unfoldable pub top_of : Members → Result TopSeen PlanFault
top_of doc =
    unless (each_key (is_top_key (is_two (version_of doc))) doc) (UnknownKey 0)
    (unless (has (codes "version") doc && (has (codes "workers") doc && has (codes "beta") doc)) (MissingKey 0)
    (top_values doc))
