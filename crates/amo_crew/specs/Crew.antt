-- Within this crate, but for EachAt: the members of a crew, before and after their threads.
use Rattle.std.specs.Prelude.{◌≡◌, ℕ, ◌-◌, ◌≤◌, List, length, All, ⊤, Result, Ok, Err}
use Rattle.std.specs.List.{AllZip}
use mathlib.Core.Option.{some}
use lib.ListN.{get_elem?}
use Rattle.atomic_table.specs.Seated.{TableId}
use Rattle.amo_sets.specs.Lists.{numbered}
use Rattle.amo_params.specs.declared.givens.Givens.{Givens}
use Rattle.amo_words.specs.Faces.{machine}
use Rattle.amo_claims.specs.Calls.{worker_in}
use Rattle.amo_mailbox.specs.declared.queue.Queue.{Queue}
use Rattle.amo_mailbox.specs.declared.inlet.Inlet.{Inlet}
use Rattle.amo_crew.specs.declared.run.member.Member.{Member}
use Rattle.amo_crew.specs.declared.run.member.Ran.{Ran}
use Rattle.amo_crew.specs.declared.run.member.Finish.{Finish}
use Rattle.amo_crew.specs.declared.run.member.Finish.TheVariants.{Ran as HasRan, NotStarted}
use Rattle.amo_mailbox.specs.Endpoints.{IsInletOf}
use Rattle.amo_crew.specs.Running.{HasRun, IsMember}

-- R holds of each item with its place
abbrev pub EachAt : {A : Type 0} → (ℕ → A → Type 0) → List A → Type 0
EachAt {A} R xs = (k : ℕ) (x : A) → get_elem? xs k ≡ some x → R k x

-- a member that may start: it fits its own worker
abbrev pub MayRun : {P Out : Type 0} → Queue Out → TableId → Member P Out → Type 0
MayRun queue table m = IsMember queue table (worker_in m.after).view.givens (worker_in m.after).view.payloads (machine (worker_in m.after)).number m.budget m

-- what comes back of a member's run
abbrev pub IsRunOf : {P Out : Type 0} → (ℕ → ℕ → P → Out → Type 0) → Queue Out → TableId → Member P Out → Ran P Out → Type 0
IsRunOf related queue table m r = HasRun related queue table (worker_in m.after).view.givens (worker_in m.after).view.payloads (machine (worker_in m.after)).number m.budget r

-- what became of a member
abbrev pub IsFinishOf : {P Out : Type 0} → (ℕ → ℕ → P → Out → Type 0) → Queue Out → TableId → Member P Out → Finish P Out → Type 0
IsFinishOf related queue table m (HasRan r) = IsRunOf related queue table m r
IsFinishOf related queue table m (NotStarted u) = ⊤

-- the members from the last worker down, each with its budget
abbrev pub IsCrew : {P Out : Type 0} → Queue Out → TableId → Givens → List P → List ℕ → List (Member P Out) → Type 0
IsCrew queue table g payloads budgets crew = EachAt (λ k m. IsMember queue table g payloads (g.workers - k) (numbered 0 budgets (g.workers - k)) m) crew

-- what became of worker p
abbrev pub HasFinished : {P Out : Type 0} → (ℕ → ℕ → P → Out → Type 0) → Queue Out → TableId → Givens → List P → ℕ → ℕ → Finish P Out → Type 0
HasFinished related queue table g payloads p budget (HasRan r) = HasRun related queue table g payloads p budget r
HasFinished related queue table g payloads p budget (NotStarted u) = ⊤

-- what became of them, from the last worker down
abbrev pub AreFinished : {P Out : Type 0} → (ℕ → ℕ → P → Out → Type 0) → Queue Out → TableId → Givens → List P → List ℕ → List (Finish P Out) → Type 0
AreFinished related queue table g payloads budgets finishes = EachAt (λ k f. HasFinished related queue table g payloads (g.workers - k) (numbered 0 budgets (g.workers - k)) f) finishes

-- All is there to start a crew.
pub record MayStart {P Out : Type 0} (queue : Queue Out) (table : TableId) (inlet : Inlet Out) (crew : List (Member P Out)) (room : ℕ) : Type 0 where
  pub each : All (MayRun queue table) crew
  pub takes : IsInletOf queue inlet
  pub fits : length crew ≤ room

-- The members' threads have ended so.
pub record HasEnded {P Out : Type 0} (related : ℕ → ℕ → P → Out → Type 0) (queue : Queue Out) (table : TableId) (before inlet : Inlet Out) (crew : List (Member P Out)) (finishes : List (Finish P Out)) : Type 0 where
  pub each : AllZip (IsFinishOf related queue table) crew finishes
  pub takes : IsInletOf queue inlet
  pub same_room : inlet.room ≡ before.room

-- a thread that was started ran, and one that was not is NotStarted
abbrev pub TellsStart : {A B P Out : Type 0} → Result A B → Finish P Out → Type 0
TellsStart (Ok child) (HasRan r) = ⊤
TellsStart (Ok child) (NotStarted u) = ⊥
TellsStart (Err e) (HasRan r) = ⊥
TellsStart (Err e) (NotStarted u) = ⊤
