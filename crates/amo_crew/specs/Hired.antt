-- Within this crate: while workers are hired, the last first, and while they are called off.
use Rattle.std.specs.Prelude.{◌≡◌, ◌⊎◌, ℕ, ◌+◌, ◌<◌, ◌≤◌, List, [], length, replicate, ⊤}
use Rattle.atomic_table.specs.Seated.{TableId}
use Rattle.amo_kk.specs.Record.{jobs_in_hand}
use Rattle.amo_params.specs.declared.givens.Givens.{Givens}
use Rattle.amo_params.specs.declared.moves.Move.{Move}
use Rattle.amo_words.specs.declared.rule.Spot.{Spot}
use Rattle.amo_words.specs.declared.rule.Spot.TheVariants.{Home, Out as Away, Back}
use Rattle.amo_words.specs.Rule.{AllStand}
use Rattle.amo_words.specs.Faces.{Seated, spots}
use Rattle.amo_words.specs.Settling.{HasClosed}
use Rattle.amo_claims.specs.Calls.{worker_in}
use Rattle.amo_mailbox.specs.declared.queue.Queue.{Queue}
use Rattle.amo_crew.specs.declared.outcome.End.TheVariants.{NotStarted}
use Rattle.amo_crew.specs.declared.fault.ExecFault.{ExecFault}
use Rattle.amo_crew.specs.declared.fault.ExecFault.TheVariants.{WrongCount, NoMemory, ThreadRefused, Unsettled}
use Rattle.amo_crew.specs.declared.kit.Kit.{Kit}
use Rattle.amo_crew.specs.declared.run.member.Member.{Member}
use Rattle.amo_crew.specs.Kits.{IsKit}
use Rattle.amo_crew.specs.Crew.{IsCrew}
use Rattle.amo_crew.specs.Outcomes.{spot_of}
use Rattle.amo_crew.specs.Unsettling.{UnsettledView}

-- The last workers are hired, and are the crew of the kit; the others are at home.
pub record AreHired {P Out : Type 0} (table : TableId) (g : Givens) (payloads : List P) (budgets : List ℕ) (book : Seated P) (kit : Kit P Out) : Type 0 where
  pub tied : book.table_id ≡ table
  pub givens : book.view.givens ≡ g
  pub payloads_are : book.view.payloads ≡ payloads
  pub size : length (spots book) ≡ g.workers
  pub stand : AllStand g book.view.seen (spots book)
  pub kit_is : IsKit g kit
  pub home : (p : ℕ) → p + length kit.crew.items ≤ g.workers → spot_of (spots book) p ≡ Home
  pub out : (p : ℕ) → g.workers < p + length kit.crew.items → p ≤ g.workers → spot_of (spots book) p ≡ Away
  pub members : IsCrew kit.queue table g payloads budgets kit.crew.items

-- nothing is claimed: the worker is at home, or has come back with its first record
abbrev pub IsUntouched : Spot → Type 0
IsUntouched Home = ⊤
IsUntouched Away = ⊥
IsUntouched (Back l) = (l.state.claimed ≡ []) × (l.state.dones ≡ []) × (jobs_in_hand l.state.phase ≡ [])

-- Each worker is untouched, but for those of the crew.
pub record AreCalledOff {P Out : Type 0} (queue : Queue Out) (table : TableId) (g : Givens) (payloads : List P) (budgets : List ℕ) (book : Seated P) (crew : List (Member P Out)) : Type 0 where
  pub tied : book.table_id ≡ table
  pub givens : book.view.givens ≡ g
  pub payloads_are : book.view.payloads ≡ payloads
  pub size : length (spots book) ≡ g.workers
  pub fits : length crew ≤ g.workers
  pub untouched : (p : ℕ) → IsUntouched (spot_of (spots book) p) ⊎ ((g.workers < p + length crew) × (p ≤ g.workers))
  pub members : IsCrew queue table g payloads budgets crew

-- the member's worker is of this table
abbrev pub AtTable : {P Out : Type 0} → TableId → Member P Out → Type 0
AtTable table m = (worker_in m.after).table_id ≡ table

-- No thread was started, and nobody has claimed a job: the floor was closed when its book had seen
-- these moves.
pub record HasNotBegun {P Out : Type 0} (g : Givens) (payloads : List P) (u : UnsettledView P Out) : Type 0 where
  pub seen : List Move
  pub closed : HasClosed g payloads seen u.floor.spots u.floor
  pub untouched : (p : ℕ) → IsUntouched (spot_of u.floor.spots p)
  pub ends : u.ends ≡ replicate g.workers NotStarted
  pub outputs : u.outputs ≡ []
  pub in_hand : u.in_hand ≡ []

-- the refusal of a run in which no thread was started: all payloads come back, or the final
-- accounting can be done later
abbrev pub IsCalledOff : {P Out : Type 0} → Givens → List P → ExecFault P Out → Type 0
IsCalledOff g payloads (WrongCount v) = ⊥
IsCalledOff g payloads (NoMemory v) = (v.items ≡ payloads) × (length payloads ≡ g.jobs)
IsCalledOff g payloads (ThreadRefused o) = ⊥
IsCalledOff g payloads (Unsettled rest) = HasNotBegun g payloads rest
