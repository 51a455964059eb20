-- Within this crate, but for IsRelated and EndsSo: what a worker's thread does.
use Rattle.std.specs.Prelude.{◌≡◌, ℕ, ◌-◌, ◌≤◌, true, false, List, [], ◌∷◌, map, All, Option, Some, None, slice_get}
use Rattle.amo_kk.specs.Record.{is_over, wants_nothing, jobs_in_hand}
use Rattle.amo_kk.specs.declared.model.Record.{Record}
use Rattle.amo_kk.specs.declared.phase.Phase.{Phase}
use Rattle.amo_params.specs.declared.givens.Givens.{Givens}
use Rattle.amo_params.specs.declared.limits.TheConstants.{MAX_STEPS}
use Rattle.atomic_table.specs.Seated.{TableId}
use Rattle.amo_words.specs.Faces.{Seated, machine}
use Rattle.amo_claims.specs.Calls.{state_of, worker_in}
use Rattle.amo_mailbox.specs.declared.output.Output.{Output}
use Rattle.amo_mailbox.specs.declared.queue.Queue.{Queue}
use Rattle.amo_mailbox.specs.declared.outlet.Outlet.{Outlet}
use Rattle.amo_crew.specs.declared.outcome.End.{End}
use Rattle.amo_crew.specs.declared.outcome.End.TheVariants.{Ended, Halted, NotStarted}
use Rattle.amo_crew.specs.declared.run.member.Member.{Member}
use Rattle.amo_crew.specs.declared.run.member.Ran.{Ran}
use Rattle.amo_mailbox.specs.Endpoints.{IsOutletOf, given}

-- a worker that took no step yet
pub record IsFresh {P : Type 0} (w : Seated P) : Type 0 where
  pub steps : (machine w).state.steps ≡ 0
  pub claimed : (machine w).state.claimed ≡ []
  pub dones : (machine w).state.dones ≡ []
  pub empty : jobs_in_hand (machine w).state.phase ≡ []
  pub over : wants_nothing (machine w).state.phase ≡ is_over (machine w).state.phase

-- the answer is related to its job and to the job's payload
abbrev pub IsRelated : {P Out : Type 0} → (ℕ → ℕ → P → Out → Type 0) → List P → Output Out → Type 0
IsRelated {P} related payloads x = (y : P) × (slice_get payloads (x.job - 1) ≡ Some y) × related x.worker x.job y x.out

-- The worker p of this table, with these givens and payloads, has taken at most `budget` steps. Its
-- outlet was given exactly the answers of its done jobs, in order.
pub record HasFiled {P Out : Type 0} (related : ℕ → ℕ → P → Out → Type 0) (queue : Queue Out) (table : TableId) (g : Givens) (payloads : List P) (p budget : ℕ) (w : Seated P) (o : Outlet Out) : Type 0 where
  pub table_is : w.table_id ≡ table
  pub givens : w.view.givens ≡ g
  pub payloads_are : w.view.payloads ≡ payloads
  pub number : (machine w).number ≡ p
  pub within : (machine w).state.steps ≤ budget
  pub belongs : IsOutletOf queue o
  pub worker : o.worker ≡ p
  pub room : o.room ≡ g.jobs
  pub jobs : map (λ x. x.job) (given o) ≡ (machine w).state.dones
  pub answers : All (IsRelated related payloads) (given o)

-- the end of a worker with this record: it is over within its budget, or its budget is used up and
-- it still wants a step
abbrev pub EndsSo : ℕ → Record → End → Type 0
EndsSo budget r (Ended s) = (is_over r.phase ≡ true) × (r.steps ≡ s) × (s ≤ budget)
EndsSo budget r (Halted s) = (wants_nothing r.phase ≡ false) × (r.steps ≡ s) × (s ≡ budget)
EndsSo budget r NotStarted = ⊥

-- the job in hand, with its payload
abbrev pub IsInHand : {P : Type 0} → List P → Phase → Option (ℕ × P) → Type 0
IsInHand payloads phase None = jobs_in_hand phase ≡ []
IsInHand payloads phase (Some h) = (jobs_in_hand phase ≡ h.0 ∷ []) × (slice_get payloads (h.0 - 1) ≡ Some h.1)

-- The result of the thread of worker p.
pub record HasRun {P Out : Type 0} (related : ℕ → ℕ → P → Out → Type 0) (queue : Queue Out) (table : TableId) (g : Givens) (payloads : List P) (p budget : ℕ) (r : Ran P Out) : Type 0 where
  pub filed : HasFiled related queue table g payloads p budget r.gone r.outlet
  pub ends : EndsSo budget (machine r.gone).state r.end
  pub hand : IsInHand payloads (machine r.gone).state.phase r.in_hand

-- A member of the crew, before its thread.
pub record IsMember {P Out : Type 0} (queue : Queue Out) (table : TableId) (g : Givens) (payloads : List P) (p budget : ℕ) (m : Member P Out) : Type 0 where
  pub begun : m.after ≡ state_of (worker_in m.after)
  pub table_is : (worker_in m.after).table_id ≡ table
  pub givens : (worker_in m.after).view.givens ≡ g
  pub payloads_are : (worker_in m.after).view.payloads ≡ payloads
  pub number : (machine (worker_in m.after)).number ≡ p
  pub fresh : IsFresh (worker_in m.after)
  pub belongs : IsOutletOf queue m.outlet
  pub worker : m.outlet.worker ≡ p
  pub room : m.outlet.room ≡ g.jobs
  pub empty : given m.outlet ≡ []
  pub budget_is : m.budget ≡ budget
  pub small : m.budget ≤ MAX_STEPS
