-- The outcome of a run.
use Rattle.std.specs.Prelude.{◌≡◌, ◌≢◌, ◌⊎◌, true, ℕ, zero, suc, ◌+◌, ◌-◌, ◌≤◌, List, [], ◌++◌, length, map, All, Some, slice_get}
use Rattle.amo_sets.specs.Lists.{numbered}
use Rattle.amo_sets.specs.Sets.{has}
use Rattle.amo_kk.specs.Record.{jobs_in_hand}
use Rattle.amo_kk.specs.Machine.{LocalView}
use Rattle.amo_params.specs.declared.givens.Givens.{Givens}
use Rattle.amo_params.specs.declared.moves.Move.{Move}
use Rattle.amo_words.specs.declared.rule.Spot.{Spot}
use Rattle.amo_words.specs.declared.rule.Spot.TheVariants.{Home, Back}
use Rattle.amo_words.specs.Settling.{IsWhole, settled_claims}
use Rattle.amo_mailbox.specs.declared.output.Output.{Output}
use Rattle.amo_crew.specs.declared.outcome.End.{End}
use Rattle.amo_crew.specs.declared.outcome.End.TheVariants.{Ended, Halted, NotStarted}
use Rattle.amo_crew.specs.declared.outcome.Outcome.{Outcome}
use Rattle.amo_mailbox.specs.Mailbox.{of}
use Rattle.amo_crew.specs.Running.{IsRelated, EndsSo}
use Rattle.amo_crew.specs.Crew.{EachAt}

-- the book's spot of worker p
abbrev pub spot_of : List Spot → ℕ → Spot
spot_of spots p = numbered Home spots p

-- what the worker in this spot has done
abbrev pub dones_in : Spot → List ℕ
dones_in (Back l) = l.state.dones
dones_in spot = []

-- the job in its hand
abbrev pub hand_in : Spot → List ℕ
hand_in (Back l) = jobs_in_hand l.state.phase
hand_in spot = []

-- nothing is known to be done or in hand
abbrev pub IsBare : Spot → Type 0
IsBare s = (dones_in s ≡ []) × (hand_in s ≡ [])

-- A worker whose thread ran came back: it is over, with steps within its budget, or its steps are
-- its budget.
abbrev pub EndsAs : ℕ → Spot → End → Type 0
EndsAs budget s (Ended n) = (l : LocalView) × (s ≡ Back l) × EndsSo budget l.state (Ended n)
EndsAs budget s (Halted n) = (l : LocalView) × (s ≡ Back l) × EndsSo budget l.state (Halted n)
EndsAs budget s NotStarted = IsBare s

-- The ends of the workers 1..i.
pub record AreEnds (budgets : List ℕ) (spots : List Spot) (i : ℕ) (ends : List End) : Type 0 where
  pub size : length ends ≡ i
  pub each : EachAt (λ k e. EndsAs (numbered 0 budgets (k + 1)) (spot_of spots (k + 1)) e) ends

-- worker and job of each job in the hands of 1..i, by rising worker
abbrev pub hands_upto : List Spot → ℕ → List (ℕ × ℕ)
hands_upto spots zero = []
hands_upto spots (suc p) = hands_upto spots p ++ map (λ j. (suc p, j)) (hand_in (spot_of spots (suc p)))

-- Just the jobs in hand, each with its payload.
pub record AreInHand {P : Type 0} (payloads : List P) (spots : List Spot) (i : ℕ) (in_hand : List (ℕ × ℕ × P)) : Type 0 where
  pub jobs : map (λ t. (t.0, t.1)) in_hand ≡ hands_upto spots i
  pub own : All (λ t. slice_get payloads (t.1 - 1) ≡ Some t.2) in_hand

-- the jobs of these outputs, in their order
abbrev pub jobs_of : {Out : Type 0} → List (Output Out) → List ℕ
jobs_of outputs = map (λ x. x.job) outputs

-- The outputs of each worker are of its dones, in their order; there are no others; each answer is
-- related to its job and to the job's payload.
pub record AreOutputs {P Out : Type 0} (related : ℕ → ℕ → P → Out → Type 0) (payloads : List P) (spots : List Spot) (outputs : List (Output Out)) : Type 0 where
  pub jobs : (p : ℕ) → jobs_of (of p outputs) ≡ dones_in (spot_of spots p)
  pub answers : All (IsRelated related payloads) outputs

-- The results of the threads, if the registry has these slot states.
pub record HaveRun {P Out : Type 0} (related : ℕ → ℕ → P → Out → Type 0) (g : Givens) (payloads : List P) (budgets : List ℕ) (spots : List Spot) (ends : List End) (outputs : List (Output Out)) (in_hand : List (ℕ × ℕ × P)) : Type 0 where
  pub ends_are : AreEnds budgets spots g.workers ends
  pub outputs_are : AreOutputs related payloads spots outputs
  pub hands_are : AreInHand payloads spots g.workers in_hand

-- The outcome of a run: the final accounting is whole, and ends, outputs and jobs in hand are those
-- of its records.
pub record IsOutcome {P Out : Type 0} (related : ℕ → ℕ → P → Out → Type 0) (g : Givens) (payloads : List P) (budgets : List ℕ) (o : Outcome P Out) : Type 0 where
  pub seen : List Move
  pub spots : List Spot
  pub whole : IsWhole g payloads seen spots o.settlement
  pub run : HaveRun related g payloads budgets spots o.ends.items o.outputs.items o.in_hand.items

-- the jobs that have an answer
abbrev pub answered : {P Out : Type 0} → Outcome P Out → List ℕ
answered o = jobs_of o.outputs.items

-- the jobs that came back in a worker's hand
abbrev pub in_hand : {P Out : Type 0} → Outcome P Out → List ℕ
in_hand o = map (λ t. t.1) o.in_hand.items

-- the jobs that nobody began
abbrev pub free_jobs : {P Out : Type 0} → Outcome P Out → List ℕ
free_jobs o = map (λ t. t.0) o.settlement.free.items

-- every thread was started
abbrev pub AllStarted : List End → Type 0
AllStarted ends = All (λ e. e ≢ NotStarted) ends

-- some thread could not be started
abbrev pub SomeRefused : List End → Type 0
SomeRefused ends = (k : ℕ) × (slice_get ends k ≡ Some NotStarted)

-- the job is answered, in a hand, or free
abbrev pub HasAPlace : {P Out : Type 0} → Outcome P Out → ℕ → Type 0
HasAPlace o j = (has (answered o) j ≡ true) ⊎ ((has (in_hand o) j ≡ true) ⊎ (has (free_jobs o) j ≡ true))

-- the thread of worker p was started
abbrev pub HasStarted : {P Out : Type 0} → Outcome P Out → ℕ → Type 0
HasStarted o p = numbered NotStarted o.ends.items p ≢ NotStarted

-- the settlement has the job among the claims of a worker whose thread could not be started
abbrev pub IsOfNoThread : {P Out : Type 0} → Outcome P Out → ℕ → Type 0
IsOfNoThread o j = (p : ℕ) × (1 ≤ p) × (p ≤ length o.ends.items) × (numbered NotStarted o.ends.items p ≡ NotStarted) × (has (settled_claims o.settlement p) j ≡ true)
