-- A command that has the locks of a worker keeps that worker and its runner stopped.
use Rattle.std.proofs.Common.{◌≡◌, ◌⊎◌, inl, ⊎_elim, ℕ, List, Option, Some, refl, sym, ap, ◌∙◌}
use Rattle.std.specs.Prelude.{⊤, true}
use Rattle.amo_safety_by_journals.specs.Model.{Handing, IsOneOf}
use Rattle.amo_status.specs.declared.state.AttemptId.{AttemptId}
use Rattle.amo_operator.specs.declared.model.OperatorLock.TheVariants.{Journal}
use Rattle.amo_operator.specs.Calls.{Call, Tried, HasUnlocked, HasUnlockedAll}
use Rattle.amo_operator.specs.Phase.{Texts, Phase, Enters, Guards, Checked, HasHeader, Reads, Checks, Settles, Looks, Behind, Pends, Idles, Rests, Probes, Finds, Dates, Records, Reports, Prints, Waits, Puts, Ended}
use Rattle.amo_program_safety.specs.World.{freed}
use Rattle.amo_program_safety.specs.Machine.{Operator, Machine, held_by, called}
use Rattle.amo_program_safety.specs.Runs.{IsNamed}
use Rattle.amo_program_safety.specs.Steps.{MachineGives}
use Rattle.amo_program_safety.proofs.Points.{at_number}
use Rattle.amo_program_safety.proofs.Happens.{freed_other}

-- It has the lock of the journal of this worker, and no runner has an attempt of this worker.
pub record HasStopped (m : Machine) (pid q : ℕ) : Type 0 where
  pub held : m.held q ≡ Some pid
  pub idle : (h : Handing) → IsOneOf m.waiting h → h.worker ≡ q → ⊥

-- It has the lock of the journal of this attempt, no runner has an attempt of this worker, and
-- nothing of the attempt's command is left.
pub record HasEnded (m : Machine) (pid : ℕ) (i : AttemptId) : Type 0 where
  pub stopped : HasStopped m pid i.worker
  pub gone : (h : Handing) → IsOneOf m.running h → IsNamed i.worker i.serial h → ⊥

abbrev pub IdleStopped : Machine → (process : ℕ) → Texts → Type 0
IdleStopped m pid t = (q : ℕ) → IsOneOf t.idle q → HasStopped m pid q

abbrev pub AllStopped : Machine → (process : ℕ) → List AttemptId → Type 0
AllStopped m pid is = (i : AttemptId) → IsOneOf is i → HasStopped m pid i.worker

abbrev pub AllEnded : Machine → (process : ℕ) → List AttemptId → Type 0
AllEnded m pid is = (i : AttemptId) → IsOneOf is i → HasEnded m pid i

-- A command in this phase has stopped the runners of idle workers, and the attempts that are final.
abbrev pub StopsAt : Machine → (process : ℕ) → Phase → Type 0
StopsAt m pid (Looks command last t left) = IdleStopped m pid t
StopsAt m pid (Behind command last t w left) = IdleStopped m pid t
StopsAt m pid (Pends command last t w left) = IdleStopped m pid t
StopsAt m pid (Idles command last t w left) = IdleStopped m pid t × HasStopped m pid w
StopsAt m pid (Rests command last t w left) = IdleStopped m pid t
StopsAt m pid (Probes command k left) = AllStopped m pid left × AllEnded m pid k.finals
StopsAt m pid (Finds command k i left) = HasEnded m pid i × AllStopped m pid left × AllEnded m pid k.finals
StopsAt m pid (Dates command k i time left) = HasEnded m pid i × AllStopped m pid left × AllEnded m pid k.finals
StopsAt m pid (Records command k i left) = AllStopped m pid left × AllEnded m pid k.finals
StopsAt m pid phase = ⊤

-- Each command has stopped the runners and attempts that its phase says.
pub record Stops (m : Machine) : Type 0 where
  pub stops : (pid : ℕ) (o : Operator) → m.operator pid ≡ Some o → StopsAt m pid o.phase

-- ---- what stays

-- It keeps its locks on journals, nothing comes to the runners of these workers, and only what a
-- runner had is started.
pub record Calm (m m' : Machine) (pid : ℕ) : Type 0 where
  pub held : (q : ℕ) → m.held q ≡ Some pid → m'.held q ≡ Some pid
  pub waiting : (h : Handing) → m.held h.worker ≡ Some pid → IsOneOf m'.waiting h → IsOneOf m.waiting h
  pub running : (h : Handing) → IsOneOf m'.running h → IsOneOf m.running h ⊎ IsOneOf m.waiting h

module _ (m m' : Machine) (pid : ℕ) (calm : Calm m m' pid) where
  pub stopped_still : (q : ℕ) → HasStopped m pid q → HasStopped m' pid q
  stopped_still q h = record {
    held = calm.held q h.held;
    idle = λ x one is. h.idle x (calm.waiting x (ap m.held is ∙ h.held) one) is;
  }

  pub ended_still : (i : AttemptId) → HasEnded m pid i → HasEnded m' pid i
  ended_still i h = record {
    stopped = stopped_still i.worker h.stopped;
    gone = λ x one named. ⊎_elim (λ ran. h.gone x ran named) (λ waited. h.stopped.idle x waited named.0) (calm.running x one);
  }

  pub idle_still : (t : Texts) → IdleStopped m pid t → IdleStopped m' pid t
  idle_still t h q one = stopped_still q (h q one)

  pub all_still : (is : List AttemptId) → AllStopped m pid is → AllStopped m' pid is
  all_still is h i one = stopped_still i.worker (h i one)

  pub ends_still : (is : List AttemptId) → AllEnded m pid is → AllEnded m' pid is
  ends_still is h i one = ended_still i (h i one)

  pub stops_still : (ph : Phase) → StopsAt m pid ph → StopsAt m' pid ph
  stops_still (Enters command tried) h = tt
  stops_still (Guards command) h = tt
  stops_still (Checked command) h = tt
  stops_still (HasHeader command last) h = tt
  stops_still (Reads command last t left) h = tt
  stops_still (Checks command last t) h = tt
  stops_still (Settles command last t) h = tt
  stops_still (Looks command last t left) h = idle_still t h
  stops_still (Behind command last t w left) h = idle_still t h
  stops_still (Pends command last t w left) h = idle_still t h
  stops_still (Idles command last t w left) h = (idle_still t h.0, stopped_still w h.1)
  stops_still (Rests command last t w left) h = idle_still t h
  stops_still (Probes command k left) h = (all_still left h.0, ends_still k.finals h.1)
  stops_still (Finds command k i left) h = (ended_still i h.0, all_still left h.1, ends_still k.finals h.2)
  stops_still (Dates command k i time left) h = (ended_still i h.0, all_still left h.1, ends_still k.finals h.2)
  stops_still (Records command k i left) h = (all_still left h.0, ends_still k.finals h.1)
  stops_still (Reports text) h = tt
  stops_still (Prints text) h = tt
  stops_still (Waits command) h = tt
  stops_still (Puts left) h = tt
  stops_still Ended h = tt

-- ---- the locks on journals after a call of a command

abbrev pub UnlocksNone : Call → Type 0
UnlocksNone (HasUnlocked worker) = ⊥
UnlocksNone HasUnlockedAll = ⊥
UnlocksNone c = ⊤

-- A command that unlocks none keeps its own.
pub own_held : (held : ℕ → Option ℕ) (pid : ℕ) (c : Call) (q : ℕ) → UnlocksNone c → held q ≡ Some pid → held_by held pid c q ≡ Some pid
own_held held pid (Tried (Journal worker) true) q none is = at_number (λ x. x ≡ Some pid) held worker (Some pid) q (λ e. refl) (λ other. is)
own_held held pid (HasUnlocked worker) q none is = absurd none
own_held held pid HasUnlockedAll q none is = absurd none
own_held held pid c q none is = is

-- Another command keeps its own.
pub other_held : (m : Machine) (o : Operator) (pid : ℕ) (c : Call) (other q : ℕ) → MachineGives m o c → (other ≡ pid → ⊥) → m.held q ≡ Some other
    → held_by m.held pid c q ≡ Some other
other_held m o pid (Tried (Journal worker) true) other q gives n is = at_number (λ x. x ≡ Some other) m.held worker (Some pid) q
    (λ (e : q ≡ worker). let taken : m.held worker ≡ Some other = ap m.held (sym e) ∙ is in let free = gives.1 in absurd (cc (taken, free)))
    (λ away. is)
other_held m o pid (HasUnlocked worker) other q gives n is = at_number (λ x. x ≡ Some other) m.held worker (freed (m.held worker) pid) q
    (λ e. freed_other (m.held worker) pid other n (ap m.held (sym e) ∙ is))
    (λ away. is)
other_held m o pid HasUnlockedAll other q gives n is = freed_other (m.held q) pid other n is
other_held m o pid c other q gives n is = is

pub own_calm : (m : Machine) (pid : ℕ) (o : Operator) (c : Call) → UnlocksNone c → Calm m (called m pid (Some o) c) pid
own_calm m pid o c none = record { held = λ q is. own_held m.held pid c q none is; waiting = λ h held one. one; running = λ h one. inl one }

pub other_calm : (m : Machine) (pid : ℕ) (o : Operator) (c : Call) (other : ℕ) → MachineGives m o c → (other ≡ pid → ⊥) → Calm m (called m pid (Some o) c) other
other_calm m pid o c other gives n =
    record { held = λ q is. other_held m o pid c other q gives n is; waiting = λ h held one. one; running = λ h one. inl one }
