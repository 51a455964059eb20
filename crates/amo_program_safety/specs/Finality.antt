-- An attempt is final on a machine: nothing of it is left there, and nothing of it is to come.
use Rattle.std.specs.Prelude.{◌≡◌, ℕ, Some}
use Rattle.amo_safety_by_journals.specs.Model.{Handing, IsOneOf}
use Rattle.amo_program_safety.specs.World.{Process}
use Rattle.amo_program_safety.specs.Runs.{IsNamed, held_in}
use Rattle.amo_program_safety.specs.Machine.{Machine}

-- Nothing of the attempt of this worker and this serial number is left on the machine, and nothing
-- of it is to come.
pub record IsFinalHere (m : Machine) (worker serial : ℕ) : Type 0 where
  -- no process may yet hand it over
  pub not_held : (process : ℕ) (p : Process) → m.world.process process ≡ Some p → p.worker ≡ worker → held_in p.phase ≡ Some serial → ⊥
  -- no runner has it
  pub not_waiting : (h : Handing) → IsOneOf m.waiting h → IsNamed worker serial h → ⊥
  -- nothing of its command is left
  pub not_running : (h : Handing) → IsOneOf m.running h → IsNamed worker serial h → ⊥

-- No runner has the attempt of this worker and this serial number, and nothing of its command is
-- left on the machine.
pub record HasEndedHere (m : Machine) (worker serial : ℕ) : Type 0 where
  -- no runner has it
  pub not_waiting : (h : Handing) → IsOneOf m.waiting h → IsNamed worker serial h → ⊥
  -- nothing of its command is left
  pub not_running : (h : Handing) → IsOneOf m.running h → IsNamed worker serial h → ⊥
