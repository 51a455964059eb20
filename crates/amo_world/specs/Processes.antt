-- Within this crate: the processes of the code as those of the definitions, and what holds of the
-- fields of a world.
use Rattle.std.specs.Prelude.{◌≡◌, ℕ, ◌<◌, ◌+◌, ◌*◌, List, length, map, get_or}
use Rattle.std.specs.Vec.{vec_capacity}
use Rattle.amo_kk.specs.Lawful.{IsLawful, HasRun}
use Rattle.amo_kk.specs.Step.{want, record_after}
use Rattle.amo_kk.specs.World.{process_after}
use Rattle.amo_params.specs.declared.givens.Givens.{Givens}
use Rattle.amo_kk.specs.declared.event.Event.{Event}
use Rattle.amo_kk.specs.declared.model.Process.{Process}
use Rattle.amo_kk.specs.declared.model.World.{World}
use Rattle.amo_world.specs.declared.process.SimProcess.{SimProcess as OwnProcess}

-- a process as the definitions have it: the record and the words of its worker
abbrev pub process_of : OwnProcess → Process
process_of s = record { local = s.local.state; next = s.next; claim = s.claim; row = s.row.items; gone = s.gone }

-- the process after the step of its worker, if the wanted load gives this value
abbrev pub process_after_step : OwnProcess → ℕ → Process
process_after_step s value = process_after (want s.local.state) (process_of s) (record_after s.local.givens s.local.number value s.local.state)

-- The second process is of the same worker as the first, and has the same room.
pub record IsSameWorker (before after : OwnProcess) : Type 0 where
  pub givens : after.local.givens ≡ before.local.givens
  pub number : after.local.number ≡ before.local.number
  pub room : vec_capacity after.row ≡ vec_capacity before.row

-- the world of these processes and this history
abbrev pub world_of_processes : List OwnProcess → List Event → World
world_of_processes processes history = record { processes = map process_of processes; history = history }

-- The processes are those of the workers 1..n in their order. Each has a machine of these givens,
-- and exactly the room for the row that such a worker can have.
pub record AreInOrder (g : Givens) (n : ℕ) (processes : List OwnProcess) : Type 0 where
  pub size : length processes ≡ n
  pub givens : (k : ℕ) (s : OwnProcess) → k < length processes → (get_or processes k s).local.givens ≡ g
  pub number : (k : ℕ) (s : OwnProcess) → k < length processes → (get_or processes k s).local.number ≡ k + 1
  pub room : (k : ℕ) (s : OwnProcess) → k < length processes → vec_capacity (get_or processes k s).row ≡ g.jobs + 1

-- The world is lawful, its history is a run, and there is room for all processes and for all events
-- that a run can have, and no more.
pub record IsKept (g : Givens) (processes : List OwnProcess) (history : List Event) (processes_room history_room : ℕ) : Type 0 where
  pub in_order : AreInOrder g g.workers processes
  pub lawful : IsLawful g (world_of_processes processes history)
  pub run : HasRun g (world_of_processes processes history)
  pub processes_fit : processes_room ≡ g.workers
  pub history_fits : history_room ≡ 2 * g.jobs + g.workers
