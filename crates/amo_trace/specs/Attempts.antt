-- The jobs that a worker has loaded in its attempt.
use Rattle.std.specs.Prelude.{ℕ, Bool, true, false, ◌||◌, List, [], ◌∷◌, ◌==◌, if◌then◌else◌}
use Rattle.amo_kk.specs.declared.phase.Phase.{Phase}
use Rattle.amo_kk.specs.declared.phase.Phase.TheVariants.{Trying, Reading}
use Rattle.amo_kk.specs.declared.phase.Want.{Want}
use Rattle.amo_kk.specs.declared.phase.Want.TheVariants.{StoreNext, LoadNext, LoadDone}
use Rattle.amo_trace.specs.declared.transition.Act.{Act}
use Rattle.amo_trace.specs.declared.transition.Act.TheVariants.{Turned}
use Rattle.amo_trace.specs.declared.transition.Transition.{Transition}
use Rattle.amo_trace.specs.Transitions.{job_of}

-- whether a worker has loaded its own job j in its attempt once it has loaded v or stored what it
-- wants, given whether it had before: an announcement begins an attempt, in which nothing is loaded
-- yet
abbrev pub has_met_by : Bool → ℕ → Want → ℕ → Bool
has_met_by met j (StoreNext i) v = false
has_met_by met j (LoadNext q) v = met || (v == j)
has_met_by met j (LoadDone q k) v = met || (v == j)
has_met_by met j want v = met

-- the same after an act of its own
abbrev pub has_met_in : Bool → ℕ → Act → Bool
has_met_in met j (Turned want v) = has_met_by met j want v
has_met_in met j act = met

-- the same of worker p after any transition
abbrev pub has_met_after : ℕ → Bool → Transition → Bool
has_met_after p met s = if s.worker == p then has_met_in met (job_of s.before) s.act else met

-- the same after these transitions
abbrev pub has_met_since : ℕ → Bool → List Transition → Bool
has_met_since p met [] = met
has_met_since p met (s ∷ ss) = has_met_since p (has_met_after p met s) ss

-- after these first transitions of a run worker p has loaded its own job, from an announcement or
-- from a row, in the attempt that it makes or made last
abbrev pub has_met : ℕ → List Transition → Bool
has_met p ss = has_met_since p false ss

-- an attempt goes on: announcements or rows are still to be loaded
abbrev pub looks_on : Phase → Bool
looks_on (Trying j q) = true
looks_on (Reading j q) = true
looks_on phase = false
