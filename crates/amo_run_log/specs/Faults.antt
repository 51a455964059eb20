-- Why texts are not read.
use Rattle.std.specs.Prelude.{◌≡◌, ◌≢◌, ◌≤◌, ◌-◌, ℕ, List, [], length, take, slice_index_or, Option, None}
use Rattle.amo_run_log.specs.Numbers.{read_all}
use Rattle.amo_run_log.specs.declared.fault.Fault.{Fault}
use Rattle.amo_run_log.specs.declared.fault.Fault.TheVariants.{Memory, Refused}

-- the refused text says nothing that is read so, and each text before it says something
abbrev pub SaysNothing : {A : Type 0} → (List ℕ → Option A) → List (List ℕ) → Fault → Type 0
SaysNothing read texts Memory = Unit {0}
SaysNothing read texts (Refused number) =
    ((1 ≤ number) × (number ≤ length texts) × (read (slice_index_or texts (number - 1) []) ≡ None)) × (read_all read (take (number - 1) texts) ≢ None)
