-- Why a list isn't taken in place of the lines that a run knows.
use Rattle.std.specs.Prelude.{ℕ, Bool, List}
use Rattle.amo_run_faults.specs.declared.error.Fault.{Fault}
use Rattle.amo_run_faults.specs.declared.error.Fault.TheVariants as F
use Rattle.amo_run_files.specs.declared.fault.JobsFault.TheVariants as J
use Rattle.amo_run_files.specs.Lines.{BeginsWith}
use Rattle.amo_run_files.specs.Refusals.{IsRefused}

-- the fault says of a list why it isn't taken in place of what is known; out of memory says nothing
abbrev pub IsWhyNotGrown : Fault → (known list : List ℕ) → (cut : Bool) → Type 0
IsWhyNotGrown F.Memory known list cut = Unit {0}
IsWhyNotGrown (F.Changed number) known list cut = ¬ (BeginsWith known list)
IsWhyNotGrown (F.List number why) known list cut = BeginsWith known list × IsRefused list cut (J.Refused number why)
IsWhyNotGrown _ known list cut = ⊥
