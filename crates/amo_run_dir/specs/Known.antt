-- The jobs that a run knows, and why they aren't taken.
use Rattle.std.specs.Prelude.{◌≡◌, ◌⊎◌, ℕ, Bool, false, List, codes, Option, Some, None}
use Rattle.amo_run_faults.specs.declared.error.Fault.{Fault}
use Rattle.amo_run_faults.specs.declared.error.Fault.TheVariants as F
use Rattle.amo_run_faults.specs.declared.layout.Item.TheVariants.{Known}
use Rattle.amo_run_files.specs.declared.extent.Extent.{Extent}
use Rattle.amo_run_files.specs.declared.fault.JobsFault.TheVariants as J
use Rattle.amo_run_files.specs.declared.fault.Why.{Why}
use Rattle.amo_run_files.specs.Extents.{extent_said, is_front}
use Rattle.amo_run_files.specs.Refusals.{IsRefused}
use Rattle.amo_run_journals.specs.Extents.{extent_named}

-- whether the bytes begin with what an extent was taken of, if there is one
abbrev pub has_front : Option Extent → List ℕ → Bool
has_front None bytes = false
has_front (Some e) bytes = is_front (extent_said e) bytes

-- whether the bytes begin with the jobs that these extents of a round count
abbrev pub counts_jobs : List Extent → List ℕ → Bool
counts_jobs extents bytes = has_front (extent_named (codes "jobs") extents) bytes

-- the fault says of lines why they aren't what a round counts; out of memory says nothing
abbrev pub IsWhyUncounted : Fault → List Extent → List ℕ → Type 0
IsWhyUncounted F.Memory extents bytes = Unit {0}
IsWhyUncounted (F.Refused item) extents bytes = (item ≡ Known) × (counts_jobs extents bytes ≡ false)
IsWhyUncounted _ extents bytes = ⊥

-- the fault says of the file `jobs` why it isn't read; out of memory says nothing
abbrev pub IsWhyUnknown : Fault → List Extent → List ℕ → Type 0
IsWhyUnknown F.Memory extents bytes = Unit {0}
IsWhyUnknown (F.Refused item) extents bytes =
    (item ≡ Known) × ((counts_jobs extents bytes ≡ false) ⊎ ((number : ℕ) × (why : Why) × IsRefused bytes false (J.Refused number why)))
IsWhyUnknown _ extents bytes = ⊥
