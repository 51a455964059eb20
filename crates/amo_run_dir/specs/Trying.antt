-- The result of a try to lock a file that may be missing.
use Rattle.amo_run_dir.specs.declared.locks.Tried.{Tried}
use Rattle.amo_run_dir.specs.declared.locks.Tried.TheVariants.{Got, Held, Missing}

abbrev pub IfGot : {H : Type 0} → Tried H → (H → Type 0) → Type 0
IfGot (Got file) says = says file
IfGot Held says = Unit {0}
IfGot Missing says = Unit {0}

abbrev pub IfHeld : {H : Type 0} → Tried H → Type 0 → Type 0
IfHeld (Got file) says = Unit {0}
IfHeld Held says = says
IfHeld Missing says = Unit {0}

abbrev pub IfMissing : {H : Type 0} → Tried H → Type 0 → Type 0
IfMissing (Got file) says = Unit {0}
IfMissing Held says = Unit {0}
IfMissing Missing says = says
