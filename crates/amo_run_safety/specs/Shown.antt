-- The file of a device as a list of entries.
use Rattle.std.specs.Prelude.{◌≡◌, ℕ, List, [], Some}
use Rattle.amo_run_log.specs.declared.entry.Entry.{Entry}
use Rattle.amo_run_log.specs.Puts.{entries_of}
use Rattle.amo_run_safety.specs.File.{File, read_of, after_stop}

-- each of these is kept, and there are no others
abbrev pub all_kept : {A : Type 0} → List A → File A
all_kept xs = record { kept = xs; loose = []; hidden = [] }

-- The bytes that are read of the device's file say the entries that are read. The bytes that a
-- crash leaves there say the entries that a stop leaves of them.
pub record IsShownBy {D : Type 0} (seen : D → List ℕ) (may_leave : D → List ℕ → Type 0) (device : D) (file : File Entry) : Type 0 where
  pub read : entries_of (seen device) ≡ Some (read_of file)
  pub left : (c : List ℕ) → may_leave device c → (n : ℕ) × (entries_of c ≡ Some (read_of (after_stop n file)))
