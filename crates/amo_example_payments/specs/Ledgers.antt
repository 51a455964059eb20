-- Within this crate: what stands in the file of a day's journal.
use Rattle.std.specs.Prelude.{◌≡◌, ℕ, List, Some}
use Rattle.amo_run_log.specs.declared.entry.Entry.{Entry}
use Rattle.amo_run_log.specs.Puts.{entries_of}

-- A read returns these entries, and each crash leaves them.
pub record AreKept {D : Type 0} (seen : D → List ℕ) (may_leave : D → List ℕ → Type 0) (device : D) (entries : List Entry) : Type 0 where
  pub read : entries_of (seen device) ≡ Some entries
  pub crash : (c : List ℕ) → may_leave device c → entries_of c ≡ Some entries
