-- The effect of a device's calls on its file, and of a crash between two syncs.
use Rattle.std.specs.Prelude.{◌<◌, ◌≡◌, ◌≢◌, ◌⊎◌, ℕ, ◌+◌, ◌≤◌, max, min, List, ◌++◌, length, take, drop, Some, Result, IsErrOf}
use Rattle.std.specs.List.{slice_get}
use Rattle.amo_journal.specs.declared.device.DeviceError.{DeviceError}
use Rattle.amo_journal.specs.declared.device.DeviceError.TheVariants.{Failed}

-- new is old with these bytes at this offset
abbrev pub Holds : List ℕ → ℕ → List ℕ → List ℕ → Type 0
Holds old at bytes new = new ≡ take at old ++ bytes ++ drop (at + length bytes) old

-- new is old with a front of these bytes at this offset
pub record WritesFront (old : List ℕ) (at : ℕ) (bytes new : List ℕ) : Type 0 where
  pub count : ℕ
  pub some : count ≤ length bytes
  pub holds : Holds old at (take count bytes) new

-- After a write of n bytes that a crash cuts short: the same outside of the range. Each byte is the
-- old one, the new one, or, past the old end, 0.
pub record Torn (at n : ℕ) (read old new : List ℕ) : Type 0 where
  pub before : at ≤ length old → take at new ≡ take at old
  pub after : drop (at + n) new ≡ drop (at + n) old
  pub no_shorter : length old ≤ length new
  pub no_longer : length new ≤ max (length old) (at + n)
  pub each : (i b : ℕ) → slice_get new i ≡ Some b → (slice_get old i ≡ Some b) ⊎ ((slice_get read i ≡ Some b) ⊎ ((length old ≤ i) × (b ≡ 0)))

-- after a cut: some length between
pub record Cut (n : ℕ) (old new : List ℕ) : Type 0 where
  pub no_shorter : min n (length old) ≤ length new
  pub front : take (length new) old ≡ new

-- each new outcome of a crash is an old outcome after a step
abbrev pub Follows : (List ℕ → List ℕ → Type 0) → (List ℕ → Type 0) → (List ℕ → Type 0) → Type 0
Follows step old new = (c : List ℕ) → new c → (d : List ℕ) × old d × step d c

-- what such a torn write may leave of these outcomes
abbrev pub TornFrom : ℕ → ℕ → List ℕ → (List ℕ → Type 0) → List ℕ → Type 0
TornFrom at n read outcomes c = (d : List ℕ) × outcomes d × Torn at n read d c

-- what a cut may leave of these outcomes
abbrev pub CutFrom : ℕ → (List ℕ → Type 0) → List ℕ → Type 0
CutFrom n outcomes c = (d : List ℕ) × outcomes d × Cut n d c

-- a crash leaves this and nothing else
abbrev pub Only : List ℕ → (List ℕ → Type 0) → Type 0
Only file outcomes = (c : List ℕ) → outcomes c → c ≡ file

-- the same byte, or the end, at each place but these
abbrev pub AgreesBut : (ℕ → Type 0) → List ℕ → List ℕ → Type 0
AgreesBut places read file = (i : ℕ) → (places i → ⊥) → slice_get file i ≡ slice_get read i

-- some outcome has another byte there than is read
abbrev pub Differs : (List ℕ → Type 0) → List ℕ → ℕ → Type 0
Differs outcomes read i = (c : List ℕ) × outcomes c × (slice_get c i ≢ slice_get read i)

-- not among the n places from this one on
abbrev pub IsOutside : ℕ → ℕ → ℕ → Type 0
IsOutside at n i = (i < at) ⊎ (at + n ≤ i)

-- Time goes on: a crash since t might have left what it might have left before, or what it may
-- leave now.
pub record Elapses (before now : ℕ) (past since : ℕ → List ℕ → Type 0) (may_leave : List ℕ → Type 0) : Type 0 where
  pub later : before ≤ now
  pub nothing_else : (t : ℕ) (c : List ℕ) → t ≤ before → since t c → past t c ⊎ may_leave c
  pub keeps : (t : ℕ) (c : List ℕ) → t ≤ before → past t c → since t c

-- A crash at any moment since old leaves a file that has P.
pub record LeavesOnly {D : Type 0} (moment : D → ℕ) (left_since : D → ℕ → List ℕ → Type 0) (old new : D) (P : List ℕ → Type 0) : Type 0 where
  pub later : moment old ≤ moment new
  pub each : (c : List ℕ) → left_since new (moment old) c → P c
  -- for a run that began earlier
  pub before : (t : ℕ) (c : List ℕ) → t ≤ moment old → left_since new t c → left_since old t c ⊎ P c

-- `Failed` is returned only if the disk has failed since
pub record HasCause {T : Type 0} (before now : ℕ) (result : Result T DeviceError) : Type 0 where
  pub later : before ≤ now
  pub failed : IsErrOf result Failed → before < now
