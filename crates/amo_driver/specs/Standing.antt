-- The stages at which a process may be, by all that it has done.
use Rattle.std.specs.Prelude.{◌≡◌, ℕ, ◌+◌, ◌≤◌, Some}
use Rattle.amo_driver.specs.declared.model.Deed.{Deed}
use Rattle.amo_driver.specs.declared.model.Try.{Try}
use Rattle.amo_driver.specs.Stage.{Stage}
use Rattle.amo_driver.specs.Course.{try_of, due, stage_after}

-- it is at a stage at which this is due
abbrev pub MayCall : (Stage → Type 0) → Try → Type 0
MayCall stands t = (s : Stage) × stands s × (due s ≡ Some t)

-- a deed that was due at a stage leads to the stage after it
abbrev pub Moves : (before after : Stage → Type 0) → Deed → Type 0
Moves before after d = (s : Stage) → before s → due s ≡ Some (try_of d) → after (stage_after s d)

-- it has done one deed more
abbrev pub Counts : (before after : ℕ → Type 0) → Type 0
Counts before after = (n : ℕ) → before n → after (n + 1)

-- it has done so many more at least
abbrev pub DoesMore : ℕ → (before after : ℕ → Type 0) → Type 0
DoesMore k before after = (n : ℕ) → before n → (m : ℕ) × (n + k ≤ m) × after m
