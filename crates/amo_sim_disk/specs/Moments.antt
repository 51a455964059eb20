-- The contents that a crash since some moment might have left. A moment is the number of calls
-- until then.
use Rattle.std.specs.Prelude.{ℕ, zero, suc, ◌≤◌, List, [], ◌∷◌, length, drop}
use Rattle.std.proofs.Common.{le_trans, length-drop, lt-suc_self, lt_irrefl, lt_of_lt_of_le, sub-le, subst}
use Rattle.amo_journal.specs.Device.{Elapses}
use Rattle.amo_sim_disk.specs.declared.call.Call.{Call}
use Rattle.amo_sim_disk.specs.Replay.{Story, call_count, state_after, OutcomeIn}

-- a crash might have left it before the last calls, of which there were at least t until then
abbrev pub LeftSince : Story → ℕ → List ℕ → Type 0
LeftSince story t image = (last : ℕ) × (t ≤ length (drop last story.calls)) × (state_after story.first (drop last story.calls)).outcomes image

-- time goes on from one story to a later one
abbrev pub GoesOn : Story → Story → Type 0
GoesOn old new = Elapses (call_count old) (call_count new) (LeftSince old) (LeftSince new) (OutcomeIn new)

-- this moment is one of them
pub now_counts : (story : Story) (t : ℕ) (image : List ℕ) → t ≤ call_count story → OutcomeIn story image → LeftSince story t image
now_counts story t image le now = (zero, le, now)

now_from : (first : List ℕ) (calls : List Call) (last : ℕ) (image : List ℕ) → length calls ≤ length (drop last calls) → (state_after first (drop last calls)).outcomes image
    → (state_after first calls).outcomes image
now_from first calls zero image le left = left
now_from first [] (suc last) image le left = left
now_from first (call ∷ calls) (suc last) image le left =
    let few : suc (length calls) ≤ length calls =
    le_trans (subst (λ (n : ℕ). suc (length calls) ≤ n) (length-drop last calls) le) (sub-le (length calls) last) in
    absurd (lt_irrefl (length calls) (lt_of_lt_of_le (lt-suc_self (length calls)) few))

-- since this moment there is no other
pub now_alone : (story : Story) (image : List ℕ) → LeftSince story (call_count story) image → OutcomeIn story image
now_alone story image left = now_from story.first story.calls left.0 image left.1 left.2
