-- A crash may leave what is read.
use Rattle.std.proofs.Common.{◌≡◌, ℕ, List, [], ◌∷◌, length, take, refl, sym, subst, arith, length-take}
use Rattle.amo_sim_disk.specs.declared.call.Call.{Call}
use Rattle.amo_sim_disk.specs.declared.call.Call.TheVariants.{Read, FailedRead, Write, FailedWrite, Cut, FailedCut, Sync, FailedSync}
use Rattle.amo_sim_disk.specs.Calls.{read_after}
use Rattle.amo_sim_disk.specs.Replay.{OutcomeAfter, OutcomeIn, State, Story, noted, read_in, state_after}
use Rattle.amo_sim_disk.proofs.Torn.{torn_whole, cut_none, cut_above}

still_possible : (call : Call) (s : State) → s.outcomes s.read → OutcomeAfter call s (read_after call s.read)
still_possible Read s may = may
still_possible FailedRead s may = may
still_possible (Write at bytes) s may = (s.read, may, torn_whole at (length bytes.items) bytes.items s.read (omega arith))
still_possible (FailedWrite at bytes front) s may = (s.read, may, torn_whole at (length bytes.items) (take front bytes.items) s.read (omega (arith, length-take front bytes.items)))
still_possible (Cut len) s may = (s.read, may, cut_above len len s.read (omega arith))
still_possible (FailedCut len) s may = (s.read, may, cut_none len s.read)
still_possible Sync s may = (may, λ i _. refl)
still_possible FailedSync s may = may

pub possible : (first : List ℕ) (calls : List Call) → (state_after first calls).outcomes (state_after first calls).read
possible first [] = refl
possible first (call ∷ earlier) = still_possible call (state_after first earlier) (possible first earlier)

-- after a sync too
pub synced : (story : Story) (image : List ℕ) → image ≡ read_in story → OutcomeIn (noted Sync story) image
synced story image is = subst (λ (it : List ℕ). OutcomeIn (noted Sync story) it) (sym is) (possible story.first story.calls, λ i _. refl)
