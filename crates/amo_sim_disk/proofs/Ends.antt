-- Facts that hold at both ends of a call.
use Rattle.std.proofs.Common.{◌≡◌, ◌⊎◌, inl, inr, ℕ, zero, suc, ◌/◌, ◌≤◌, Bool, true, false, List, length, drop, Result, Ok, Err, Vec, Global, sym, ◌∙◌, subst, arith}
use Rattle.amo_journal.specs.Device.{WritesFront}
use Rattle.amo_journal.specs.declared.device.DeviceError.{DeviceError}
use Rattle.amo_journal.specs.declared.device.DeviceError.TheVariants.{Memory, Failed}
use Rattle.amo_sim_disk.specs.declared.call.Call.{Call}
use Rattle.amo_sim_disk.specs.Calls.{has_failed, write_call}
use Rattle.amo_sim_disk.specs.Moments.{GoesOn, LeftSince}
use Rattle.amo_sim_disk.specs.Replay.{Leaves, LeavesNoted, OutcomeIn, Story, fails_next, noted, read_in, state_after}
use Rattle.amo_sim_disk.proofs.Torn.{front_of, front_all, front_none}

-- what holds with the call and without holds then
at_end : (old new : Story) (call : Call) (P : Story → Type 0) → P old → P (noted call old) → (r : Result (Unit {0}) DeviceError)
    → LeavesNoted call old new r → P new
at_end old new call P without with_it (Ok done) leaves = subst P (sym leaves.0) with_it
at_end old new call P without with_it (Err Failed) leaves = subst P (sym leaves.0) with_it
at_end old new call P without with_it (Err Memory) leaves = subst P (sym leaves) without

since_then : (old : Story) (call : Call) (t : ℕ) (image : List ℕ) (last : ℕ) → t ≤ length (drop last (noted call old).calls)
    → (state_after old.first (drop last (noted call old).calls)).outcomes image → LeftSince old t image ⊎ OutcomeIn (noted call old) image
since_then old call t image zero le left = inr left
since_then old call t image (suc last) le left = inl (last, le, left)

-- time goes on
pub time_on : (old new : Story) (call : Call) (r : Result (Unit {0}) DeviceError) → LeavesNoted call old new r → GoesOn old new
time_on old new call = at_end old new call (GoesOn old)
    (record { later = omega arith; nothing_else = λ t image le since. inl since; keeps = λ t image le past. past })
    (record {
      later = omega arith;
      nothing_else = λ t image le since. since_then old call t image since.0 since.1 since.2;
      keeps = λ t image le past. (suc past.0, past.1, past.2);
    })

front_noted : (fails : Bool) (at : ℕ) (bytes : Vec ℕ Global) (old : Story) → WritesFront (read_in old) at bytes.items (read_in (noted (write_call fails at bytes) old))
front_noted false at bytes old = front_all (read_in old) at bytes.items
front_noted true at bytes old = front_of (read_in old) at bytes.items (length bytes.items / 2) (omega arith)

-- a write writes a front
pub writes_front : (fails : Bool) (at : ℕ) (bytes : Vec ℕ Global) (old new : Story) (call : Call) (r : Result (Unit {0}) DeviceError)
    → call ≡ write_call fails at bytes → LeavesNoted call old new r → WritesFront (read_in old) at bytes.items (read_in new)
writes_front fails at bytes old new call r is = at_end old new call (λ s. WritesFront (read_in old) at bytes.items (read_in s))
    (front_none (read_in old) at bytes.items)
    (subst (λ (it : Call). WritesFront (read_in old) at bytes.items (read_in (noted it old))) (sym is) (front_noted fails at bytes old))
    r

-- the call that was made is such a call
pub leaves : (Is : Bool → Call → Type 0) (old new : Story) (call : Call) (r : Result (Unit {0}) DeviceError)
    → has_failed call ≡ fails_next old → Is (fails_next old) call → LeavesNoted call old new r → Leaves Is old new r
leaves Is old new call (Ok done) planned is noted =
    let no : fails_next old ≡ false = sym planned ∙ noted.1 in
    (call, subst (λ (b : Bool). Is b call) no is, noted.0, no)
leaves Is old new call (Err Failed) planned is noted =
    let yes : fails_next old ≡ true = sym planned ∙ noted.1 in
    (call, subst (λ (b : Bool). Is b call) yes is, noted.0, yes)
leaves Is old new call (Err Memory) planned is noted = noted
