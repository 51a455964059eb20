-- A crash may leave of a front of some bytes no more than of all of them.
use Rattle.std.proofs.Common.{◌≡◌, ℕ, ◌+◌, ◌-◌, ◌≤◌, false, List, length, drop, Vec, Global, sym, ◌∙◌, ap, subst, arith}
use Rattle.std.proofs.lemmas.List.{drop-drop}
use Rattle.amo_journal.specs.Device.{Holds, Torn}
use Rattle.amo_sim_disk.specs.declared.call.Call.{Call}
use Rattle.amo_sim_disk.specs.declared.call.Call.TheVariants.{Write}
use Rattle.amo_sim_disk.specs.Calls.{with_bytes, write_call}
use Rattle.amo_sim_disk.specs.Replay.{OutcomeIn, Story, noted, read_in}

-- a torn write of n bytes is one of more
wider : (at n m : ℕ) (read old new : List ℕ) → n ≤ m → Torn at n read old new → Torn at m read old new
wider at n m read old new le torn = record {
  before = torn.before;
  after = sym (further new) ∙ ap (λ (b : List ℕ). drop (m - n) b) torn.after ∙ further old;
  no_shorter = torn.no_shorter;
  no_longer = let longer = torn.no_longer in omega (arith, longer);
  each = torn.each;
}
  where
    further : (file : List ℕ) → drop (m - n) (drop (at + n) file) ≡ drop (at + m) file
    further file = drop-drop (m - n) (at + n) file ∙ ap (λ (k : ℕ). drop k file) (omega arith)

-- a disk of which this front was written
pub torn_front : (at : ℕ) (front bytes before after : List ℕ) (old new : Story) (given : Vec ℕ Global) (call : Call)
    → length front ≤ length bytes → given.items ≡ front → call ≡ write_call false at given → new ≡ noted call old → read_in old ≡ before → Holds before at front after
    → (file : List ℕ) → OutcomeIn new file → (d : List ℕ) × OutcomeIn old d × Torn at (length bytes) after d file
torn_front at front bytes before after old new given call less same is news reads holds file leaves =
    let left : OutcomeIn (noted (Write at given) old) file = subst (λ (s : Story). OutcomeIn s file) (news ∙ ap (λ (it : Call). noted it old) is) leaves in
    let stands : with_bytes at given.items (read_in old) ≡ after =
    ap (λ (bs : List ℕ). with_bytes at bs (read_in old)) same ∙ ap (λ (read : List ℕ). with_bytes at front read) reads ∙ sym holds in
    let fits : length given.items ≤ length bytes = subst (λ (bs : List ℕ). length bs ≤ length bytes) (sym same) less in (
      left.0,
      left.1,
      subst (λ (read : List ℕ). Torn at (length bytes) read left.0 file) stands
          (wider at (length given.items) (length bytes) (with_bytes at given.items (read_in old)) left.0 file fits left.2),
    )
