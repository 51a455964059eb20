-- Fronts of a write, torn writes, and cuts.
use Rattle.std.proofs.Common.{◌≡◌, ◌⊎◌, inl, inr, ⊎_elim, ℕ, zero, suc, ◌+◌, ◌-◌, ◌≤◌, min, List, [], ◌∷◌, ◌++◌, length, take, drop, Some, None, refl, sym, ◌∙◌, ap, subst, arith, length-take, take-append-drop}
use Rattle.std.specs.List.{slice_get}
use Rattle.std.proofs.lemmas.Bool.{cases_lt}
use Rattle.std.proofs.lemmas.List.{take_all, take_min, take_rest, drop_min, append-nil}
use Rattle.amo_journal.specs.Device.{Torn, Cut, WritesFront}
use Rattle.amo_sim_disk.specs.Calls.{with_bytes}
use Rattle.amo_sim_disk.specs.Tearing.{IsOldOrNew}
use Rattle.amo_sim_disk.proofs.Bytes.{long, before, after, get_before, get_among, get_after, get-drop}

-- a front of the bytes
pub front_of : (old : List ℕ) (at : ℕ) (bytes : List ℕ) (count : ℕ) → count ≤ length bytes → WritesFront old at bytes (with_bytes at (take count bytes) old)
front_of old at bytes count le = record { count = count; some = le; holds = refl }

-- all of them
pub front_all : (old : List ℕ) (at : ℕ) (bytes : List ℕ) → WritesFront old at bytes (with_bytes at bytes old)
front_all old at bytes = record {
  count = length bytes;
  some = omega arith;
  holds = ap (λ (bs : List ℕ). with_bytes at bs old) (sym (take_all (length bytes) bytes (omega arith)));
}

-- none of them
pub front_none : (old : List ℕ) (at : ℕ) (bytes : List ℕ) → WritesFront old at bytes old
front_none old at bytes = record {
  count = 0;
  some = omega arith;
  holds = sym (ap (λ (front : List ℕ). front ++ drop (at + 0) old) (append-nil (take at old))
      ∙ ap (λ (n : ℕ). take at old ++ drop n old) (omega arith) ∙ take-append-drop at old);
}

-- no cut is a cut
pub cut_none : (n : ℕ) (file : List ℕ) → Cut n file file
cut_none n file = record { no_shorter = omega arith; front = take_all (length file) file (omega arith) }

-- to its length or above
pub cut_above : (n m : ℕ) (file : List ℕ) → n ≤ m → Cut n file (take m file)
cut_above n m file le = record {
  no_shorter = omega (arith, length-take m file);
  front = ap (λ (k : ℕ). take k file) (length-take m file) ∙ take_min m file;
}

-- a write that is not torn
pub torn_whole : (at n : ℕ) (bytes read : List ℕ) → length bytes ≤ n → Torn at n (with_bytes at bytes read) read (with_bytes at bytes read)
torn_whole at n bytes read short = record {
  before = before at bytes read;
  after = after at bytes read n short;
  no_shorter = omega (arith, long at bytes read);
  no_longer = omega (arith, long at bytes read);
  each = λ i b is. inr (inl is);
}

-- a write of which no byte came
pub torn_none : (at n : ℕ) (read file : List ℕ) → Torn at n read file file
torn_none at n read file = record { before = λ le. refl; after = refl; no_shorter = omega arith; no_longer = omega arith; each = λ i b is. inl is }

-- past the end nothing stands
nothing_behind : (xs : List ℕ) (i : ℕ) → slice_get xs i ≡ None → length xs ≤ i
nothing_behind [] i none = omega arith
nothing_behind (x ∷ xs) zero none = absurd (cc none)
nothing_behind (x ∷ xs) (suc i) none = let rest = nothing_behind xs i none in omega arith

-- a write by which other bytes came, each of which stood there, or is the one that is read, or 0
module _ (at n : ℕ) (bytes read file : List ℕ) (le : at ≤ length file) (short : length bytes ≤ n)
    (kept : (i b : ℕ) → slice_get bytes i ≡ Some b → IsOldOrNew (slice_get (drop at file) i) (slice_get (drop at read) i) b) where
  among : (i b : ℕ) → at ≤ i → IsOldOrNew (slice_get (drop at file) (i - at)) (slice_get (drop at read) (i - at)) b
      → (slice_get file i ≡ Some b) ⊎ ((slice_get read i ≡ Some b) ⊎ ((length file ≤ i) × (b ≡ 0)))
  among i b ge one =
      let is : i ≡ at + (i - at) = omega arith in
      ⊎_elim
      (λ (old : slice_get (drop at file) (i - at) ≡ Some b). inl (sym (get-drop at file i (i - at) is) ∙ old))
      (λ other. ⊎_elim
      (λ (new : slice_get (drop at read) (i - at) ≡ Some b). inr (inl (sym (get-drop at read i (i - at) is) ∙ new)))
      (λ (past : (slice_get (drop at file) (i - at) ≡ None) × (b ≡ 0)). inr (inr (nothing_behind file i (sym (get-drop at file i (i - at) is) ∙ past.0), past.1)))
      other)
      one

  each : (i b : ℕ) → slice_get (with_bytes at bytes file) i ≡ Some b → (slice_get file i ≡ Some b) ⊎ ((slice_get read i ≡ Some b) ⊎ ((length file ≤ i) × (b ≡ 0)))
  each i b here = elim (cases_lt i at) [
    | inl lt ↦ inl (sym (get_before at bytes file le i lt) ∙ here)
    | inr ge ↦
        let is : i ≡ at + (i - at) = omega arith in
        elim (cases_lt (i - at) (length bytes)) [
          | inl lt ↦ among i b ge (kept (i - at) b (sym (get_among at bytes file le i (i - at) is lt) ∙ here))
          | inr far ↦ inl (sym (get_after at bytes file le i (i - at - length bytes) (omega arith)) ∙ here)
        ]
  ]

  torn_by : Torn at n read file (with_bytes at bytes file)
  torn_by = record {
    before = before at bytes file;
    after = after at bytes file n short;
    no_shorter = omega (arith, long at bytes file);
    no_longer = omega (arith, long at bytes file);
    each = each;
  }

-- as the bytes that came are taken from other lists
pub torn_over : (at n k m : ℕ) (came bytes read file : List ℕ) → at ≤ length file → k ≡ min (length came) n → m ≡ min at (length read)
    → length bytes ≡ length (take k came)
    → ((i b : ℕ) → slice_get bytes i ≡ Some b
    → IsOldOrNew (slice_get (take (length file - at) (drop at file)) i) (slice_get (take (length read - m) (drop m read)) i) b)
    → Torn at n read file (with_bytes at bytes file)
torn_over at n k m came bytes read file le k_is m_is long_is kept =
    let short : length bytes ≤ n = omega (arith, length-take k came, long_is, k_is) in
    let at_read : take (length read - m) (drop m read) ≡ drop at read = take_rest read m ∙ ap (λ (i : ℕ). drop i read) m_is ∙ drop_min at read in
    torn_by at n bytes read file le short
    (λ i b here.
    subst (λ (l : List ℕ). IsOldOrNew (slice_get (drop at file) i) (slice_get l i) b) at_read
    (subst (λ (l : List ℕ). IsOldOrNew (slice_get l i) (slice_get (take (length read - m) (drop m read)) i) b) (take_rest file at) (kept i b here)))
