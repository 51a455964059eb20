-- The words of a set as contracts see them, and as they are once the bit of one job is written.
use Rattle.std.proofs.Common.{⊎_elim, subst, ◌≡◌, ◌≢◌, ℕ, zero, suc, ◌+◌, ◌-◌, ◌*◌, ◌/◌, ◌%◌, ◌^◌, ◌<◌, ◌≤◌, Bool, true, false, List, length, get_or, set, refl, sym, ap, ◌∙◌, arith, bit_and, bit_or, w64}
use Rattle.std.specs.Int.{bit_not}
use Rattle.std.proofs.lemmas.Bool.{cases_lt, cases_eq}
use Rattle.std.proofs.lemmas.List.{get_or_read}
use Rattle.amo_sets.specs.declared.job_set.JobSet.TheInside.{Inside}
use Rattle.amo_sets.specs.contracts.job_set.JobSet.{the_view, the_invariant}
use Rattle.amo_sets.specs.Bits.{is_one, bit}
use Rattle.amo_sets.specs.Lists.{numbered, put, table}
use Rattle.amo_sets.specs.Rank.{count}
use Rattle.amo_sets.proofs.Numbers.{numbered-put_same, numbered-put_other, length-put, length-table, count_pos}
use Rattle.amo_sets.proofs.Tables.{numbered-table, numbered_past, table_is}
use Rattle.amo_sets.proofs.Tally.{count_same, count_gain, count_lt}
use Rattle.amo_sets.proofs.Words.{bit_in, IsWritten, written_set, written_cleared, bit_written, bit_kept}

pub length_of : (a : Inside) (s : List Bool) → the_view a ≡ s → length s ≡ a.range
length_of a s e = ap length (sym e) ∙ length-table (bit a.words.items) a.range

pub member_of : (a : Inside) (s : List Bool) → the_view a ≡ s → (j : ℕ) → 1 ≤ j → j ≤ length s → numbered false s j ≡ bit a.words.items j
member_of a s e j l h = let len = length_of a s e in ap (λ (xs : List Bool). numbered false xs j) (sym e) ∙ numbered-table false (bit a.words.items) a.range j l (omega arith)

-- each bit says whether its job is a member, also outside 1..n
pub bits_are : (a : Inside) (s : List Bool) → the_view a ≡ s → the_invariant a → (j : ℕ) → bit a.words.items j ≡ numbered false s j
bits_are a s e inv zero = refl
bits_are a s e inv (suc k) = let len = length_of a s e in ⊎_elim
    (λ (l : a.range < suc k). inv.spare (suc k) l ∙ sym (numbered_past false s (suc k) (omega arith)))
    (λ (h : suc k ≤ a.range). sym (member_of a s e (suc k) (omega arith) (omega arith)))
    (cases_lt a.range (suc k))

-- and so does each bit of a word that was read
pub bit_read : (a : Inside) (s : List Bool) → the_view a ≡ s → the_invariant a → (q x : ℕ) → q < length a.words.items → x ≡ get_or a.words.items q x
    → (r : ℕ) → 1 ≤ r → r ≤ 64 → is_one x r ≡ numbered false s (64 * q + r)
bit_read a s e inv q x lt read r low high =
    ap (λ (w : ℕ). is_one w r) (get_or_read a.words.items q x lt read 0) ∙ sym (bit_in a.words.items q r low high) ∙ bits_are a s e inv (64 * q + r)

-- the length that is kept
pub kept_is : (a : Inside) (s : List Bool) → the_view a ≡ s → the_invariant a → a.len ≡ count (length s) (numbered false s)
kept_is a s e inv =
    inv.kept ∙ ap (λ (m : ℕ). count m (bit a.words.items)) (sym (length_of a s e)) ∙ count_same (length s) (bit a.words.items) (numbered false s) (λ j l h. sym (member_of a s e j l h))

-- if there is a stranger, there are fewer members than jobs; and if there is a member, there is one
-- at least
pub with_stranger : (a : Inside) (s : List Bool) (j : ℕ) → the_view a ≡ s → the_invariant a → 1 ≤ j → j ≤ length s → numbered false s j ≡ false → a.len < a.range
with_stranger a s j e inv l h is = let n = length_of a s e in let kept = kept_is a s e inv in let few = count_lt (length s) (numbered false s) j l h is in omega arith

pub with_member : (a : Inside) (s : List Bool) (j : ℕ) → the_view a ≡ s → the_invariant a → 1 ≤ j → j ≤ length s → numbered false s j ≡ true → 1 ≤ a.len
with_member a s j e inv l h is = let kept = kept_is a s e inv in let some = count_pos (length s) (numbered false s) j l h is in omega arith

-- job j has its word
pub word_of : (a : Inside) (s : List Bool) → the_view a ≡ s → the_invariant a → (j : ℕ) → 1 ≤ j → j ≤ length s → (j - 1) / 64 < length a.words.items
word_of a s e inv j l h = let len = length_of a s e in omega (arith, inv.size)

-- w is the word of job j with the bit of j written
pub record WritesJob (a : Inside) (s : List Bool) (j w : ℕ) (value : Bool) : Type 0 where
  pub sees : the_view a ≡ s
  pub keeps : the_invariant a
  pub low : 1 ≤ j
  pub high : j ≤ length s
  pub word : IsWritten (get_or a.words.items ((j - 1) / 64) 0) w (suc ((j - 1) % 64)) value

pub adds_job : (a : Inside) (s : List Bool) (j x : ℕ) → the_view a ≡ s → the_invariant a → 1 ≤ j → j ≤ length s → x ≡ get_or a.words.items ((j - 1) / 64) x
    → WritesJob a s j (bit_or x (1 * 2 ^ ((j - 1) % 64) % 2 ^ 64)) true
adds_job a s j x e inv l h is = record {
  sees = e;
  keeps = inv;
  low = l;
  high = h;
  word = subst (λ (w : ℕ). IsWritten w (bit_or x (1 * 2 ^ ((j - 1) % 64) % 2 ^ 64)) (suc ((j - 1) % 64)) true) (get_or_read a.words.items ((j - 1) / 64) x (word_of a s e inv j l h) is 0) (written_set x ((j - 1) % 64) (omega arith));
}

pub takes_job : (a : Inside) (s : List Bool) (j x : ℕ) → the_view a ≡ s → the_invariant a → 1 ≤ j → j ≤ length s → x ≡ get_or a.words.items ((j - 1) / 64) x
    → WritesJob a s j (bit_and x (bit_not w64 (1 * 2 ^ ((j - 1) % 64) % 2 ^ 64))) false
takes_job a s j x e inv l h is = record {
  sees = e;
  keeps = inv;
  low = l;
  high = h;
  word = subst (λ (w : ℕ). IsWritten w (bit_and x (bit_not w64 (1 * 2 ^ ((j - 1) % 64) % 2 ^ 64))) (suc ((j - 1) % 64)) false) (get_or_read a.words.items ((j - 1) / 64) x (word_of a s e inv j l h) is 0) (written_cleared x ((j - 1) % 64) (omega arith));
}

bit_here : (a : Inside) (s : List Bool) (j w : ℕ) (v : Bool) → WritesJob a s j w v → bit (set a.words.items ((j - 1) / 64) w) j ≡ v
bit_here a s j w v h =
    let at : j ≡ suc (j - 1) = omega (arith, h.low) in
    ap (bit (set a.words.items ((j - 1) / 64) w)) at ∙ bit_written a.words.items (j - 1) w v (word_of a s h.sees h.keeps j h.low h.high) h.word

bit_elsewhere : (a : Inside) (s : List Bool) (j w : ℕ) (v : Bool) → WritesJob a s j w v → (k : ℕ) → k ≢ j → bit (set a.words.items ((j - 1) / 64) w) k ≡ bit a.words.items k
bit_elsewhere a s j w v h k ne =
    let low = h.low in
    bit_kept a.words.items (j - 1) w v (word_of a s h.sees h.keeps j h.low h.high) h.word k (λ e. ne (omega arith))

pub shown_written : (a : Inside) (s : List Bool) (j w : ℕ) (v : Bool) → WritesJob a s j w v → table a.range (bit (set a.words.items ((j - 1) / 64) w)) ≡ put s j v
shown_written a s j w v writes =
    let len = length_of a s writes.sees in
    table_is false (bit (set a.words.items ((j - 1) / 64) w)) a.range (put s j v) (length-put v s j ∙ len)
    (λ k l h. ⊎_elim
    (λ (x : k ≡ j). ap (bit (set a.words.items ((j - 1) / 64) w)) x ∙ bit_here a s j w v writes ∙ sym (numbered-put_same false v s j writes.low writes.high) ∙ ap (numbered false (put s j v)) (sym x))
    (λ (x : k ≢ j). bit_elsewhere a s j w v writes k x ∙ sym (member_of a s writes.sees k l (omega arith)) ∙ sym (numbered-put_other false v s j k x))
    (cases_eq k j))

pub spare_written : (a : Inside) (s : List Bool) (j w : ℕ) (v : Bool) → WritesJob a s j w v → (k : ℕ) → a.range < k → bit (set a.words.items ((j - 1) / 64) w) k ≡ false
spare_written a s j w v writes k l =
    let len = length_of a s writes.sees in
    let high = writes.high in
    let ne : k ≢ j = omega arith in
    bit_elsewhere a s j w v writes k ne ∙ writes.keeps.spare k l

-- a stranger was added
pub count_added : (a : Inside) (s : List Bool) (j w : ℕ) → WritesJob a s j w true → numbered false s j ≡ false → count a.range (bit (set a.words.items ((j - 1) / 64) w)) ≡ a.len + 1
count_added a s j w writes stranger =
    let len = length_of a s writes.sees in
    count_gain a.range (bit a.words.items) (bit (set a.words.items ((j - 1) / 64) w)) j writes.low (omega (arith, writes.high)) (sym (member_of a s writes.sees j writes.low writes.high) ∙ stranger) (bit_here a s j w true writes) (bit_elsewhere a s j w true writes)
    ∙ ap (λ (m : ℕ). m + 1) (sym writes.keeps.kept)

-- a member was taken out
pub count_taken : (a : Inside) (s : List Bool) (j w : ℕ) → WritesJob a s j w false → numbered false s j ≡ true → a.len ≡ count a.range (bit (set a.words.items ((j - 1) / 64) w)) + 1
count_taken a s j w writes member =
    let len = length_of a s writes.sees in
    writes.keeps.kept
    ∙ count_gain a.range (bit (set a.words.items ((j - 1) / 64) w)) (bit a.words.items) j writes.low (omega (arith, writes.high)) (bit_here a s j w false writes) (sym (member_of a s writes.sees j writes.low writes.high) ∙ member) (λ k ne. sym (bit_elsewhere a s j w false writes k ne))
