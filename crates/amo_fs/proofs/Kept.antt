-- The content that a device keeps of its file, after writes that were made and writes that failed.
use Rattle.std.proofs.Common.{◌≡◌, ◌⊎◌, ℕ, ◌+◌, ◌-◌, ◌≤◌, ◌<◌, List, [], ◌++◌, length, take, drop, max, min, refl, sym, ap, subst, ◌∙◌, arith, rules, inl, inr}
use Rattle.std.proofs.lemmas.List.{take_all, take-append-drop, take-append-le, drop-append-le, length-take-le, length-drop, append-nil, append_assoc}
use Rattle.std.proofs.lemmas.Bool.{cases_lt}
use Rattle.std.proofs.lemmas.List.{drop-take}
use Rattle.std.proofs.Math.ListN.{drop_of_length-le}
use Rattle.std.proofs.Math.Seq.{take-append-add, take-append_seam}
use Rattle.std.proofs.Math.Nat.{eq-or-lt_of_le}
use Rattle.amo_journal.specs.Device.{Cut, Holds, WritesFront}

-- all of the bytes are a front of them
pub whole_front : (old : List ℕ) (at : ℕ) (bytes new : List ℕ) → Holds old at bytes new → WritesFront old at bytes new
whole_front old at bytes new holds = record {
  count = length bytes;
  some = omega arith;
  holds = subst (λ bs. Holds old at bs new) (sym (take_all (length bytes) bytes (omega arith))) holds;
}

-- without them it is so too
pub no_front : (old : List ℕ) (at : ℕ) (bytes : List ℕ) → WritesFront old at bytes old
no_front old at bytes = record {
  count = 0;
  some = omega arith;
  holds = sym (ap (λ front. front ++ drop (at + 0) old) (append-nil (take at old)) ∙ subst (λ k. take at old ++ drop k old ≡ old) (nothing at) (take-append-drop at old));
}
  where
    nothing : (k : ℕ) → k ≡ k + 0
    nothing k = omega arith

-- a file that wasn't cut is cut to some length between
pub uncut : (len : ℕ) (old : List ℕ) → Cut len old old
uncut len old = record { no_shorter = omega arith; front = take_all (length old) old (omega arith) }

-- a write over the end in two parts: the bytes after the end are added first, and then those before
-- it are written
pub over_end : (old : List ℕ) (at : ℕ) (bytes new : List ℕ) (k : ℕ) → at ≤ length old → k ≡ min (length bytes) (length old - at)
    → Holds (old ++ drop k bytes) at (take k bytes) new → Holds old at bytes new
over_end old at bytes new k fits is holds =
    let short : length (take k bytes) ≡ k = length-take-le k bytes (omega arith) in
    let front : take at (old ++ drop k bytes) ≡ take at old = take-append-le at old (drop k bytes) fits in
    let back : drop (at + k) (old ++ drop k bytes) ≡ drop (at + k) old ++ drop k bytes = drop-append-le (at + k) old (drop k bytes) (omega arith) in
    let behind : drop (at + length (take k bytes)) (old ++ drop k bytes) ≡ drop (at + k) old ++ drop k bytes = ap (λ n. drop (at + n) (old ++ drop k bytes)) short ∙ back in
    let less : k ≤ length bytes = omega arith in
    let all : take k bytes ++ (drop (at + k) old ++ drop k bytes) ≡ bytes ++ drop (at + length bytes) old = joined (eq-or-lt_of_le less) in
    holds ∙ ap (λ f. (f ++ take k bytes) ++ drop (at + length (take k bytes)) (old ++ drop k bytes)) front ∙ ap (λ b. (take at old ++ take k bytes) ++ b) behind
    ∙ append_assoc (take at old) (take k bytes) (drop (at + k) old ++ drop k bytes) ∙ ap (λ b. take at old ++ b) all
    ∙ sym (append_assoc (take at old) bytes (drop (at + length bytes) old))
  where
    joined : (k ≡ length bytes) ⊎ (k < length bytes) → take k bytes ++ (drop (at + k) old ++ drop k bytes) ≡ bytes ++ drop (at + length bytes) old
    joined (inl same) =
        let whole : take k bytes ≡ bytes = take_all k bytes (omega arith) in
        let none : drop k bytes ≡ [] = drop_of_length-le bytes (omega arith) in
        ap (λ b. b ++ (drop (at + k) old ++ drop k bytes)) whole ∙ ap (λ e. bytes ++ (drop (at + k) old ++ e)) none ∙ ap (λ b. bytes ++ b) (append-nil (drop (at + k) old)) ∙ ap (λ n. bytes ++ drop (at + n) old) same
    joined (inr less) =
        let none : drop (at + k) old ≡ [] = drop_of_length-le old (omega arith) in
        let nothing : drop (at + length bytes) old ≡ [] = drop_of_length-le old (omega arith) in
        ap (λ b. take k bytes ++ (b ++ drop k bytes)) none ∙ take-append-drop k bytes ∙ sym (append-nil bytes) ∙ ap (λ b. bytes ++ b) (sym nothing)

-- what a slice from some place on has
pub all_behind : (k : ℕ) (bytes : List ℕ) → take (length bytes - k) (drop k bytes) ≡ drop k bytes
all_behind k bytes = let len = length-drop k bytes in take_all (length bytes - k) (drop k bytes) (omega (arith, len))

-- the file after a write that was cut short: the bytes that were added at its end are cut to those
-- that were written
short_front : (old : List ℕ) (at n : ℕ) (bytes : List ℕ) (inside : ℕ) → at ≤ length old → n ≤ length bytes → inside ≡ min (length bytes) (length old - at)
    → take (max (length old) (at + n)) (old ++ drop inside bytes) ≡ old ++ drop (min inside n) (take n bytes)
short_front old at n bytes inside fits some is = by_case (cases_lt inside n)
  where
    by_case : (inside < n) ⊎ (n ≤ inside) → take (max (length old) (at + n)) (old ++ drop inside bytes) ≡ old ++ drop (min inside n) (take n bytes)
    by_case (inr less) =
        let most : max (length old) (at + n) ≡ length old = omega arith in
        let len : length (take n bytes) ≡ n = length-take-le n bytes some in
        let none : drop (min inside n) (take n bytes) ≡ [] = drop_of_length-le (take n bytes) (omega (arith, len)) in
        ap (λ k. take k (old ++ drop inside bytes)) most ∙ take-append_seam old (drop inside bytes) ∙ sym (append-nil old) ∙ ap (λ e. old ++ e) (sym none)
    by_case (inl more) =
        let most : max (length old) (at + n) ≡ length old + (n - inside) = omega arith in
        let least : min inside n ≡ inside = omega arith in
        let whole : inside + (n - inside) ≡ n = omega arith in
        ap (λ k. take k (old ++ drop inside bytes)) most ∙ take-append-add old (drop inside bytes) (n - inside)
        ∙ ap (λ b. old ++ b) (sym (drop-take inside (n - inside) bytes)) ∙ ap (λ k. old ++ drop inside (take k bytes)) whole
        ∙ ap (λ k. old ++ drop k (take n bytes)) (sym least)

-- a write of which only the first n bytes were written
pub cut_short : (old : List ℕ) (at n : ℕ) (bytes grown kept new : List ℕ) (inside : ℕ) → at ≤ length old → n ≤ length bytes → inside ≡ min (length bytes) (length old - at)
    → grown ≡ old ++ drop inside bytes → kept ≡ take (max (length old) (at + n)) grown → Holds kept at (take (min inside n) bytes) new → Holds old at (take n bytes) new
cut_short old at n bytes grown kept new inside fits some is grows keeps holds =
    let len : length (take n bytes) ≡ n = length-take-le n bytes some in
    let front : take (min inside n) bytes ≡ take (min inside n) (take n bytes) =
    ap (λ b. take (min inside n) b) (sym (take-append-drop n bytes)) ∙ take-append-le (min inside n) (take n bytes) (drop n bytes) (omega (arith, len)) in
    let left : kept ≡ old ++ drop (min inside n) (take n bytes) =
    keeps ∙ ap (λ g. take (max (length old) (at + n)) g) grows ∙ short_front old at n bytes inside fits some is in
    over_end old at (take n bytes) new (min inside n) fits (omega (arith, len))
    (subst (λ f. Holds (old ++ drop (min inside n) (take n bytes)) at f new) front (subst (λ k. Holds k at (take (min inside n) bytes) new) left holds))
