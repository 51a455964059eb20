-- A file is the blocks of its texts, and an end that stands for nothing.
use Rattle.std.proofs.Common.{◌≡◌, inl, inr, ℕ, zero, suc, ◌+◌, ◌≤◌, Bool, cond, List, [], ◌∷◌, ◌++◌, length, take, Option, Some, None, refl, sym, ◌∙◌, ap, subst, arith, append_assoc}
use Rattle.std.proofs.lemmas.Bool.{cases_eq}
use Rattle.std.proofs.lemmas.List.{append-nil}
use Rattle.amo_journal.specs.Texts.{IsOneLine, AreOneLine, texts_from, texts_in, blocks}
use Rattle.amo_journal.proofs.Blocks.{equal, not_equal, one_line_push, unfinished, closed}

-- what stands before the bytes of a block that was begun
abbrev begun : Option (List ℕ) → List ℕ
begun None = []
begun (Some text) = 43 ∷ text

abbrev IsBegun : Option (List ℕ) → Type 0
IsBegun None = Unit {0}
IsBegun (Some text) = IsOneLine text

-- the bytes are the blocks of their texts, and an end that stands for nothing
record PartsFrom (bytes : List ℕ) (at : Option (List ℕ)) : Type 0 where
  pub end : List ℕ
  pub split : begun at ++ bytes ≡ blocks (texts_from bytes at) ++ end
  pub nothing : texts_in end ≡ []
  pub one_line : AreOneLine (texts_from bytes at)

along : (bytes more : List ℕ) (at next : Option (List ℕ)) → begun at ++ bytes ≡ begun next ++ more → texts_from bytes at ≡ texts_from more next → PartsFrom more next → PartsFrom bytes at
along bytes more at next same texts p = record {
  end = p.end;
  split = same ∙ p.split ∙ ap (λ (ts : List (List ℕ)). blocks ts ++ p.end) (sym texts);
  nothing = p.nothing;
  one_line = subst AreOneLine (sym texts) p.one_line;
}

parts_from : (bytes : List ℕ) (at : Option (List ℕ)) → IsBegun at → PartsFrom bytes at
parts_from [] None one = record { end = []; split = refl; nothing = refl; one_line = tt }
parts_from [] (Some text) one = record { end = 43 ∷ text; split = append-nil (43 ∷ text); nothing = unfinished text [] one; one_line = tt }
parts_from (b ∷ bytes) None one = elim (cases_eq b 43) [
  | inl is ↦ along (b ∷ bytes) bytes None (Some []) (ap (λ (n : ℕ). n ∷ bytes) is) (ap (λ (t : Bool). cond t (texts_from bytes (Some [])) []) (equal b 43 is)) (parts_from bytes (Some []) tt)
  | inr isnt ↦
      let none : texts_from (b ∷ bytes) None ≡ [] = closed b bytes isnt in
      record { end = b ∷ bytes; split = ap (λ (ts : List (List ℕ)). blocks ts ++ b ∷ bytes) (sym none); nothing = none; one_line = subst AreOneLine (sym none) tt }
]
parts_from (b ∷ bytes) (Some text) one = elim (cases_eq b 10) [
  | inl is ↦
      let p = parts_from bytes None tt in
      let texts : texts_from (b ∷ bytes) (Some text) ≡ text ∷ texts_from bytes None =
      ap (λ (t : Bool). cond t (text ∷ texts_from bytes None) (texts_from bytes (Some (text ++ b ∷ [])))) (equal b 10 is) in
      let behind : 43 ∷ text ++ b ∷ bytes ≡ 43 ∷ text ++ (10 ∷ blocks (texts_from bytes None) ++ p.end) =
      ap (λ (n : ℕ). 43 ∷ text ++ n ∷ bytes) is ∙ ap (λ (l : List ℕ). 43 ∷ text ++ 10 ∷ l) p.split in
      record {
        end = p.end;
        split = behind ∙ ap (λ (l : List ℕ). 43 ∷ l) (sym (append_assoc text (10 ∷ blocks (texts_from bytes None)) p.end)) ∙ ap (λ (ts : List (List ℕ)). blocks ts ++ p.end) (sym texts);
        nothing = p.nothing;
        one_line = subst AreOneLine (sym texts) (one, p.one_line);
      }
  | inr isnt ↦ along (b ∷ bytes) bytes (Some text) (Some (text ++ b ∷ []))
      (ap (λ (l : List ℕ). 43 ∷ l) (sym (append_assoc text (b ∷ []) bytes)))
      (ap (λ (t : Bool). cond t (text ∷ texts_from bytes None) (texts_from bytes (Some (text ++ b ∷ [])))) (not_equal b 10 isnt))
      (parts_from bytes (Some (text ++ b ∷ [])) (one_line_push text b one isnt))
]

pub record Parts (file : List ℕ) : Type 0 where
  pub end : List ℕ
  pub split : file ≡ blocks (texts_in file) ++ end
  pub nothing : texts_in end ≡ []

pub parts : (file : List ℕ) → Parts file
parts file = let p = parts_from file None tt in record { end = p.end; split = p.split; nothing = p.nothing }

pub texts_are_one_line : (file : List ℕ) → AreOneLine (texts_in file)
texts_are_one_line file = (parts_from file None tt).one_line

-- nor does the front of an end that stands for nothing
front_from : (n : ℕ) (bytes : List ℕ) (at : Option (List ℕ)) → texts_from bytes at ≡ [] → texts_from (take n bytes) at ≡ []
front_from zero bytes at none = refl
front_from (suc n) [] at none = refl
front_from (suc n) (b ∷ bytes) None none = elim (cases_eq b 43) [
  | inl is ↦
      let more : (l : List ℕ) → texts_from (b ∷ l) None ≡ texts_from l (Some []) = λ l. ap (λ (t : Bool). cond t (texts_from l (Some [])) []) (equal b 43 is) in
      more (take n bytes) ∙ front_from n bytes (Some []) (sym (more bytes) ∙ none)
  | inr isnt ↦ closed b (take n bytes) isnt
]
front_from (suc n) (b ∷ bytes) (Some text) none = elim (cases_eq b 10) [
  | inl is ↦
      let some : texts_from (b ∷ bytes) (Some text) ≡ text ∷ texts_from bytes None =
      ap (λ (t : Bool). cond t (text ∷ texts_from bytes None) (texts_from bytes (Some (text ++ b ∷ [])))) (equal b 10 is) in
      absurd (cc (some, none))
  | inr isnt ↦
      let more : (l : List ℕ) → texts_from (b ∷ l) (Some text) ≡ texts_from l (Some (text ++ b ∷ [])) =
      λ l. ap (λ (t : Bool). cond t (text ∷ texts_from l None) (texts_from l (Some (text ++ b ∷ [])))) (not_equal b 10 isnt) in
      more (take n bytes) ∙ front_from n bytes (Some (text ++ b ∷ [])) (sym (more bytes) ∙ none)
]

pub front_nothing : (n : ℕ) (end : List ℕ) → texts_in end ≡ [] → texts_in (take n end) ≡ []
front_nothing n end none = front_from n end None none

pub short_nothing : (bytes : List ℕ) → length bytes ≤ 1 → texts_in bytes ≡ []
short_nothing [] short = refl
short_nothing (b ∷ []) short = elim (cases_eq b 43) [
  | inl is ↦ ap (λ (t : Bool). cond t (texts_from [] (Some [])) []) (equal b 43 is)
  | inr isnt ↦ closed b [] isnt
]
short_nothing (a ∷ b ∷ bytes) short = absurd (omega arith)

pub take_past : (xs ys : List ℕ) (m n : ℕ) → m ≡ length xs + n → take m (xs ++ ys) ≡ xs ++ take n ys
take_past [] ys m n is = let same : m ≡ n = omega arith in ap (λ (k : ℕ). take k ys) same
take_past (x ∷ xs) ys zero n is = absurd (omega arith)
take_past (x ∷ xs) ys (suc m) n is = ap (λ (l : List ℕ). x ∷ l) (take_past xs ys m n (omega arith))
