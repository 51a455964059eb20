-- The byte at a place of a file with bytes written over it, and the parts of the file.
use Rattle.std.proofs.Common.{◌≡◌, inl, inr, ℕ, zero, suc, ◌+◌, ◌-◌, ◌<◌, ◌≤◌, min, List, [], ◌∷◌, ◌++◌, length, take, drop, refl, sym, ◌∙◌, ap, arith, append_assoc, length-append, length-take, length-drop}
use Rattle.std.specs.List.{slice_get}
use Rattle.std.proofs.lemmas.Bool.{cases_lt}
use Rattle.std.proofs.lemmas.List.{take_at, drop_all, drop-drop}
use Rattle.std.proofs.Math.Seq.{drop-append-add}
use Rattle.amo_sim_disk.specs.Calls.{with_bytes}

pub get-front : {A : Type 0} (xs ys : List A) (i : ℕ) → i < length xs → slice_get (xs ++ ys) i ≡ slice_get xs i
get-front [] ys i lt = absurd (omega arith)
get-front (x ∷ xs) ys zero lt = refl
get-front (x ∷ xs) ys (suc i) lt = get-front xs ys i (omega arith)

pub get-behind : {A : Type 0} (xs ys : List A) (i j : ℕ) → i ≡ length xs + j → slice_get (xs ++ ys) i ≡ slice_get ys j
get-behind [] ys i j is = ap (λ (k : ℕ). slice_get ys k) (omega (arith, is))
get-behind (x ∷ xs) ys zero j is = absurd (omega (arith, is))
get-behind (x ∷ xs) ys (suc i) j is = get-behind xs ys i j (omega (arith, is))

pub get-take : {A : Type 0} (n : ℕ) (xs : List A) (i : ℕ) → i < n → slice_get (take n xs) i ≡ slice_get xs i
get-take zero xs i lt = absurd (omega arith)
get-take (suc n) [] i lt = refl
get-take (suc n) (x ∷ xs) zero lt = refl
get-take (suc n) (x ∷ xs) (suc i) lt = get-take n xs i (omega arith)

pub get-drop : {A : Type 0} (n : ℕ) (xs : List A) (i j : ℕ) → i ≡ n + j → slice_get (drop n xs) j ≡ slice_get xs i
get-drop zero xs i j is = ap (λ (k : ℕ). slice_get xs k) (omega (arith, is))
get-drop (suc n) [] i j is = refl
get-drop (suc n) (x ∷ xs) zero j is = absurd (omega (arith, is))
get-drop (suc n) (x ∷ xs) (suc i) j is = get-drop n xs i j (omega (arith, is))

module _ (at : ℕ) (bytes file : List ℕ) where
  pub long : length (with_bytes at bytes file) ≡ min at (length file) + length bytes + (length file - (at + length bytes))
  long = omega (arith, length-append (take at file ++ bytes) (drop (at + length bytes) file), length-append (take at file) bytes, length-take at file, length-drop (at + length bytes) file)

  pub before : at ≤ length file → take at (with_bytes at bytes file) ≡ take at file
  before le =
      ap (λ (l : List ℕ). take at l) (append_assoc (take at file) bytes (drop (at + length bytes) file))
      ∙ take_at (take at file) (bytes ++ drop (at + length bytes) file) at (omega (arith, length-take at file))

  same_end : (n k : ℕ) → at + n ≡ length (take at file ++ bytes) + k → drop (at + length bytes + k) file ≡ drop (at + n) file
  same_end n k is = elim (cases_lt (length file) at) [
    | inl past ↦
        let end : length file ≤ at + length bytes + k = omega (arith, length-append (take at file) bytes, length-take at file) in
        drop_all (at + length bytes + k) file end ∙ sym (drop_all (at + n) file (omega arith))
    | inr le ↦
        let same : at + length bytes + k ≡ at + n = omega (arith, length-append (take at file) bytes, length-take at file) in
        ap (λ (m : ℕ). drop m file) same
  ]

  pub after : (n : ℕ) → length bytes ≤ n → drop (at + n) (with_bytes at bytes file) ≡ drop (at + n) file
  after n short =
      let is : at + n ≡ length (take at file ++ bytes) + (at + n - length (take at file ++ bytes)) = omega (arith, length-append (take at file) bytes, length-take at file) in
      ap (λ (m : ℕ). drop m (with_bytes at bytes file)) is
      ∙ drop-append-add (take at file ++ bytes) (drop (at + length bytes) file) (at + n - length (take at file ++ bytes))
      ∙ drop-drop (at + n - length (take at file ++ bytes)) (at + length bytes) file
      ∙ same_end n (at + n - length (take at file ++ bytes)) is

  -- before the bytes, among them, and after them
  pub get_before : at ≤ length file → (i : ℕ) → i < at → slice_get (with_bytes at bytes file) i ≡ slice_get file i
  get_before le i lt =
      get-front (take at file ++ bytes) (drop (at + length bytes) file) i (omega (arith, length-append (take at file) bytes, length-take at file))
      ∙ get-front (take at file) bytes i (omega (arith, length-take at file))
      ∙ get-take at file i lt

  pub get_among : at ≤ length file → (i j : ℕ) → i ≡ at + j → j < length bytes → slice_get (with_bytes at bytes file) i ≡ slice_get bytes j
  get_among le i j is lt =
      get-front (take at file ++ bytes) (drop (at + length bytes) file) i (omega (arith, is, length-append (take at file) bytes, length-take at file))
      ∙ get-behind (take at file) bytes i j (omega (arith, is, length-take at file))

  pub get_after : at ≤ length file → (i j : ℕ) → i ≡ at + length bytes + j → slice_get (with_bytes at bytes file) i ≡ slice_get file i
  get_after le i j is =
      get-behind (take at file ++ bytes) (drop (at + length bytes) file) i j (omega (arith, is, length-append (take at file) bytes, length-take at file))
      ∙ get-drop (at + length bytes) file i j is
