-- Lists of numbers as sets.
use Rattle.std.specs.Prelude.{◌≡◌, ℕ, zero, suc, Bool, false, ◌||◌, List, [], ◌∷◌, ◌++◌, length, nat_lt, ◌==◌, if◌then◌else◌, ⊤}
use Rattle.amo_sets.specs.Lists.{numbered}

-- whether j is in the list
abbrev pub has : List ℕ → ℕ → Bool
has [] j = false
has (x ∷ xs) j = (x == j) || has xs j

-- no number stands in the list twice
abbrev pub AreDistinct : List ℕ → Type 0
AreDistinct [] = ⊤
AreDistinct (x ∷ xs) = (has xs x ≡ false) × AreDistinct xs

-- the set with j as well; it stays in rising order
abbrev pub with_number : ℕ → List ℕ → List ℕ
with_number j [] = j ∷ []
with_number j (x ∷ xs) =
    if j == x
    then x ∷ xs
    else (if nat_lt j x then j ∷ x ∷ xs else x ∷ with_number j xs)

-- the list without j
abbrev pub without_number : ℕ → List ℕ → List ℕ
without_number j [] = []
without_number j (x ∷ xs) = if j == x then without_number j xs else x ∷ without_number j xs

-- the numbers of 1..n that pass the test, in rising order
abbrev pub members : ℕ → (ℕ → Bool) → List ℕ
members zero test = []
members (suc n) test = if test (suc n) then members n test ++ suc n ∷ [] else members n test

-- the set of the numbers whose bit is true, the bit of j being the j-th
abbrev pub set_of_bits : List Bool → List ℕ
set_of_bits bits = members (length bits) (numbered false bits)
