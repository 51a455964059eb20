-- A text has one first line feed.
use Rattle.std.proofs.Common.{◌≡◌, ⊎_elim, ℕ, List, [], ◌∷◌, ◌++◌, refl, sym, ◌∙◌, subst}
use Rattle.amo_journal.specs.Texts.{IsOneLine}
use Rattle.amo_journal.specs.Appends.{IsCutOffAppend, IsNextByte}

-- a text with a line feed isn't one line
pub no_feed : (xs ys : List ℕ) → IsOneLine (xs ++ 10 ∷ ys) → ⊥
no_feed [] ys one = one.0 refl
no_feed (x ∷ xs) ys one = no_feed xs ys one.1

-- the first line feed stands at one place
pub same_split : (xs ys us vs : List ℕ) → IsOneLine xs → IsOneLine ys → xs ++ 10 ∷ us ≡ ys ++ 10 ∷ vs → (xs ≡ ys) × (us ≡ vs)
same_split [] [] us vs a b is = (refl, cc is)
same_split [] (y ∷ ys) us vs a b is = let head : y ≡ 10 = cc is in absurd (b.0 head)
same_split (x ∷ xs) [] us vs a b is = let head : x ≡ 10 = cc is in absurd (a.0 head)
same_split (x ∷ xs) (y ∷ ys) us vs a b is =
    let head : x ≡ y = cc is in
    let tail : xs ++ 10 ∷ us ≡ ys ++ 10 ∷ vs = cc is in
    let rest = same_split xs ys us vs a.1 b.1 tail in
    (let front : xs ≡ ys = rest.0 in cc (head, front), rest.1)

-- the bytes after the first line feed of an append that was cut off
pub next_of : (bytes line next : List ℕ) → IsCutOffAppend bytes → bytes ≡ line ++ 10 ∷ next → IsOneLine line → IsNextByte next
next_of bytes line next cut is one = ⊎_elim
    (λ (all : IsOneLine bytes). absurd (no_feed line next (subst IsOneLine is all)))
    (λ there.
    let same = same_split there.0 line there.1 next there.3 one (sym there.2 ∙ is) in
    subst IsNextByte same.1 there.4)
    cut.1
