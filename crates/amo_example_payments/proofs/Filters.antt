-- The elements that a filter takes.
use Rattle.std.proofs.Common.{◌≡◌, ℕ, suc, ◌+◌, Bool, true, false, cond, not, filter, List, [], ◌∷◌, ◌++◌, refl, ap, ◌∙◌, arith}
use Rattle.std.proofs.lemmas.List.Elements.{filter-append}
use Rattle.std.proofs.lemmas.List.{append-nil}
use Rattle.std.specs.List.{enumerate_from}
use Rattle.amo_kk.specs.declared.model.Process.{Process}
use Rattle.amo_words.specs.Logs.{is_claimed}
use Rattle.amo_words.specs.Settling.{free_of}

pub passed : {X : Type 0} (p : X → Bool) (xs : List X) (x : X) → p x ≡ true → filter p (xs ++ x ∷ []) ≡ filter p xs ++ x ∷ []
passed p xs x h = filter-append p xs (x ∷ []) ∙ ap (λ b. filter p xs ++ cond b (x ∷ []) []) h

pub skipped : {X : Type 0} (p : X → Bool) (xs : List X) (x : X) → p x ≡ false → filter p (xs ++ x ∷ []) ≡ filter p xs
skipped p xs x h = filter-append p xs (x ∷ []) ∙ ap (λ b. filter p xs ++ cond b (x ∷ []) []) h ∙ append-nil (filter p xs)

-- what is free is what is not claimed
pub free_filtered : {P : Type 0} (all : List Process) (p : ℕ → Bool) → ((j : ℕ) → is_claimed all j ≡ p j) → (i : ℕ) (xs : List P)
    → free_of all i xs ≡ filter (λ (t : ℕ × P). not (p t.0)) (enumerate_from i xs)
free_filtered all p h i [] = refl
free_filtered {P} all p h i (x ∷ xs) =
    ap (λ b. cond b (free_of all (suc i) xs) ((i, x) ∷ free_of all (suc i) xs)) (h i) ∙ go (p i) (free_of all (suc i) xs) rest (free_filtered all p h (suc i) xs ∙ ap (λ n. filter test (enumerate_from n xs)) next)
  where
    test : ℕ × P → Bool
    test t = not (p t.0)

    next : suc i ≡ i + 1
    next = omega arith

    rest : List (ℕ × P)
    rest = filter test (enumerate_from (i + 1) xs)

    go : (b : Bool) (t r : List (ℕ × P)) → t ≡ r → cond b t ((i, x) ∷ t) ≡ cond (not b) ((i, x) ∷ r) r
    go true t r e = e
    go false t r e = ap (λ l. (i, x) ∷ l) e
