-- One number more: what is made of each of a row of numbers, and the least of them.
use Rattle.std.proofs.Common.{◌≡◌, ℕ, ◌+◌, List, [], ◌∷◌, ◌++◌, map, Option, Some, None, refl, ap, ◌∙◌, add-one, arith}
use Rattle.std.specs.List.{flat_map}
use Rattle.std.proofs.lemmas.Grind.{flat_map-append}
use Rattle.std.proofs.lemmas.List.{map-append, append-nil}
use Rattle.amo_render.specs.Least.{numbers_from, lesser, least_of}

-- one number more
pub numbers_more : (first n : ℕ) → numbers_from first (n + 1) ≡ numbers_from first n ++ (first + n) ∷ []
numbers_more first n = rw add-one refl

-- the lesser of three, in either order
lesser_swap : (x y : ℕ) (o : Option ℕ) → lesser x (Some (lesser y o)) ≡ lesser y (Some (lesser x o))
lesser_swap x y None = omega arith
lesser_swap x y (Some z) = omega arith

-- a last number
pub least_last : (xs : List ℕ) (y : ℕ) → least_of (xs ++ y ∷ []) ≡ Some (lesser y (least_of xs))
least_last [] y = refl
least_last (x ∷ xs) y = ap (λ o. Some (lesser x o)) (least_last xs y) ∙ ap (λ n. Some n) (lesser_swap x y (least_of xs))

-- the least with one number more
pub least_more : (f : ℕ → ℕ) (first n : ℕ) → least_of (map f (numbers_from first (n + 1))) ≡ Some (lesser (f (first + n)) (least_of (map f (numbers_from first n))))
least_more f first n =
    ap (λ xs. least_of (map f xs)) (numbers_more first n)
    ∙ ap least_of (map-append f (numbers_from first n) ((first + n) ∷ []))
    ∙ least_last (map f (numbers_from first n)) (f (first + n))

-- the pieces with one number more
pub pieces_more : (f : ℕ → List ℕ) (first n : ℕ) → flat_map f (numbers_from first (n + 1)) ≡ flat_map f (numbers_from first n) ++ f (first + n)
pieces_more f first n =
    ap (flat_map f) (numbers_more first n)
    ∙ flat_map-append f (numbers_from first n) ((first + n) ∷ [])
    ∙ ap (λ ys. flat_map f (numbers_from first n) ++ ys) (append-nil (f (first + n)))
