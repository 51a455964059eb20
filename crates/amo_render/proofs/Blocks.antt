-- The jobs of a block, as a part of all jobs.
use Rattle.std.proofs.Common.{◌≡◌, ℕ, zero, suc, Bool, true, List, [], ◌∷◌, take, drop, refl}
use Rattle.std.proofs.lemmas.Bool.{and_parts, and_from}
use Rattle.std.specs.List.{list_all}
use Rattle.amo_plan.specs.declared.task.Task.{Task}
use Rattle.amo_plan.specs.Keeps.{all_fit}

-- what holds of all holds of a beginning, and of an end
list_all-take : {X : Type 0} (p : X → Bool) (n : ℕ) (xs : List X) → list_all p xs ≡ true → list_all p (take n xs) ≡ true
list_all-take p zero xs h = refl
list_all-take p (suc n) [] h = refl
list_all-take p (suc n) (x ∷ xs) h = let parts = and_parts _ _ h in and_from _ _ parts.0 (list_all-take p n xs parts.1)

list_all-drop : {X : Type 0} (p : X → Bool) (n : ℕ) (xs : List X) → list_all p xs ≡ true → list_all p (drop n xs) ≡ true
list_all-drop p zero xs h = h
list_all-drop p (suc n) [] h = refl
list_all-drop p (suc n) (x ∷ xs) h = list_all-drop p n xs (and_parts (p x) _ h).1

pub all_fit_part : (tasks : List Task) (before count : ℕ) → all_fit tasks ≡ true → all_fit (take count (drop before tasks)) ≡ true
all_fit_part tasks before count h = list_all-take _ count (drop before tasks) (list_all-drop _ before tasks h)
