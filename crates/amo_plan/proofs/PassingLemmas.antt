-- A loop that reads each of a list.
use Rattle.std.proofs.Common.{◌≡◌, ℕ, ◌+◌, ◌<◌, ◌≤◌, List, [], ◌∷◌, ◌++◌, map, length, get_or, drop, Bool, true, false, cond, Option, Some, None, Result, Ok, Err, refl, sym, ap, ◌∙◌, append_assoc}
use Rattle.std.proofs.lemmas.List.{append-nil, drop_all, drop_more}
use Rattle.amo_plan.specs.declared.fault.PlanFault.{PlanFault}
use Rattle.amo_plan.specs.Passing.{◌>>=◌, or_fault, unless, each, capped}

-- what was read, and what is still to be read
abbrev pub with_front : {B : Type 0} → List B → Result (List B) PlanFault → Result (List B) PlanFault
with_front front read = read >>= λ ys. Ok (front ++ ys)

front_one : {B : Type 0} (front : List B) (y : B) (read : Result (List B) PlanFault) → with_front front (read >>= λ ys. Ok (y ∷ ys)) ≡ with_front (front ++ y ∷ []) read
front_one front y (Err e) = refl
front_one {B} front y (Ok ys) = ap (λ (zs : List B). Ok zs) (sym (append_assoc front (y ∷ []) ys))

front_nil : {B : Type 0} (read : Result (List B) PlanFault) → with_front [] read ≡ read
front_nil (Err e) = refl
front_nil (Ok ys) = refl

-- the value of a step that did not fail
pub bind_ok : {A B : Type 0} (r : Result A PlanFault) (f : A → Result B PlanFault) (y : B) → (r >>= f) ≡ Ok y → (x : A) × (r ≡ Ok x) × (f x ≡ Ok y)
bind_ok (Ok x) f y e = (x, refl, e)
bind_ok (Err d) f y e = absurd cc

abbrev done : {A : Type 0} → A → Result A PlanFault
done x = Ok x

pub ok_is : {A : Type 0} (x y : A) → done x ≡ done y → x ≡ y
ok_is x y e = cc

-- a value that was there
pub or_ok : {A : Type 0} (o : Option A) (f : PlanFault) (y : A) → or_fault o f ≡ Ok y → o ≡ Some y
or_ok None f y e = absurd cc
or_ok (Some x) f y e = ap Some (ok_is x y e)

-- a test that did not fail
pub unless_ok : {A : Type 0} (b : Bool) (f : PlanFault) (r : Result A PlanFault) (x : A) → unless b f r ≡ Ok x → (b ≡ true) × (r ≡ Ok x)
unless_ok true f r x e = (refl, e)
unless_ok false f r x e = absurd cc

-- the result if a test holds
pub taken : {A : Type 0} (b : Bool) (o : Option A) (x : A) → cond b o None ≡ Some x → (b ≡ true) × (o ≡ Some x)
taken true o x e = (refl, e)
taken false o x e = absurd cc

module _ {A B C : Type 0} (seen : C → A) (f : ℕ → A → Result B PlanFault) where
  -- the loop L has read front, and the i-th of xs is the next
  abbrev pub Reads : List C → ℕ → List B → Type 0
  Reads xs i front = with_front front (each f (i + 1) (map seen (drop i xs))) ≡ each f 1 (map seen xs)

  pub each_none : (xs : List C) → Reads xs 0 []
  each_none xs = front_nil (each f 1 (map seen xs))

  pub each_more : (xs : List C) (i : ℕ) (front : List B) (x : C) (y : B) → i < length xs → x ≡ get_or xs i x → f (capped (i + 1)) (seen x) ≡ Ok y → Reads xs i front → Reads xs (i + 1) (front ++ y ∷ [])
  each_more xs i front x y lt is here so_far =
      let h : f (capped (i + 1)) (seen (get_or xs i x)) ≡ Ok y = rw (← is) here in
      sym (front_one front y (each f (i + 1 + 1) (map seen (drop (i + 1) xs)))) ∙ (rw (drop_more xs i x lt, h) at so_far)

  pub each_stop : (xs : List C) (i : ℕ) (front : List B) (x : C) (e : PlanFault) → i < length xs → x ≡ get_or xs i x → f (capped (i + 1)) (seen x) ≡ Err e → Reads xs i front → each f 1 (map seen xs) ≡ Err e
  each_stop xs i front x e lt is here so_far =
      let h : f (capped (i + 1)) (seen (get_or xs i x)) ≡ Err e = rw (← is) here in
      sym (rw (drop_more xs i x lt, h) at so_far)

  pub each_all : (xs : List C) (i : ℕ) (front : List B) → length xs ≤ i → Reads xs i front → each f 1 (map seen xs) ≡ Ok front
  each_all xs i front le so_far = sym (rw (drop_all i xs le, append-nil front) at so_far)
