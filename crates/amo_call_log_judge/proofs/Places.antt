-- Places of lists, and what is one of them.
use Rattle.std.proofs.Common.{◌≡◌, ◌⊎◌, inl, inr, ⊎_elim, ℕ, zero, suc, ◌<◌, Bool, true, false, ◌||◌, List, [], ◌∷◌, length, map, set, Some, refl, sym, ap, arith}
use Rattle.std.specs.Prelude.{not, ◌==◌, if◌then◌else◌}
use Rattle.std.specs.List.{slice_get, list_any}
use Rattle.std.proofs.lemmas.Bool.{eq-eqb, ne_eqb}
use Rattle.std.proofs.lemmas.Bool.Decides.{nat_tests}
use Rattle.amo_safety_by_journals.specs.Model.{IsOneOf, with_at}

pub differ : true ≡ false → ⊥
differ e = cc

pub is_equal : (a b : ℕ) → (a == b) ≡ true → a ≡ b
is_equal a b h = grind (arith, nat_tests)

pub equal_is : (a b : ℕ) → a ≡ b → (a == b) ≡ true
equal_is a b h = eq-eqb a b h

pub not_true : (b : Bool) → not b ≡ true → b ≡ false
not_true true h = absurd (differ (sym h))
not_true false h = refl

pub not_false : (b : Bool) → not b ≡ false → b ≡ true
not_false true h = refl
not_false false h = absurd (differ h)

pub or_parts : (a b : Bool) → (a || b) ≡ true → (a ≡ true) ⊎ (b ≡ true)
or_parts true b h = inl refl
or_parts false b h = inr h

pub or_right : (a b : Bool) → b ≡ true → (a || b) ≡ true
or_right true b h = refl
or_right false b h = h

pub or_none : (a b : Bool) → (a || b) ≡ false → (a ≡ false) × (b ≡ false)
or_none true b h = absurd (differ h)
or_none false b h = (refl, h)

-- ---- a function that has another value at one place

pub with_at_same : {A : Type 0} (f : ℕ → A) (p : ℕ) (x : A) → with_at f p x p ≡ x
with_at_same f p x = ap (λ (b : Bool). if b then x else f p) (eq-eqb p p refl)

pub with_at_other : {A : Type 0} (f : ℕ → A) (p : ℕ) (x : A) (q : ℕ) → (q ≡ p → ⊥) → with_at f p x q ≡ f q
with_at_other f p x q n = ap (λ (b : Bool). if b then x else f q) (ne_eqb q p n)

-- ---- a list that has another item at one place

pub get_set_same : {A : Type 0} (xs : List A) (i : ℕ) (y : A) → i < length xs → slice_get (set xs i y) i ≡ Some y
get_set_same [] i y lt = absurd (omega arith)
get_set_same (x ∷ xs) zero y lt = refl
get_set_same (x ∷ xs) (suc i) y lt = get_set_same xs i y (omega (arith, lt))

pub get_set_other : {A : Type 0} (xs : List A) (i : ℕ) (y : A) (j : ℕ) → (j ≡ i → ⊥) → slice_get (set xs i y) j ≡ slice_get xs j
get_set_other [] i y j n = refl
get_set_other (x ∷ xs) zero y zero n = absurd (n refl)
get_set_other (x ∷ xs) zero y (suc j) n = refl
get_set_other (x ∷ xs) (suc i) y zero n = refl
get_set_other (x ∷ xs) (suc i) y (suc j) n = get_set_other xs i y j (λ e. n (ap suc e))

-- ---- what is found in a list

pub any_one : {A B : Type 0} (view : A → B) (test : A → Bool) (h : B) → ((a : A) → test a ≡ true → view a ≡ h) → (xs : List A) → list_any test xs ≡ true → IsOneOf (map view xs) h
any_one view test h same [] is = absurd (differ (sym is))
any_one view test h same (x ∷ xs) is = ⊎_elim (λ t. inl (same x t)) (λ t. inr (any_one view test h same xs t)) (or_parts (test x) (list_any test xs) is)

pub one_any : {A B : Type 0} (view : A → B) (test : A → Bool) (h : B) → ((a : A) → view a ≡ h → test a ≡ true) → (xs : List A) → IsOneOf (map view xs) h → list_any test xs ≡ true
one_any view test h same [] one = absurd one
one_any view test h same (x ∷ xs) (inl is) = ap (λ (b : Bool). b || list_any test xs) (same x is)
one_any view test h same (x ∷ xs) (inr one) = or_right (test x) (list_any test xs) (one_any view test h same xs one)

pub seen_one : (q : ℕ) (seen : List ℕ) → list_any (λ y. y == q) seen ≡ true → IsOneOf seen q
seen_one q [] is = absurd (differ (sym is))
seen_one q (y ∷ seen) is = ⊎_elim (λ t. inl (is_equal y q t)) (λ t. inr (seen_one q seen t)) (or_parts (y == q) (list_any (λ y. y == q) seen) is)

pub one_seen : (q : ℕ) (seen : List ℕ) → IsOneOf seen q → list_any (λ y. y == q) seen ≡ true
one_seen q [] one = absurd one
one_seen q (y ∷ seen) (inl is) = ap (λ (b : Bool). b || list_any (λ y. y == q) seen) (equal_is y q is)
one_seen q (y ∷ seen) (inr one) = or_right (y == q) (list_any (λ y. y == q) seen) (one_seen q seen one)
