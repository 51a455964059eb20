-- The facts that own registers show alone.
use Rattle.std.proofs.Common.{◌≡◌, ⊎_elim, ℕ, ◌≤◌, Bool, true, false, not, ◌&&◌, ◌||◌, List, [], ◌∷◌, ◌++◌, length, refl, sym, ap, ◌∙◌, subst, arith}
use Rattle.std.specs.Prelude.{nat_le, ◌==◌}
use Rattle.std.proofs.lemmas.Bool.{true≢false, and_parts, or_cases, eqb-true, leb-true}
use Rattle.amo_sets.specs.Sets.{has, AreDistinct, with_number}
use Rattle.amo_sets.proofs.Numbers.{has-with_number, has_with_none, has_with_same, length_distinct, count_le_all}
use Rattle.amo_params.specs.Givens.{IsJob, is_within}
use Rattle.amo_kk.specs.Again.{learned, set_of, are_new}
use Rattle.amo_params.specs.declared.givens.Givens.{Givens}

pub has-learned : (known xs : List ℕ) (j : ℕ) → has (learned known xs) j ≡ (has known j || has xs j)
has-learned known [] j = step (has known j)
  where
    step : (a : Bool) → a ≡ (a || false)
    step a = grind arith
has-learned known (x ∷ xs) j = has-learned (with_number x known) xs j ∙ ap (λ b. b || has xs j) (has-with_number x known j) ∙ step (x == j) (has known j) (has xs j)
  where
    step : (a b c : Bool) → ((a || b) || c) ≡ (b || (a || c))
    step a b c = grind arith

pub has-set_of : (xs : List ℕ) (j : ℕ) → has (set_of xs) j ≡ has xs j
has-set_of xs j = has-learned [] xs j

pub learned-push : (known xs : List ℕ) (j : ℕ) → learned known (xs ++ j ∷ []) ≡ with_number j (learned known xs)
learned-push known [] j = refl
learned-push known (x ∷ xs) j = learned-push (with_number x known) xs j

pub within_job : (g : Givens) (j : ℕ) → is_within g.jobs j ≡ true → IsJob g j
within_job g j h = let a = and_parts (nat_le 1 j) (nat_le j g.jobs) h in record { low = leb-true 1 j a.0; high = leb-true j g.jobs a.1 }

-- what passes the test is a list of jobs, each another one, and none of them known
pub record AreNew (g : Givens) (known xs : List ℕ) : Type 0 where
  pub distinct : AreDistinct xs
  pub jobs : (j : ℕ) → has xs j ≡ true → IsJob g j
  pub unknown : (j : ℕ) → has xs j ≡ true → has known j ≡ false

pub new_are : (g : Givens) (known xs : List ℕ) → are_new g known xs ≡ true → AreNew g known xs
new_are g known [] h = record { distinct = tt; jobs = λ j t. absurd (true≢false (sym t)); unknown = λ j t. absurd (true≢false (sym t)) }
new_are g known (x ∷ xs) h = one_more (new_are g (with_number x known) xs parts.1)
  where
    parts : ((is_within g.jobs x && not (has known x)) ≡ true) × (are_new g (with_number x known) xs ≡ true)
    parts = and_parts (is_within g.jobs x && not (has known x)) (are_new g (with_number x known) xs) h

    both : (is_within g.jobs x ≡ true) × (not (has known x) ≡ true)
    both = and_parts (is_within g.jobs x) (not (has known x)) parts.0

    isnt : (b : Bool) → not b ≡ true → b ≡ false
    isnt b t = grind arith

    cases : (j : ℕ) → ((x == j) || has xs j) ≡ true → (X : Type 0) → (x ≡ j → X) → (has xs j ≡ true → X) → X
    cases j t X f k = ⊎_elim (λ (e : (x == j) ≡ true). f (eqb-true x j e)) k (or_cases (x == j) (has xs j) t)

    one_more : AreNew g (with_number x known) xs → AreNew g known (x ∷ xs)
    one_more rest =
        record {
          distinct = (none (has xs x) refl, rest.distinct);
          jobs = λ j t. cases j t (IsJob g j) (λ e. subst (λ y. IsJob g y) e (within_job g x both.0)) (λ r. rest.jobs j r);
          unknown = λ j t. cases j t (has known j ≡ false) (λ e. subst (λ y. has known y ≡ false) e (isnt (has known x) both.1)) (λ r. (has_with_none x known j (rest.unknown j r)).1);
        }
      where
        none : (b : Bool) → has xs x ≡ b → has xs x ≡ false
        none true t = absurd (true≢false (sym (has_with_same x known) ∙ rest.unknown x t))
        none false t = t

-- so they are few
pub new_few : (g : Givens) (xs : List ℕ) → are_new g [] xs ≡ true → length xs ≤ g.jobs
new_few g xs h =
    let new = new_are g [] xs h in
    let few = length_distinct xs g.jobs new.distinct (λ j t. ((new.jobs j t).low, (new.jobs j t).high)) in
    let most = count_le_all (has xs) g.jobs in
    omega arith

-- one more of them
pub new_next : (g : Givens) (known xs : List ℕ) (x : ℕ) → (is_within g.jobs x && not (has known x)) ≡ true → are_new g (with_number x known) xs ≡ are_new g known (x ∷ xs)
new_next g known xs x h = ap (λ b. b && are_new g (with_number x known) xs) (sym h)
