-- Tests one after the other, of which the first that fails gives the fault.
use Rattle.std.specs.Prelude.{◌≡◌, ◌≢◌, ℕ, ◌+◌, min, List, [], ◌∷◌, Option, Some, None, Result, Ok, Err, MatchResult, Bool, true, false, ◌&&◌, nat_le}
use Rattle.amo_plan.specs.declared.fault.PlanFault.{PlanFault}
use Rattle.amo_plan.specs.declared.fault.PlanFault.TheVariants.{NoMemory}

-- a test that passed, and the next
infixl 10 ◌>>=◌
-- the next test on the value of a test that passed, or its fault
abbrev pub ◌>>=◌ : {A B : Type 0} → Result A PlanFault → (A → Result B PlanFault) → Result B PlanFault
(Ok x) >>= f = f x
(Err e) >>= f = Err e

-- the value, or the fault if there is no value
abbrev pub or_fault : {A : Type 0} → Option A → PlanFault → Result A PlanFault
or_fault (Some x) e = Ok x
or_fault None e = Err e

-- goes on if the test holds
abbrev pub unless : {A : Type 0} → Bool → PlanFault → Result A PlanFault → Result A PlanFault
unless true e more = more
unless false e more = Err e

-- An ordinal in a fault has 32 bits; no text that is short enough for a plan has as many jobs or
-- words.
abbrev pub capped : ℕ → ℕ
capped i = min i 4294967295

-- each of the list, numbered from i
abbrev pub each : {A B : Type 0} → (ℕ → A → Result B PlanFault) → ℕ → List A → Result (List B) PlanFault
each f i [] = Ok []
each f i (x ∷ xs) = f (capped i) x >>= λ y. each f (i + 1) xs >>= λ ys. Ok (y ∷ ys)

-- the number is one of low..=high
abbrev pub is_between : ℕ → ℕ → ℕ → Bool
is_between low high n = nat_le low n && nat_le n high

-- The result of a call is that of the definition, apart from out of memory. A value, as `view`
-- shows it, comes only if the definition gives that value. A fault comes only if the definition
-- gives that fault.
abbrev pub Gives : {X Y : Type 0} → (X → Y) → Result X PlanFault → Result Y PlanFault → Type 0
Gives view result read = MatchResult result (λ x. read ≡ Ok (view x)) (λ e. e ≢ NoMemory → read ≡ Err e)
