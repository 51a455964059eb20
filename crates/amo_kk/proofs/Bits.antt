-- Lists as code indexes them, and bits as the sets that they stand for.
use Rattle.std.proofs.Common.{◌≡◌, ℕ, zero, suc, ◌+◌, ◌-◌, ◌≤◌, Bool, false, List, [], ◌∷◌, ◌++◌, replicate, get_or, refl, sym, ap, ◌∙◌, arith}
use Rattle.std.proofs.lemmas.List.{replicate_more}
use Rattle.amo_sets.specs.Lists.{numbered, table}
use Rattle.amo_sets.specs.Sets.{has, set_of_bits}
use Rattle.amo_sets.proofs.Sets.{has-set_of_bits}

-- the item before a number, as code indexes a list
pub numbered_before : {X : Type 0} (d : X) (xs : List X) (j : ℕ) → 1 ≤ j → numbered d xs j ≡ get_or xs (j - 1) d
numbered_before d xs zero l = absurd (omega arith)
numbered_before d xs (suc k) l = let e : k ≡ suc k - 1 = omega arith in ap (λ i. get_or xs i d) e

-- a table of one value
pub replicate_table : {X : Type 0} (x : X) (n : ℕ) → replicate n x ≡ table n (λ _. x)
replicate_table x zero = refl
replicate_table x (suc n) = let e : suc n ≡ n + 1 = omega arith in ap (λ k. replicate k x) e ∙ sym (replicate_more n x) ∙ ap (λ l. l ++ x ∷ []) (replicate_table x n)

-- the law of the set that bits stand for, with a name that the search can be given
pub bits_have : (bits : List Bool) (j : ℕ) → has (set_of_bits bits) j ≡ numbered false bits j
bits_have bits j = has-set_of_bits bits j
