-- Lists as sets, and what is noted by the one or the other.
use Rattle.std.proofs.Common.{◌≡◌, ℕ, zero, suc, ◌≤◌, Bool, false, ◌&&◌, List, [], ◌∷◌, ◌++◌, length, take, drop, map, get_or, Vec, Global, Option, Some, None, refl, sym, ap, ◌∙◌, arith}
use Rattle.std.specs.Prelude.{◌==◌}
use Rattle.std.specs.List.{AllZip}
use Rattle.std.proofs.lemmas.List.{take-append-le, take_all}
use Rattle.std.proofs.lemmas.List.Elements.{filter_agree}
use Rattle.amo_sets.specs.Lists.{numbered}
use Rattle.amo_sets.specs.Sets.{has}
use Rattle.amo_run_plan.specs.declared.block_done.BlockDone.{BlockDone}
use Rattle.amo_render.specs.Least.{least_of}
use Rattle.amo_run_plan.specs.Became.{Handed, listed, lists_block, doer_of}
use Rattle.amo_run_plan.specs.Noted.{IsSetOf, is_in, IsNoted}

abbrev AreSets : ℕ → List (Vec ℕ Global) → List (List Bool) → Type 0
AreSets n lists sets = AllZip (λ (v : Vec ℕ Global). IsSetOf n v.items) lists sets

-- nothing is in no set
empty : (b : ℕ) → numbered false [] b ≡ false
empty zero = refl
empty (suc k) = refl

set_at : (n b : ℕ) → 1 ≤ b → b ≤ n → (lists : List (Vec ℕ Global)) (sets : List (List Bool)) → AreSets n lists sets → (k : ℕ)
    → numbered false (get_or sets k []) b ≡ has (get_or (listed lists) k []) b
set_at n b low high [] [] all k = empty b
set_at n b low high [] (s ∷ sets) all k = absurd all
set_at n b low high (v ∷ lists) [] all k = absurd all
set_at n b low high (v ∷ lists) (s ∷ sets) all zero = all.0.1 b low high
set_at n b low high (v ∷ lists) (s ∷ sets) all (suc k) = set_at n b low high lists sets all.1 k

-- what is in the sets is in the lists
pub sets_agree : (n b : ℕ) → 1 ≤ b → b ≤ n → (lists : List (Vec ℕ Global)) (sets : List (List Bool)) → AreSets n lists sets → (p : ℕ) → is_in sets p b ≡ lists_block (listed lists) p b
sets_agree n b low high lists sets all zero = empty b
sets_agree n b low high lists sets all (suc k) = set_at n b low high lists sets all k

-- what is noted by one test is noted by another that agrees
pub noted_agree : (t u : ℕ → ℕ → Bool) (outputs : List Handed) (b : ℕ) (o : Option BlockDone) → ((p : ℕ) → t p b ≡ u p b) → IsNoted t outputs b o → IsNoted u outputs b o
noted_agree t u outputs b o same noted = by o noted
  where
    doers : doer_of u outputs b ≡ doer_of t outputs b
    doers = ap (λ (l : List Handed). least_of (map (λ (x : Handed). x.worker) l))
        (filter_agree (λ (x : Handed). x.job == b && u x.worker b) (λ (x : Handed). x.job == b && t x.worker b) (λ x. ap (λ c. x.job == b && c) (sym (same x.worker))) outputs)

    by : (o : Option BlockDone) → IsNoted t outputs b o → IsNoted u outputs b o
    by None h = doers ∙ h
    by (Some f) h = (h.0, h.1, doers ∙ h.2, h.3)

-- a list that was written whole is the list
pub written : {X : Type 0} (n : ℕ) (xs old : List X) → length xs ≡ n → take n (xs ++ drop (length xs) old) ≡ xs
written n xs old size = take-append-le n xs (drop (length xs) old) (omega arith) ∙ take_all n xs (omega arith)
