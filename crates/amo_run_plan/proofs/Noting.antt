-- Outputs that are noted one by one: of each block the first of the least worker stays.
use Rattle.std.proofs.Common.{◌≡◌, ⊎_elim, ℕ, zero, suc, ◌<◌, ◌≤◌, Bool, true, false, ◌&&◌, List, [], ◌∷◌, ◌++◌, length, map, take, get_or, ◌+◌, min, Option, Some, None, refl, sym, ap, ◌∙◌, subst, arith}
use Rattle.std.specs.Prelude.{◌==◌, cond, filter, slice_get, nat_le, ⊤}
use Rattle.std.specs.Option.{option_or}
use Rattle.std.proofs.lemmas.Bool.{cases_eq, eq-eqb, ne_eqb, eqb-true, and_parts, and_from, leb-true, leb-false}
use Rattle.std.proofs.lemmas.List.{map-append, append-nil, take_more, length-take-le}
use Rattle.std.proofs.lemmas.List.Elements.{filter-append}
use Rattle.std.proofs.lemmas.List.Folds.{find-append}
use Rattle.amo_sets.specs.Lists.{numbered, put}
use Rattle.amo_sets.proofs.Numbers.{numbered-put_same, numbered-put_other}
use Rattle.amo_run_plan.specs.declared.block_done.BlockDone.{BlockDone}
use Rattle.amo_render.specs.Least.{lesser, least_of}
use Rattle.amo_run_plan.specs.Became.{Handed, doer_of, output_of}
use Rattle.amo_run_plan.specs.Noted.{kept, noted_with, IsNoted}
use Rattle.amo_render.proofs.Least.{least_last}

-- a place of a list, once the list grew
get_first : (xs zs : List Handed) (i : ℕ) (y : Handed) → slice_get xs i ≡ Some y → slice_get (xs ++ zs) i ≡ Some y
get_first [] zs i y h = absurd cc
get_first (x ∷ xs) zs zero y h = h
get_first (x ∷ xs) zs (suc i) y h = get_first xs zs i y h

get_last : (xs : List Handed) (x : Handed) → slice_get (xs ++ x ∷ []) (length xs) ≡ Some x
get_last [] x = refl
get_last (z ∷ xs) x = get_last xs x

-- less than the number, if there is one
abbrev IsBelow : ℕ → Option ℕ → Type 0
IsBelow q None = ⊤
IsBelow q (Some p) = q < p

below_both : (q p : ℕ) (o : Option ℕ) → IsBelow q (Some (lesser p o)) → (q < p) × IsBelow q o
below_both q p None h = (h, tt)
below_both q p (Some r) h = let both : (q < p) × (q < r) = (omega arith, omega arith) in both

module _ (t : ℕ → ℕ → Bool) (b : ℕ) where
  abbrev counts : Handed → Bool
  counts x = x.job == b && t x.worker b

  doer_last : (xs : List Handed) (x : Handed) → doer_of t (xs ++ x ∷ []) b ≡ least_of (map (λ (y : Handed). y.worker) (filter counts xs) ++ map (λ (y : Handed). y.worker) (cond (counts x) (x ∷ []) []))
  doer_last xs x = ap (λ (l : List Handed). least_of (map (λ (y : Handed). y.worker) l)) (filter-append counts xs (x ∷ [])) ∙ ap least_of (map-append (λ (y : Handed). y.worker) (filter counts xs) (cond (counts x) (x ∷ []) []))

  doer_more : (xs : List Handed) (x : Handed) → counts x ≡ true → doer_of t (xs ++ x ∷ []) b ≡ Some (lesser x.worker (doer_of t xs b))
  doer_more xs x h = doer_last xs x
      ∙ ap (λ c. least_of (map (λ (y : Handed). y.worker) (filter counts xs) ++ map (λ (y : Handed). y.worker) (cond c (x ∷ []) []))) h
      ∙ least_last (map (λ (y : Handed). y.worker) (filter counts xs)) x.worker

  doer_same : (xs : List Handed) (x : Handed) → counts x ≡ false → doer_of t (xs ++ x ∷ []) b ≡ doer_of t xs b
  doer_same xs x h = doer_last xs x
      ∙ ap (λ c. least_of (map (λ (y : Handed). y.worker) (filter counts xs) ++ map (λ (y : Handed). y.worker) (cond c (x ∷ []) []))) h
      ∙ ap least_of (append-nil (map (λ (y : Handed). y.worker) (filter counts xs)))

  -- a worker below all that count has no output yet
  fresh : (q : ℕ) (xs : List Handed) → t q b ≡ true → IsBelow q (doer_of t xs b) → output_of xs q b ≡ None
  fresh q [] h below = refl
  fresh q (x ∷ xs) h below = split (fresh q xs h) (counts x) refl
    where
      rest : (IsBelow q (doer_of t xs b) → output_of xs q b ≡ None) → IsBelow q (doer_of t xs b) → (x.worker == q && x.job == b) ≡ false → output_of (x ∷ xs) q b ≡ None
      rest again low none = ap (λ c. cond c (Some x) (output_of xs q b)) none ∙ again low

      within : (c : Bool) → counts x ≡ c → IsBelow q (least_of (map (λ (y : Handed). y.worker) (cond c (x ∷ filter counts xs) (filter counts xs))))
      within c is = subst (λ d. IsBelow q (least_of (map (λ (y : Handed). y.worker) (cond d (x ∷ filter counts xs) (filter counts xs))))) is below

      other : (c : Bool) → (x.worker == q && x.job == b) ≡ c → counts x ≡ false → c ≡ false
      other false e is = refl
      other true e is =
          let parts = and_parts _ _ e in
          let counted = and_from _ _ parts.1 (ap (λ p. t p b) (eqb-true x.worker q parts.0) ∙ h) in
          sym counted ∙ is

      split : (IsBelow q (doer_of t xs b) → output_of xs q b ≡ None) → (c : Bool) → counts x ≡ c → output_of (x ∷ xs) q b ≡ None
      split again true is =
          let both = below_both q x.worker (doer_of t xs b) (within true is) in
          rest again both.1 (ap (λ c. c && x.job == b) (ne_eqb x.worker q (λ e. let low = both.0 in absurd (omega arith))))
      split again false is = rest again (within false is) (other (x.worker == q && x.job == b) refl is)

  found : (xs : List Handed) (x : Handed) → counts x ≡ true → IsBelow x.worker (doer_of t xs b) → output_of (xs ++ x ∷ []) x.worker b ≡ Some x
  found xs x h below =
      let parts = and_parts _ _ h in
      find-append (λ (y : Handed). y.worker == x.worker && y.job == b) xs (x ∷ [])
      ∙ ap (λ (o : Option Handed). option_or o (output_of (x ∷ []) x.worker b)) (fresh x.worker xs parts.1 below)
      ∙ ap (λ c. cond c (Some x) None) (and_from _ _ (eq-eqb x.worker x.worker refl) parts.0)

  found_before : (xs : List Handed) (x y : Handed) (p : ℕ) → output_of xs p b ≡ Some y → output_of (xs ++ x ∷ []) p b ≡ Some y
  found_before xs x y p h =
      find-append (λ (z : Handed). z.worker == p && z.job == b) xs (x ∷ [])
      ∙ ap (λ (o : Option Handed). option_or o (output_of (x ∷ []) p b)) h

  abbrev as_filed : List Handed → Handed → BlockDone
  as_filed xs x = record { worker = x.worker; place = length xs }

  taken : (xs : List Handed) (x : Handed) → counts x ≡ true → IsBelow x.worker (doer_of t xs b) → doer_of t (xs ++ x ∷ []) b ≡ Some x.worker → IsNoted t (xs ++ x ∷ []) b (Some (as_filed xs x))
  taken xs x h below doer = (x, get_last xs x, doer, found xs x h below)

  more : (xs : List Handed) (x : Handed) (o : Option BlockDone) → counts x ≡ true → IsNoted t xs b o → IsNoted t (xs ++ x ∷ []) b (Some (kept o (as_filed xs x)))
  more xs x None h noted = taken xs x h (subst (IsBelow x.worker) (sym noted) tt) (doer_more xs x h ∙ ap (λ o. Some (lesser x.worker o)) noted)
  more xs x (Some e) h noted = split (nat_le e.worker x.worker) refl
    where
      split : (c : Bool) → nat_le e.worker x.worker ≡ c → IsNoted t (xs ++ x ∷ []) b (Some (cond c e (as_filed xs x)))
      split true is =
          let low = leb-true e.worker x.worker is in
          let least : min x.worker e.worker ≡ e.worker = omega arith in
          (noted.0, get_first xs (x ∷ []) e.place noted.0 noted.1, doer_more xs x h ∙ ap (λ o. Some (lesser x.worker o)) noted.2 ∙ ap (λ n. Some n) least, found_before xs x noted.0 e.worker noted.3)
      split false is =
          let low = leb-false e.worker x.worker is in
          let least : min x.worker e.worker ≡ x.worker = omega arith in
          taken xs x h (subst (IsBelow x.worker) (sym noted.2) low) (doer_more xs x h ∙ ap (λ o. Some (lesser x.worker o)) noted.2 ∙ ap (λ n. Some n) least)

  other : (xs : List Handed) (x : Handed) (o : Option BlockDone) → counts x ≡ false → IsNoted t xs b o → IsNoted t (xs ++ x ∷ []) b o
  other xs x None h noted = doer_same xs x h ∙ noted
  other xs x (Some e) h noted = (noted.0, get_first xs (x ∷ []) e.place noted.0 noted.1, doer_same xs x h ∙ noted.2, found_before xs x noted.0 e.worker noted.3)

  -- one output more
  pub noted_more : (xs : List Handed) (x : Handed) (o : Option BlockDone) → IsNoted t xs b o → IsNoted t (xs ++ x ∷ []) b (noted_with (counts x) o (as_filed xs x))
  noted_more xs x o noted = split (counts x) refl
    where
      split : (c : Bool) → counts x ≡ c → IsNoted t (xs ++ x ∷ []) b (noted_with c o (as_filed xs x))
      split true is = more xs x o is noted
      split false is = other xs x o is noted

-- an output that counts is noted at its job
pub put_noted : (t : ℕ → Bool) (filed : List (Option BlockDone)) (job b : ℕ) (f : BlockDone) → t job ≡ true → 1 ≤ b → b ≤ length filed
    → numbered None (put filed job (Some (kept (numbered None filed job) f))) b ≡ noted_with (job == b && t b) (numbered None filed b) f
put_noted t filed job b f h low high = ⊎_elim
    (λ (e : job ≡ b). subst (λ j. numbered None (put filed j (Some (kept (numbered None filed j) f))) b ≡ noted_with (j == b && t b) (numbered None filed b) f) (sym e)
    (numbered-put_same None (Some (kept (numbered None filed b) f)) filed b low high ∙ sym (ap (λ c. noted_with c (numbered None filed b) f) (and_from (b == b) _ (eq-eqb b b refl) (ap t (sym e) ∙ h)))))
    (λ n. numbered-put_other None (Some (kept (numbered None filed job) f)) filed job b (λ e. n (sym e)) ∙ sym (ap (λ c. noted_with (c && t b) (numbered None filed b) f) (ne_eqb job b n)))
    (cases_eq job b)

-- one that doesn't count is not
pub not_noted : (t : ℕ → Bool) (filed : List (Option BlockDone)) (job b : ℕ) (f : BlockDone) → t job ≡ false
    → numbered None filed b ≡ noted_with (job == b && t b) (numbered None filed b) f
not_noted t filed job b f h = sym (split (job == b) refl)
  where
    split : (c : Bool) → (job == b) ≡ c → noted_with (c && t b) (numbered None filed b) f ≡ numbered None filed b
    split true is = ap (λ d. noted_with d (numbered None filed b) f) (ap t (sym (eqb-true job b is)) ∙ h)
    split false is = refl

-- the next output
pub noted_next : (t : ℕ → ℕ → Bool) (outputs : List Handed) (i b : ℕ) (x : Handed) (old new : Option BlockDone) → i < length outputs → x ≡ get_or outputs i x
    → IsNoted t (take i outputs) b old → new ≡ noted_with (x.job == b && t x.worker b) old (record { worker = x.worker; place = i }) → IsNoted t (take (i + 1) outputs) b new
noted_next t outputs i b x old new inside is noted said =
    let place : length (take i outputs) ≡ i = length-take-le i outputs (omega arith) in
    let grown : take (i + 1) outputs ≡ take i outputs ++ x ∷ [] = take_more outputs i x inside ∙ ap (λ (y : Handed). take i outputs ++ y ∷ []) (sym is) in
    let step = noted_more t b (take i outputs) x old noted in
    let placed = subst (λ k. IsNoted t (take i outputs ++ x ∷ []) b (noted_with (x.job == b && t x.worker b) old (record { worker = x.worker; place = k }))) place step in
    subst (λ (o : Option BlockDone). IsNoted t (take (i + 1) outputs) b o) (sym said) (subst (λ (l : List Handed). IsNoted t l b (noted_with (x.job == b && t x.worker b) old (record { worker = x.worker; place = i }))) (sym grown) placed)
