-- The outputs that are kept of those that were taken.
use Rattle.std.proofs.Common.{◌≡◌, ◌≢◌, ℕ, zero, suc, ◌+◌, ◌<◌, ◌≤◌, Bool, ◌||◌, List, [], ◌∷◌, ◌++◌, length, filter, map, flat_map, sum_by, All, get_or, eqb, cond, true, false, true≢false, sym, refl, ap, ◌∙◌, subst, append-nil, length-append, eq-eqb, ne_eqb, eqb-true, arith}
use Rattle.std.specs.List.{list_any}
use Rattle.std.proofs.lemmas.List.Elements.{filter-append, All-append}
use Rattle.std.proofs.lemmas.List.Folds.{list_any_at}
use Rattle.std.proofs.lemmas.List.Sums.{sum_by-cons}
use Rattle.amo_mailbox.specs.declared.output.Output.{Output}
use Rattle.std.proofs.lemmas.List.{get_or-map, length-map}
use Rattle.crossbeam_queue.specs.Fifo.{Held}
use Rattle.amo_mailbox.specs.declared.pass_state.PassState.{PassState}
use Rattle.amo_mailbox.specs.declared.pass_state.PassState.TheVariants.{Gets}
use Rattle.amo_mailbox.specs.Mailbox.{of, AreApart, AreWhole, AreWithin, Takes, Tells}

-- the number is among them
abbrev pub among : List ℕ → ℕ → Bool
among ps p = list_any (λ q. eqb p q) ps

pub any_map : {X : Type 0} (f : X → ℕ) (p : ℕ) (xs : List X) → list_any (λ x. eqb p (f x)) xs ≡ among (map f xs) p
any_map f p [] = refl
any_map f p (x ∷ xs) = ap (λ b. eqb p (f x) || b) (any_map f p xs)

or_case : {X : Type 0} (a b : Bool) (x : X) (l m n : List X) → length l ≤ length m + length n → length (cond (a || b) (x ∷ l) l) ≤ length (cond a (x ∷ m) m) + length (cond b (x ∷ n) n)
or_case true true x l m n h = omega arith
or_case true false x l m n h = omega arith
or_case false true x l m n h = omega arith
or_case false false x l m n h = omega arith

or_length : {X : Type 0} (p q : X → Bool) (xs : List X) → length (filter (λ x. p x || q x) xs) ≤ length (filter p xs) + length (filter q xs)
or_length p q [] = omega arith
or_length p q (x ∷ xs) = or_case (p x) (q x) x (filter (λ x. p x || q x) xs) (filter p xs) (filter q xs) (or_length p q xs)

none_kept : {X : Type 0} (xs : List X) → length (filter (λ (x : X). false) xs) ≡ 0
none_kept [] = refl
none_kept (x ∷ xs) = none_kept xs

empty_list : {X : Type 0} (xs : List X) → length xs ≡ 0 → xs ≡ []
empty_list [] h = refl
empty_list (x ∷ xs) h = absurd (omega arith)

all_cond : {X : Type 0} (P : X → Type 0) (b : Bool) (x : X) (l : List X) → (b ≡ true → P x) → All P l → All P (cond b (x ∷ l) l)
all_cond P true x l h i zero d lt = h refl
all_cond P true x l h i (suc k) d lt = i k d (omega arith)
all_cond P false x l h i k d lt = i k d lt

-- what a filter keeps passes its test
pub all_kept : {X : Type 0} (test : X → Bool) (xs : List X) → All (λ x. test x ≡ true) (filter test xs)
all_kept test [] k d lt = absurd (omega arith)
all_kept {X} test (x ∷ xs) k d lt = all_cond (λ (y : X). test y ≡ true) (test x) x (filter test xs) (λ e. e) (all_kept test xs) k d lt

or_left : (a b : Bool) → a ≡ true → (a || b) ≡ true
or_left true b e = refl
or_left false b e = absurd (true≢false (sym e))

or_right : (a b : Bool) → b ≡ true → (a || b) ≡ true
or_right true b e = refl
or_right false b e = e

module _ {Out : Type 0} where
  abbrev pub workers_of : List (ℕ × List (Output Out)) → List ℕ
  workers_of back = map (λ (e : ℕ × List (Output Out)). e.0) back

  -- there are at most as many as all of them sent
  pub kept_within : (back : List (ℕ × List (Output Out))) (xs : List (Output Out)) → AreWithin xs back → length (filter (λ x. among (workers_of back) x.worker) xs) ≤ sum_by (λ e. length e.1) back
  kept_within [] xs h = omega (arith, none_kept xs)
  kept_within (e ∷ es) xs h =
      let i : length (filter (λ (x : Output Out). among (workers_of es) x.worker) xs) ≤ sum_by (λ (e : ℕ × List (Output Out)). length e.1) es = kept_within es xs (λ k d lt. h (suc k) d (omega arith)) in
      let s : sum_by (λ (e : ℕ × List (Output Out)). length e.1) (e ∷ es) ≡ length e.1 + sum_by (λ (e : ℕ × List (Output Out)). length e.1) es = sum_by-cons (λ (e : ℕ × List (Output Out)). length e.1) e es in
      let o : length (filter (λ (x : Output Out). among (workers_of (e ∷ es)) x.worker) xs) ≤ length (of e.0 xs) + length (filter (λ (x : Output Out). among (workers_of es) x.worker) xs) = or_length (λ (x : Output Out). eqb x.worker e.0) (λ (x : Output Out). among (workers_of es) x.worker) xs in
      let f : length (of e.0 xs) ≤ length e.1 = h 0 e (omega arith) in
      omega arith

  of_kept_at : (test : ℕ → Bool) (p : ℕ) → test p ≡ true → (x : Output Out) (l m : List (Output Out)) → of p l ≡ of p m
      → (a : Bool) → test x.worker ≡ a → (b : Bool) → eqb x.worker p ≡ b → of p (cond a (x ∷ l) l) ≡ cond b (x ∷ of p m) (of p m)
  of_kept_at test p is x l m h true ta b eb = ap (λ c. cond c (x ∷ of p l) (of p l)) eb ∙ ap (λ k. cond b (x ∷ k) k) h
  of_kept_at test p is x l m h false ta true eb = absurd (true≢false (sym is ∙ ap test (sym (eqb-true x.worker p eb)) ∙ ta))
  of_kept_at test p is x l m h false ta false eb = h

  -- a test that keeps the outputs of p keeps them all
  pub of_kept : (test : ℕ → Bool) (p : ℕ) → test p ≡ true → (xs : List (Output Out)) → of p (filter (λ x. test x.worker) xs) ≡ of p xs
  of_kept test p is [] = refl
  of_kept test p is (x ∷ xs) = of_kept_at test p is x (filter (λ (y : Output Out). test y.worker) xs) xs (of_kept test p is xs) (test x.worker) refl (eqb x.worker p) refl

  -- the queue was found empty: each of the workers' outputs was taken
  pub told_whole : (v : PassState Out) (taken : List (Output Out)) (made : ℕ) (back : List (ℕ × List (Output Out))) → v ≡ Gets taken made back → Held 0 (Tells v) → AreWhole taken back × AreApart back
  told_whole v taken made back is h =
      let t : Tells (Gets taken made back) h.0 = subst (λ (u : PassState Out). Tells u h.0) is h.2 in
      (subst (λ (l : List (Output Out)). AreWhole l back) (ap (λ l. taken ++ l) (empty_list h.0 h.1) ∙ append-nil taken) t.0, t.1)

  pub took_within : (v : PassState Out) (x : Output Out) (w : PassState Out) (taken : List (Output Out)) (made : ℕ) (back : List (ℕ × List (Output Out))) → v ≡ Gets taken made back → Takes v x w
      → (w ≡ Gets (taken ++ x ∷ []) made back) × AreWithin (taken ++ x ∷ []) back
  took_within v x w taken made back is h = subst (λ (u : PassState Out). Takes u x w) is h

  pub within_of_whole : (xs : List (Output Out)) (back : List (ℕ × List (Output Out))) → AreWhole xs back → AreWithin xs back
  within_of_whole xs back h k d lt = let e = ap length (h k d lt) in omega arith

  -- a worker of the list is among them
  pub among_at : (back : List (ℕ × List (Output Out))) (k : ℕ) (d : ℕ × List (Output Out)) → k < length back → among (workers_of back) (get_or back k d).0 ≡ true
  among_at back k d lt =
      let p : ℕ = (get_or back k d).0 in
      list_any_at (λ q. eqb p q) (workers_of back) k p (omega (arith, length-map back (λ (e : ℕ × List (Output Out)). e.0))) (eq-eqb p (get_or (workers_of back) k p) (sym (get_or-map (λ (e : ℕ × List (Output Out)). e.0) back k d p lt)))

  pub whole_kept : (test : ℕ → Bool) (xs : List (Output Out)) (back : List (ℕ × List (Output Out))) → ((p : ℕ) → test p ≡ among (workers_of back) p) → AreWhole xs back
      → AreWhole (filter (λ x. test x.worker) xs) back
  whole_kept test xs back same h k d lt = of_kept test (get_or back k d).0 (same (get_or back k d).0 ∙ among_at back k d lt) xs ∙ h k d lt

  pub test_within : (test : ℕ → Bool) (xs : List (Output Out)) (back : List (ℕ × List (Output Out))) → ((p : ℕ) → test p ≡ among (workers_of back) p) → AreWithin xs back
      → length (filter (λ x. test x.worker) xs) ≤ sum_by (λ e. length e.1) back
  test_within test xs back same h =
      let e : length (filter (λ (x : Output Out). test x.worker) xs) ≡ length (filter (λ (x : Output Out). among (workers_of back) x.worker) xs) =
      λ i. length (filter (λ (x : Output Out). same x.worker i) xs) in
      omega (arith, kept_within back xs h)

  kept_more_at : (test : ℕ → Bool) (x : Output Out) (b : Bool) → b ≡ true → (xs : List (Output Out)) → cond b (x ∷ []) [] ≡ x ∷ []
  kept_more_at test x true e xs = refl
  kept_more_at test x false e xs = absurd (true≢false (sym e))

  -- one more is kept
  pub kept_more : (test : ℕ → Bool) (xs : List (Output Out)) (x : Output Out) → test x.worker ≡ true → filter (λ x. test x.worker) (xs ++ x ∷ []) ≡ filter (λ x. test x.worker) xs ++ x ∷ []
  kept_more test xs x is = filter-append (λ (y : Output Out). test y.worker) xs (x ∷ []) ∙ ap (λ l. filter (λ (y : Output Out). test y.worker) xs ++ l) (kept_more_at test x (test x.worker) is xs)

  pub room_for : (test : ℕ → Bool) (xs : List (Output Out)) (x : Output Out) (back : List (ℕ × List (Output Out))) → ((p : ℕ) → test p ≡ among (workers_of back) p) → test x.worker ≡ true
      → AreWithin (xs ++ x ∷ []) back → length (filter (λ x. test x.worker) xs) + 1 ≤ sum_by (λ e. length e.1) back
  room_for test xs x back same is h =
      let w = test_within test (xs ++ x ∷ []) back same h in
      let e = ap length (kept_more test xs x is) in
      omega (arith, length-append (filter (λ (y : Output Out). test y.worker) xs) (x ∷ []))

  -- a list of workers and outputs: each list has outputs of its worker alone
  abbrev pub AreOwn : List (ℕ × List (Output Out)) → Type 0
  AreOwn ps = All (λ e. of e.0 e.1 ≡ e.1) ps

  abbrev pub all_of : List (ℕ × List (Output Out)) → List (Output Out)
  all_of ps = flat_map (λ (e : ℕ × List (Output Out)). e.1) ps

  none_at : (p q : ℕ) → q ≢ p → (x : Output Out) (l : List (Output Out)) → of p l ≡ [] → (b : Bool) → eqb x.worker q ≡ b → of p (cond b (x ∷ l) l) ≡ []
  none_at p q n x l h true e = ap (λ c. cond c (x ∷ of p l) (of p l)) (ne_eqb x.worker p (λ w. n (sym (eqb-true x.worker q e) ∙ w))) ∙ h
  none_at p q n x l h false e = h

  of_of : (p q : ℕ) → q ≢ p → (xs : List (Output Out)) → of p (of q xs) ≡ []
  of_of p q n [] = refl
  of_of p q n (x ∷ xs) = none_at p q n x (of q xs) (of_of p q n xs) (eqb x.worker q) refl

  none_of_all : (p : ℕ) (ps : List (ℕ × List (Output Out))) → AreOwn ps → ((k : ℕ) (d : ℕ × List (Output Out)) → k < length ps → (get_or ps k d).0 ≢ p) → of p (all_of ps) ≡ []
  none_of_all p [] own other = refl
  none_of_all p (e ∷ es) own other =
      let here : of p e.1 ≡ [] = ap (of p) (sym (own 0 e (omega arith))) ∙ of_of p e.0 (other 0 e (omega arith)) e.1 in
      let rest : of p (all_of es) ≡ [] = none_of_all p es (λ k d lt. own (suc k) d (omega arith)) (λ k d lt. other (suc k) d (omega arith)) in
      filter-append (λ (y : Output Out). eqb y.worker p) e.1 (all_of es) ∙ (λ i. here i ++ rest i)

  -- of lists of different workers, one after another, each worker's are its own
  pub own_of_all : (ps : List (ℕ × List (Output Out))) → AreApart ps → AreOwn ps → (k : ℕ) (d : ℕ × List (Output Out)) → k < length ps → of (get_or ps k d).0 (all_of ps) ≡ (get_or ps k d).1
  own_of_all [] apart own k d lt = absurd (omega arith)
  own_of_all (e ∷ es) apart own zero d lt =
      let rest : of e.0 (all_of es) ≡ [] = none_of_all e.0 es (λ k d lt. own (suc k) d (omega arith)) (λ k d lt same. apart 0 (suc k) d (omega arith) (omega arith) (sym same)) in
      filter-append (λ (y : Output Out). eqb y.worker e.0) e.1 (all_of es) ∙ (λ i. own 0 e (omega arith) i ++ rest i) ∙ append-nil e.1
  own_of_all (e ∷ es) apart own (suc k) d lt =
      let p : ℕ = (get_or es k d).0 in
      let here : of p e.1 ≡ [] = ap (of p) (sym (own 0 e (omega arith))) ∙ of_of p e.0 (apart 0 (suc k) d (omega arith) (omega arith)) e.1 in
      filter-append (λ (y : Output Out). eqb y.worker p) e.1 (all_of es)
      ∙ (λ i. here i ++ own_of_all es (λ i j d lt lt'. apart (suc i) (suc j) d (omega arith) (omega arith)) (λ k d lt. own (suc k) d (omega arith)) k d (omega arith) i)

  -- all of them are of the workers of the list
  pub only_of_all : (ps : List (ℕ × List (Output Out))) → AreOwn ps → All (λ x. among (workers_of ps) x.worker ≡ true) (all_of ps)
  only_of_all [] own k d lt = absurd (omega arith)
  only_of_all (e ∷ es) own k d lt =
      let P : Output Out → Type 0 = λ x. among (workers_of (e ∷ es)) x.worker ≡ true in
      let here : All P e.1 = λ i c l. or_left _ _ (subst (λ (l : List (Output Out)). All (λ x. eqb x.worker e.0 ≡ true) l) (own 0 e (omega arith)) (all_kept (λ (x : Output Out). eqb x.worker e.0) e.1) i c l) in
      let rest : All P (all_of es) = λ i c l. or_right _ _ (only_of_all es (λ k d lt. own (suc k) d (omega arith)) i c l) in
      All-append P e.1 (all_of es) here rest k d lt
