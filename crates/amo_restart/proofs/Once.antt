-- A job may be performed in one stretch alone: by one worker, between its claim and its filing or
-- the first return.
use Rattle.std.proofs.Common.{◌≡◌, ◌≢◌, ◌⊎◌, inl, inr, ⊎_elim, ℕ, ◌≤◌, Bool, true, false, ◌&&◌, ◌||◌, List, [], ◌∷◌, ◌++◌, refl, sym, ap, ◌∙◌, subst, arith}
use Rattle.std.specs.Prelude.{if◌then◌else◌, ◌==◌}
use Rattle.std.proofs.lemmas.Bool.{eqb-true, true≢false, or_left, or_right, eq-eqb, cases_eq}
use Rattle.std.proofs.lemmas.Bool.Decides.{nat_tests}
use Rattle.amo_sets.specs.Sets.{has, AreDistinct}
use Rattle.amo_sets.proofs.Numbers.{has-append}
use Rattle.amo_kk.specs.Object.{first_object}
use Rattle.amo_kk.specs.Run.{claimed_jobs, has_claimed}
use Rattle.amo_params.specs.declared.givens.Givens.{Givens}
use Rattle.amo_kk.specs.declared.event.Event.{Event}
use Rattle.amo_kk.specs.declared.event.Event.TheVariants.{Claimed, Done, Ended, Halted, Left}
use Rattle.amo_kk.proofs.Kept.{not_both}
use Rattle.amo_kk.proofs.Claims.{claimed-append, claim-claimed}
use Rattle.amo_kk.proofs.RowSums.{front_distinct}
use Rattle.amo_restart.specs.declared.model.Entry.{Entry}
use Rattle.amo_restart.specs.declared.model.Entry.TheVariants.{Shown, Returned}
use Rattle.amo_restart.specs.Story.{IsStory, events_in, may_after, may_perform, HasNoDeed}
use Rattle.amo_restart.proofs.Counts.{events-append, claims_distinct}

-- a job that p may perform is the one from before, with no deed of p since, or was claimed by p
came : (xs : List Entry) (p h j : ℕ) → 1 ≤ j → may_perform p h xs ≡ j → ((h ≡ j) × HasNoDeed p xs) ⊎ (has_claimed (events_in xs) p j ≡ true)
came [] p h j some e = inl (e, tt)
came (Shown (Claimed q i) ∷ xs) p h j some e = go (q == p) refl (came xs p (if q == p then i else h) j some e)
  where
    go : (b : Bool) → (q == p) ≡ b → (((if b then i else h) ≡ j) × HasNoDeed p xs) ⊎ (has_claimed (events_in xs) p j ≡ true)
        → ((h ≡ j) × ((b ≡ false) × HasNoDeed p xs)) ⊎ (((b && (i == j)) || has_claimed (events_in xs) p j) ≡ true)
    go true t = ⊎_elim (λ x. inr (or_left _ _ (eq-eqb i j x.0))) (λ c. inr (or_right _ _ c))
    go false t = ⊎_elim (λ x. inl (x.0, (refl, x.1))) (λ c. inr c)
came (Shown (Done q i) ∷ xs) p h j some e = go (q == p) (came xs p (if q == p then 0 else h) j some e)
  where
    go : (b : Bool) → (((if b then 0 else h) ≡ j) × HasNoDeed p xs) ⊎ (has_claimed (events_in xs) p j ≡ true)
        → ((h ≡ j) × ((b ≡ false) × HasNoDeed p xs)) ⊎ (has_claimed (events_in xs) p j ≡ true)
    go true = ⊎_elim (λ (x : (0 ≡ j) × HasNoDeed p xs). absurd (let z = x.0 in omega arith)) (λ c. inr c)
    go false = ⊎_elim (λ x. inl (x.0, (refl, x.1))) (λ c. inr c)
came (Shown (Ended q) ∷ xs) p h j some e = ⊎_elim (λ x. inl (x.0, (refl, x.1))) (λ c. inr c) (came xs p h j some e)
came (Shown (Halted q) ∷ xs) p h j some e = ⊎_elim (λ x. inl (x.0, (refl, x.1))) (λ c. inr c) (came xs p h j some e)
came (Shown (Left q) ∷ xs) p h j some e = ⊎_elim (λ x. inl (x.0, (refl, x.1))) (λ c. inr c) (came xs p h j some e)
came (Returned q i ∷ xs) p h j some e = go (q == p) (came xs p (if q == p then 0 else h) j some e)
  where
    go : (b : Bool) → (((if b then 0 else h) ≡ j) × HasNoDeed p xs) ⊎ (has_claimed (events_in xs) p j ≡ true)
        → ((h ≡ j) × ((b ≡ false) × HasNoDeed p xs)) ⊎ (has_claimed (events_in xs) p j ≡ true)
    go true = ⊎_elim (λ (x : (0 ≡ j) × HasNoDeed p xs). absurd (let z = x.0 in omega arith)) (λ c. inr c)
    go false = ⊎_elim (λ x. inl (x.0, (refl, x.1))) (λ c. inr c)

pub may-append : (xs ys : List Entry) (p h : ℕ) → may_perform p h (xs ++ ys) ≡ may_perform p (may_perform p h xs) ys
may-append [] ys p h = refl
may-append (Shown e ∷ xs) ys p h = may-append xs ys p (may_after p h e)
may-append (Returned q j ∷ xs) ys p h = may-append xs ys p (if q == p then 0 else h)

-- whoever may perform a job has claimed it
pub has_claim : (xs : List Entry) (p j : ℕ) → 1 ≤ j → may_perform p 0 xs ≡ j → has_claimed (events_in xs) p j ≡ true
has_claim xs p j some e = ⊎_elim (λ (x : (0 ≡ j) × HasNoDeed p xs). absurd (let z = x.0 in omega arith)) (λ c. c) (came xs p 0 j some e)

-- a job has one claimer, if no job is claimed twice
claimer : (es : List Event) (p q j : ℕ) → AreDistinct (claimed_jobs es) → has_claimed es p j ≡ true → has_claimed es q j ≡ true → p ≡ q
claimer [] p q j d a b = absurd (true≢false (sym a))
claimer (Claimed r i ∷ es) p q j d a b = ⊎_elim
    (λ (e : i ≡ j). let none : has (claimed_jobs es) j ≡ false = subst (λ x. has (claimed_jobs es) x ≡ false) e d.0 in
    mine r i p a none (claim-claimed es p j) ∙ sym (mine r i q b none (claim-claimed es q j)))
    (λ n. claimer es p q j d.1 (later r i p n a) (later r i q n b))
    (cases_eq i j)
  where
    mine : (r i p : ℕ) → ((((r == p) && (i == j)) || has_claimed es p j) ≡ true) → has (claimed_jobs es) j ≡ false → (has_claimed es p j ≡ true → has (claimed_jobs es) j ≡ true) → p ≡ r
    mine r i p a none f = go (has_claimed es p j) refl a
      where
        go : (c : Bool) → has_claimed es p j ≡ c → (((r == p) && (i == j)) || c) ≡ true → p ≡ r
        go true e h = not_both _ (f e) none
        go false e h = first r p i h
          where
            first : (r p i : ℕ) → (((r == p) && (i == j)) || false) ≡ true → p ≡ r
            first r p i h = grind (arith, nat_tests)

    later : (r i p : ℕ) → i ≢ j → (((r == p) && (i == j)) || has_claimed es p j) ≡ true → has_claimed es p j ≡ true
    later r i p n h = grind (arith, nat_tests)
claimer (Done r i ∷ es) p q j d a b = claimer es p q j d a b
claimer (Ended r ∷ es) p q j d a b = claimer es p q j d a b
claimer (Halted r ∷ es) p q j d a b = claimer es p q j d a b
claimer (Left r ∷ es) p q j d a b = claimer es p q j d a b

-- what stands in both parts stands twice
apart : (xs ys : List ℕ) (j : ℕ) → AreDistinct (xs ++ ys) → has xs j ≡ true → has ys j ≡ true → ⊥
apart [] ys j d a b = true≢false (sym a)
apart (x ∷ xs) ys j d a b = go (λ e. apart xs ys j d.1 e b) (has xs j) refl a
  where
    alone : (b : Bool) → (b || false) ≡ true → b ≡ true
    alone b h = grind arith

    go : (has xs j ≡ true → ⊥) → (c : Bool) → has xs j ≡ c → ((x == j) || c) ≡ true → ⊥
    go rest true e h = rest e
    go rest false e h =
        let same : x ≡ j = eqb-true x j (alone (x == j) h) in
        not_both _ (has-append xs ys j ∙ or_right _ _ b) (subst (λ y. has (xs ++ ys) y ≡ false) same d.0)

pub one_stretch : (g : Givens) (xs ys : List Entry) (p q j : ℕ) → IsStory g (first_object g) (xs ++ ys) → 1 ≤ j
    → may_perform p 0 xs ≡ j → may_perform q 0 (xs ++ ys) ≡ j → (p ≡ q) × HasNoDeed p ys
one_stretch g xs ys p q j story some first second =
    ⊎_elim
    (λ (x : (may_perform q 0 xs ≡ j) × HasNoDeed q ys).
    let e : p ≡ q = claimer (events_in xs) p q j (front_distinct (claimed_jobs (events_in xs)) (claimed_jobs (events_in ys)) all) (has_claim xs p j some first) (has_claim xs q j some x.0) in
    (e, subst (λ r. HasNoDeed r ys) (sym e) x.1))
    (λ c. absurd (apart (claimed_jobs (events_in xs)) (claimed_jobs (events_in ys)) j all (claim-claimed (events_in xs) p j (has_claim xs p j some first)) (claim-claimed (events_in ys) q j c)))
    (came ys q (may_perform q 0 xs) j some (sym (may-append xs ys q 0) ∙ second))
  where
    all : AreDistinct (claimed_jobs (events_in xs) ++ claimed_jobs (events_in ys))
    all = subst (λ l. AreDistinct l) (ap claimed_jobs (events-append xs ys) ∙ claimed-append (events_in xs) (events_in ys)) (claims_distinct g (xs ++ ys) story)
