-- In an outcome no job is answered twice, and what is answered is in no hand and not free.
use Rattle.std.proofs.Common.{◌≡◌, ◌≢◌, ◌⊎◌, inl, inr, ℕ, zero, suc, ◌≤◌, arith, Bool, true, false, cond, eqb, ◌||◌, List, [], ◌∷◌, ◌++◌, map, refl, sym, ap, ◌∙◌, subst}
use Rattle.std.proofs.lemmas.Bool.{or_right, true≢false, eqb-true, eqb-false, eq-eqb}
use Rattle.std.proofs.lemmas.List.{map-append}
use Rattle.amo_sets.specs.Sets.{has, AreDistinct}
use Rattle.amo_sets.proofs.Numbers.{has-append}
use Rattle.amo_kk.specs.Lawful.{IsSoundRecord}
use Rattle.amo_kk.specs.Machine.{LocalView}
use Rattle.amo_kk.specs.Record.{jobs_in_hand}
use Rattle.amo_params.specs.declared.givens.Givens.{Givens}
use Rattle.amo_params.specs.declared.moves.Move.{Move}
use Rattle.amo_kk.specs.declared.model.Process.{Process}
use Rattle.amo_words.specs.declared.rule.Spot.{Spot}
use Rattle.amo_words.specs.declared.rule.Spot.TheVariants.{Home, Out as Away, Back}
use Rattle.amo_kk.specs.World.{world_of}
use Rattle.amo_words.specs.Logs.{machine_after, is_claimed}
use Rattle.amo_words.specs.Rule.{AllStand}
use Rattle.amo_words.specs.Looking.{IsBack}
use Rattle.amo_words.specs.Settling.{free_of}
use Rattle.amo_words.proofs.Worlds.{lawful, claimed_by}
use Rattle.amo_words.proofs.Meetings.{stands_back, worker_back, claims_apart}
use Rattle.amo_mailbox.specs.declared.output.Output.{Output}
use Rattle.amo_crew.specs.declared.outcome.Outcome.{Outcome}
use Rattle.amo_mailbox.specs.Mailbox.{of}
use Rattle.amo_crew.specs.Outcomes.{spot_of, dones_in, hand_in, hands_upto, jobs_of, IsOutcome, answered, in_hand, free_jobs}
use Rattle.amo_crew.proofs.Fitted.{is_back}

-- ---- lists of numbers

pub has_front : (xs ys : List ℕ) (j : ℕ) → has xs j ≡ true → has (xs ++ ys) j ≡ true
has_front xs ys j h = has-append xs ys j ∙ ap (λ b. b || has ys j) h

pub has_back : (xs ys : List ℕ) (j : ℕ) → has ys j ≡ true → has (xs ++ ys) j ≡ true
has_back xs ys j h = has-append xs ys j ∙ or_right (has xs j) (has ys j) h

pub had_by : (xs ys : List ℕ) (j : ℕ) → has (xs ++ ys) j ≡ true → (has xs j ≡ true) ⊎ (has ys j ≡ true)
had_by xs ys j h = go (has xs j) refl (sym (has-append xs ys j) ∙ h)
  where
    go : (b : Bool) → has xs j ≡ b → b || has ys j ≡ true → (has xs j ≡ true) ⊎ (has ys j ≡ true)
    go true e k = inl e
    go false e k = inr k

pub not_both : (b : Bool) → b ≡ true → b ≡ false → ⊥
not_both b h k = absurd (true≢false (sym h ∙ k))

-- the front of a list without repetition has none, and shares nothing with the back
distinct_front : (xs ys : List ℕ) → AreDistinct (xs ++ ys) → AreDistinct xs
distinct_front [] ys h = tt
distinct_front (x ∷ xs) ys h = (go (has xs x) refl, distinct_front xs ys h.1)
  where
    go : (b : Bool) → has xs x ≡ b → b ≡ false
    go true e = absurd (not_both (has (xs ++ ys) x) (has_front xs ys x e) h.0)
    go false e = refl

distinct_apart : (xs ys : List ℕ) (j : ℕ) → AreDistinct (xs ++ ys) → has xs j ≡ true → has ys j ≡ true → ⊥
distinct_apart [] ys j h e k = absurd (true≢false (sym e))
distinct_apart (x ∷ xs) ys j h e k = go (λ f. distinct_apart xs ys j h.1 f k) (eqb x j) refl e
  where
    go : (has xs j ≡ true → ⊥) → (b : Bool) → eqb x j ≡ b → b || has xs j ≡ true → ⊥
    go rest true same f = not_both (has (xs ++ ys) x) (has_back xs ys x (ap (has ys) (eqb-true x j same) ∙ k)) h.0
    go rest false same f = rest f

distinct_rear : (xs ys : List ℕ) → AreDistinct (xs ++ ys) → AreDistinct ys
distinct_rear [] ys h = h
distinct_rear (x ∷ xs) ys h = distinct_rear xs ys h.1

distinct_both : (xs ys : List ℕ) → AreDistinct xs → AreDistinct ys → ((j : ℕ) → has xs j ≡ true → has ys j ≡ true → ⊥) → AreDistinct (xs ++ ys)
distinct_both [] ys a b apart = b
distinct_both (x ∷ xs) ys a b apart = (has-append xs ys x ∙ go (has ys x) refl, distinct_both xs ys a.1 b (λ j h k. apart j (or_right (eqb x j) (has xs j) h) k))
  where
    itself : eqb x x || has xs x ≡ true
    itself = ap (λ c. c || has xs x) (eq-eqb x x refl)

    go : (c : Bool) → has ys x ≡ c → has xs x || has ys x ≡ false
    go true e = absurd (apart x itself e)
    go false e = ap (λ c. c || has ys x) a.0 ∙ e

-- the jobs of pairs that one number was put before
pub numbers : (i : ℕ) (xs : List ℕ) → map (λ (e : ℕ × ℕ). e.1) (map (λ (k : ℕ). (i, k)) xs) ≡ xs
numbers i [] = refl
numbers i (x ∷ xs) = ap (λ l. x ∷ l) (numbers i xs)

-- ---- outputs, each with its worker

module _ {Out : Type 0} where
  -- an output stands among those of its worker
  of_more : (x : Output Out) (xs : List (Output Out)) (p j : ℕ) → has (jobs_of (of p xs)) j ≡ true → has (jobs_of (of p (x ∷ xs))) j ≡ true
  of_more x xs p j h = go (eqb x.worker p)
    where
      go : (b : Bool) → has (jobs_of (cond b (x ∷ of p xs) (of p xs))) j ≡ true
      go true = or_right (eqb x.job j) (has (jobs_of (of p xs)) j) h
      go false = h

  of_first : (x : Output Out) (xs : List (Output Out)) → of x.worker (x ∷ xs) ≡ x ∷ of x.worker xs
  of_first x xs = ap (λ b. cond b (x ∷ of x.worker xs) (of x.worker xs)) (eq-eqb x.worker x.worker refl)

  first_has : (x : Output Out) (xs : List (Output Out)) (j : ℕ) → eqb x.job j ≡ true → has (jobs_of (of x.worker (x ∷ xs))) j ≡ true
  first_has x xs j e = ap (λ l. has (jobs_of l) j) (of_first x xs) ∙ ap (λ b. b || has (jobs_of (of x.worker xs)) j) e

  output_of : (xs : List (Output Out)) (j : ℕ) → has (jobs_of xs) j ≡ true → (p : ℕ) × (has (jobs_of (of p xs)) j ≡ true)
  output_of [] j h = absurd (true≢false (sym h))
  output_of (x ∷ xs) j h = go (output_of xs j) (eqb x.job j) refl h
    where
      go : (has (jobs_of xs) j ≡ true → (p : ℕ) × (has (jobs_of (of p xs)) j ≡ true)) → (b : Bool) → eqb x.job j ≡ b → b || has (jobs_of xs) j ≡ true → (p : ℕ) × (has (jobs_of (of p (x ∷ xs))) j ≡ true)
      go rest true e n = (x.worker, first_has x xs j e)
      go rest false e n = let found = rest n in (found.0, of_more x xs found.0 j found.1)

  -- If each worker has its jobs once and no two workers have one, all are different.
  once : (xs : List (Output Out)) → ((p : ℕ) → AreDistinct (jobs_of (of p xs))) → ((p q j : ℕ) → q ≢ p → has (jobs_of (of p xs)) j ≡ true → has (jobs_of (of q xs)) j ≡ true → ⊥) → AreDistinct (jobs_of xs)
  once [] own apart = tt
  once (x ∷ xs) own apart =
      (fresh (has (jobs_of xs) x.job) refl, once xs (λ p. own_rest p (eqb x.worker p) (own p)) (λ p q j differ h k. apart p q j differ (of_more x xs p j h) (of_more x xs q j k)))
    where
      own_rest : (p : ℕ) (b : Bool) → AreDistinct (jobs_of (cond b (x ∷ of p xs) (of p xs))) → AreDistinct (jobs_of (of p xs))
      own_rest p true h = h.1
      own_rest p false h = h

      itself : eqb x.job x.job ≡ true
      itself = eq-eqb x.job x.job refl

      twice : (p : ℕ) → has (jobs_of (of p xs)) x.job ≡ true → (b : Bool) → eqb x.worker p ≡ b → ⊥
      twice p h true e =
          let alone : AreDistinct (jobs_of (x ∷ of x.worker xs)) = subst (λ l. AreDistinct (jobs_of l)) (of_first x xs) (own x.worker) in
          not_both (has (jobs_of (of x.worker xs)) x.job) (ap (λ q. has (jobs_of (of q xs)) x.job) (eqb-true x.worker p e) ∙ h) alone.0
      twice p h false e = apart p x.worker x.job (eqb-false x.worker p e) (of_more x xs p x.job h) (first_has x xs x.job itself)

      fresh : (b : Bool) → has (jobs_of xs) x.job ≡ b → b ≡ false
      fresh true h = let found = output_of xs x.job h in absurd (twice found.0 found.1 (eqb x.worker found.0) refl)
      fresh false h = refl

-- ---- workers that have come back

module _ (g : Givens) (log : List Move) (spots : List Spot) (stand : AllStand g log spots) where
  pub sound : (p : ℕ) (l : LocalView) → IsBack spots p l → IsSoundRecord g p l.state
  sound p l back =
      subst (λ (m : LocalView). IsSoundRecord g p m.state) (sym (stands_back g log spots stand p l back)) ((lawful g log).lawful.sound p (worker_back g log spots stand p l back)).local

  -- what is done, or in a hand, is so of a worker that came back
  done_back : (p j : ℕ) (s : Spot) → spot_of spots p ≡ s → has (dones_in s) j ≡ true → (l : LocalView) × IsBack spots p l × (has l.state.dones j ≡ true)
  done_back p j Home e h = absurd (true≢false (sym h))
  done_back p j Away e h = absurd (true≢false (sym h))
  done_back p j (Back l) e h = (l, is_back spots p l e, h)

  pub hand_back : (p j : ℕ) (s : Spot) → spot_of spots p ≡ s → has (hand_in s) j ≡ true → (l : LocalView) × IsBack spots p l × (has (jobs_in_hand l.state.phase) j ≡ true)
  hand_back p j Home e h = absurd (true≢false (sym h))
  hand_back p j Away e h = absurd (true≢false (sym h))
  hand_back p j (Back l) e h = (l, is_back spots p l e, h)

  claimed_if_done : (p j : ℕ) (l : LocalView) → IsBack spots p l → has l.state.dones j ≡ true → has l.state.claimed j ≡ true
  claimed_if_done p j l back h = ap (λ c. has c j) (sound p l back).claims ∙ has_front l.state.dones (jobs_in_hand l.state.phase) j h

  pub claimed_if_in_hand : (p j : ℕ) (l : LocalView) → IsBack spots p l → has (jobs_in_hand l.state.phase) j ≡ true → has l.state.claimed j ≡ true
  claimed_if_in_hand p j l back h = ap (λ c. has c j) (sound p l back).claims ∙ has_back l.state.dones (jobs_in_hand l.state.phase) j h

  is_claimed_by : (p j : ℕ) (l : LocalView) → IsBack spots p l → has l.state.claimed j ≡ true → is_claimed (world_of g log).processes j ≡ true
  is_claimed_by p j l back h = claimed_by j (world_of g log).processes p (ap (λ (m : LocalView). has m.state.claimed j) (sym (stands_back g log spots stand p l back)) ∙ h)

  own_dones : (p : ℕ) (s : Spot) → spot_of spots p ≡ s → AreDistinct (dones_in s)
  own_dones p Home e = tt
  own_dones p Away e = tt
  own_dones p (Back l) e = let of_it = sound p l (is_back spots p l e) in distinct_front l.state.dones (jobs_in_hand l.state.phase) (subst AreDistinct of_it.claims of_it.distinct)

  -- a worker that came back has claimed the job
  abbrev HasClaimed : ℕ → ℕ → Type 0
  HasClaimed p j = (l : LocalView) × IsBack spots p l × (has l.state.claimed j ≡ true)

  done_claimed : (p j : ℕ) → has (dones_in (spot_of spots p)) j ≡ true → HasClaimed p j
  done_claimed p j h = let a = done_back p j (spot_of spots p) refl h in (a.0, a.1, claimed_if_done p j a.0 a.1 a.2)

  hand_claimed : (p j : ℕ) → has (hand_in (spot_of spots p)) j ≡ true → HasClaimed p j
  hand_claimed p j h = let a = hand_back p j (spot_of spots p) refl h in (a.0, a.1, claimed_if_in_hand p j a.0 a.1 a.2)

  -- no two workers have claimed one job
  claimed_apart : (p q j : ℕ) → q ≢ p → HasClaimed p j → HasClaimed q j → ⊥
  claimed_apart p q j differ a b = not_both (has b.0.state.claimed j) b.2 (claims_apart g log spots stand p q j a.0 b.0 a.1 b.1 differ a.2)

  dones_apart : (p q j : ℕ) → q ≢ p → has (dones_in (spot_of spots p)) j ≡ true → has (dones_in (spot_of spots q)) j ≡ true → ⊥
  dones_apart p q j differ h k = claimed_apart p q j differ (done_claimed p j h) (done_claimed q j k)

  -- no worker has done what is in a hand
  done_not_in_hand : (p q j : ℕ) → has (dones_in (spot_of spots p)) j ≡ true → has (hand_in (spot_of spots q)) j ≡ true → ⊥
  done_not_in_hand p q j h k = go (done_back p j (spot_of spots p) refl h) (hand_back q j (spot_of spots q) refl k) (eqb q p) refl
    where
      go : (l : LocalView) × IsBack spots p l × (has l.state.dones j ≡ true) → (m : LocalView) × IsBack spots q m × (has (jobs_in_hand m.state.phase) j ≡ true) → (b : Bool) → eqb q p ≡ b → ⊥
      go a c true e =
          let of_it = sound p a.0 a.1 in
          let same : c.0 ≡ a.0 = stands_back g log spots stand q c.0 c.1 ∙ ap (machine_after g log) (eqb-true q p e) ∙ sym (stands_back g log spots stand p a.0 a.1) in
          distinct_apart a.0.state.dones (jobs_in_hand a.0.state.phase) j (subst AreDistinct of_it.claims of_it.distinct) a.2 (ap (λ (m : LocalView). has (jobs_in_hand m.state.phase) j) (sym same) ∙ c.2)
      go a c false e = claimed_apart p q j (eqb-false q p e) (done_claimed p j h) (hand_claimed q j k)

  -- a job in hand is in some worker's
  pub hand_of : (i j : ℕ) → has (map (λ (e : ℕ × ℕ). e.1) (hands_upto spots i)) j ≡ true → (p : ℕ) × (p ≤ i) × (has (hand_in (spot_of spots p)) j ≡ true)
  hand_of zero j h = absurd (true≢false (sym h))
  hand_of (suc p) j h =
      go (had_by (map (λ (e : ℕ × ℕ). e.1) (hands_upto spots p)) (map (λ (e : ℕ × ℕ). e.1) (map (λ (k : ℕ). (suc p, k)) (hand_in (spot_of spots (suc p))))) j
      (ap (λ l. has l j) (sym (map-append (λ (e : ℕ × ℕ). e.1) (hands_upto spots p) (map (λ (k : ℕ). (suc p, k)) (hand_in (spot_of spots (suc p)))))) ∙ h)) (hand_of p j)
    where
      go : (has (map (λ (e : ℕ × ℕ). e.1) (hands_upto spots p)) j ≡ true) ⊎ (has (map (λ (e : ℕ × ℕ). e.1) (map (λ (k : ℕ). (suc p, k)) (hand_in (spot_of spots (suc p))))) j ≡ true)
          → (has (map (λ (e : ℕ × ℕ). e.1) (hands_upto spots p)) j ≡ true → (q : ℕ) × (q ≤ p) × (has (hand_in (spot_of spots q)) j ≡ true)) → (q : ℕ) × (q ≤ suc p) × (has (hand_in (spot_of spots q)) j ≡ true)
      go (inl k) rest = let r = rest k in let low = r.1 in (r.0, omega (arith, low), r.2)
      go (inr k) rest = (suc p, omega arith, ap (λ l. has l j) (sym (numbers (suc p) (hand_in (spot_of spots (suc p))))) ∙ k)

  own_hand : (p : ℕ) (s : Spot) → spot_of spots p ≡ s → AreDistinct (hand_in s)
  own_hand p Home e = tt
  own_hand p Away e = tt
  own_hand p (Back l) e = let of_it = sound p l (is_back spots p l e) in distinct_rear l.state.dones (jobs_in_hand l.state.phase) (subst AreDistinct of_it.claims of_it.distinct)

  -- no two workers have one job in hand
  hands_apart : (p q j : ℕ) → q ≢ p → has (hand_in (spot_of spots p)) j ≡ true → has (hand_in (spot_of spots q)) j ≡ true → ⊥
  hands_apart p q j differ h k = claimed_apart p q j differ (hand_claimed p j h) (hand_claimed q j k)

  hands_once : (i : ℕ) → AreDistinct (map (λ (e : ℕ × ℕ). e.1) (hands_upto spots i))
  hands_once zero = tt
  hands_once (suc i) = subst AreDistinct (sym (map-append (λ (e : ℕ × ℕ). e.1) (hands_upto spots i) (map (λ (k : ℕ). (suc i, k)) (hand_in (spot_of spots (suc i))))))
      (distinct_both (map (λ (e : ℕ × ℕ). e.1) (hands_upto spots i)) (map (λ (e : ℕ × ℕ). e.1) (map (λ (k : ℕ). (suc i, k)) (hand_in (spot_of spots (suc i))))) (hands_once i)
      (subst AreDistinct (sym (numbers (suc i) (hand_in (spot_of spots (suc i))))) (own_hand (suc i) (spot_of spots (suc i)) refl))
      (λ j h k. let f = hand_of i j h in let low = f.1 in hands_apart f.0 (suc i) j (λ e. omega (arith, low, e)) f.2 (ap (λ l. has l j) (sym (numbers (suc i) (hand_in (spot_of spots (suc i))))) ∙ k)))

-- a free job is claimed by nobody
free_is_unclaimed : {P : Type 0} (all : List Process) (i : ℕ) (xs : List P) (j : ℕ) → has (map (λ (t : ℕ × P). t.0) (free_of all i xs)) j ≡ true → is_claimed all j ≡ false
free_is_unclaimed all i [] j h = absurd (true≢false (sym h))
free_is_unclaimed {P} all i (x ∷ xs) j h = go (free_is_unclaimed all (suc i) xs j) (is_claimed all i) refl h
  where
    rest : List (ℕ × P)
    rest = free_of all (suc i) xs

    here : (has (map (λ (t : ℕ × P). t.0) rest) j ≡ true → is_claimed all j ≡ false) → (b : Bool) → eqb i j ≡ b → is_claimed all i ≡ false → b || has (map (λ (t : ℕ × P). t.0) rest) j ≡ true → is_claimed all j ≡ false
    here more true e c n = ap (is_claimed all) (sym (eqb-true i j e)) ∙ c
    here more false e c n = more n

    go : (has (map (λ (t : ℕ × P). t.0) rest) j ≡ true → is_claimed all j ≡ false) → (b : Bool) → is_claimed all i ≡ b → has (map (λ (t : ℕ × P). t.0) (cond b rest ((i, x) ∷ rest))) j ≡ true → is_claimed all j ≡ false
    go more true c n = more n
    go more false c n = here more (eqb i j) refl c n

-- the free jobs rise
free_low : {P : Type 0} (all : List Process) (i : ℕ) (xs : List P) (j : ℕ) → has (map (λ (t : ℕ × P). t.0) (free_of all i xs)) j ≡ true → i ≤ j
free_low all i [] j h = absurd (true≢false (sym h))
free_low {P} all i (x ∷ xs) j h = go (free_low all (suc i) xs j) (is_claimed all i) h
  where
    rest : List (ℕ × P)
    rest = free_of all (suc i) xs

    here : (has (map (λ (t : ℕ × P). t.0) rest) j ≡ true → suc i ≤ j) → (b : Bool) → eqb i j ≡ b → b || has (map (λ (t : ℕ × P). t.0) rest) j ≡ true → i ≤ j
    here more true e n = let s = eqb-true i j e in omega (arith, s)
    here more false e n = let m = more n in omega (arith, m)

    go : (has (map (λ (t : ℕ × P). t.0) rest) j ≡ true → suc i ≤ j) → (b : Bool) → has (map (λ (t : ℕ × P). t.0) (cond b rest ((i, x) ∷ rest))) j ≡ true → i ≤ j
    go more true n = let m = more n in omega (arith, m)
    go more false n = here more (eqb i j) refl n

free_distinct : {P : Type 0} (all : List Process) (i : ℕ) (xs : List P) → AreDistinct (map (λ (t : ℕ × P). t.0) (free_of all i xs))
free_distinct all i [] = tt
free_distinct {P} all i (x ∷ xs) = go (free_distinct all (suc i) xs) (is_claimed all i)
  where
    rest : List (ℕ × P)
    rest = free_of all (suc i) xs

    fresh : (b : Bool) → has (map (λ (t : ℕ × P). t.0) rest) i ≡ b → b ≡ false
    fresh true e = absurd (let l = free_low all (suc i) xs i e in omega (arith, l))
    fresh false e = refl

    go : AreDistinct (map (λ (t : ℕ × P). t.0) rest) → (b : Bool) → AreDistinct (map (λ (t : ℕ × P). t.0) (cond b rest ((i, x) ∷ rest)))
    go h true = h
    go h false = (fresh (has (map (λ (t : ℕ × P). t.0) rest) i) refl, h)

-- ---- an outcome

module _ {P Out : Type 0} (related : ℕ → ℕ → P → Out → Type 0) (g : Givens) (payloads : List P) (budgets : List ℕ) (o : Outcome P Out) (is : IsOutcome related g payloads budgets o) where
  -- of whom an answer is
  answer_of : (j : ℕ) → has (answered o) j ≡ true → (p : ℕ) × (has (dones_in (spot_of is.spots p)) j ≡ true)
  answer_of j h = let found = output_of o.outputs.items j h in (found.0, ap (λ l. has l j) (sym (is.run.outputs_are.jobs found.0)) ∙ found.1)

  pairs : (ts : List (ℕ × ℕ × P)) → map (λ (e : ℕ × ℕ). e.1) (map (λ (t : ℕ × ℕ × P). (t.0, t.1)) ts) ≡ map (λ (t : ℕ × ℕ × P). t.1) ts
  pairs [] = refl
  pairs (t ∷ ts) = ap (λ l. t.1 ∷ l) (pairs ts)

  pub in_hand_is : in_hand o ≡ map (λ (e : ℕ × ℕ). e.1) (hands_upto is.spots g.workers)
  in_hand_is = sym (pairs o.in_hand.items) ∙ ap (map (λ (e : ℕ × ℕ). e.1)) is.run.hands_are.jobs

  -- in whose hand a job is
  holder_of : (j : ℕ) → has (in_hand o) j ≡ true → (p : ℕ) × (has (hand_in (spot_of is.spots p)) j ≡ true)
  holder_of j h = let f = hand_of g is.whole.log is.spots is.whole.stand g.workers j (ap (λ l. has l j) (sym in_hand_is) ∙ h) in (f.0, f.2)

  pub answered_once : AreDistinct (answered o)
  answered_once = once o.outputs.items (λ p. subst AreDistinct (sym (is.run.outputs_are.jobs p)) (own_dones g is.whole.log is.spots is.whole.stand p (spot_of is.spots p) refl))
      (λ p q j differ h k. dones_apart g is.whole.log is.spots is.whole.stand p q j differ (ap (λ l. has l j) (sym (is.run.outputs_are.jobs p)) ∙ h) (ap (λ l. has l j) (sym (is.run.outputs_are.jobs q)) ∙ k))

  pub answered_not_in_hand : (j : ℕ) → has (answered o) j ≡ true → has (in_hand o) j ≡ false
  answered_not_in_hand j h = go (has (in_hand o) j) refl
    where
      go : (b : Bool) → has (in_hand o) j ≡ b → b ≡ false
      go true k = let a = answer_of j h in let c = holder_of j k in absurd (done_not_in_hand g is.whole.log is.spots is.whole.stand a.0 c.0 j a.1 c.1)
      go false k = refl

  -- what is claimed is not free
  claimed_not_free : (j : ℕ) → is_claimed (world_of g is.whole.log).processes j ≡ true → has (free_jobs o) j ≡ false
  claimed_not_free j h = go (has (free_jobs o) j) refl
    where
      go : (b : Bool) → has (free_jobs o) j ≡ b → b ≡ false
      go true k = absurd (not_both (is_claimed (world_of g is.whole.log).processes j) h
          (free_is_unclaimed (world_of g is.whole.log).processes 1 payloads j (ap (λ l. has (map (λ (t : ℕ × P). t.0) l) j) (sym is.whole.free) ∙ k)))
      go false k = refl

  pub answered_not_free : (j : ℕ) → has (answered o) j ≡ true → has (free_jobs o) j ≡ false
  answered_not_free j h =
      let a = answer_of j h in
      let l = done_back g is.whole.log is.spots is.whole.stand a.0 j (spot_of is.spots a.0) refl a.1 in
      claimed_not_free j (is_claimed_by g is.whole.log is.spots is.whole.stand a.0 j l.0 l.1 (claimed_if_done g is.whole.log is.spots is.whole.stand a.0 j l.0 l.1 l.2))

  pub in_hand_not_free : (j : ℕ) → has (in_hand o) j ≡ true → has (free_jobs o) j ≡ false
  in_hand_not_free j h =
      let a = holder_of j h in
      let l = hand_back g is.whole.log is.spots is.whole.stand a.0 j (spot_of is.spots a.0) refl a.1 in
      claimed_not_free j (is_claimed_by g is.whole.log is.spots is.whole.stand a.0 j l.0 l.1 (claimed_if_in_hand g is.whole.log is.spots is.whole.stand a.0 j l.0 l.1 l.2))

  pub in_hand_once : AreDistinct (in_hand o)
  in_hand_once = subst AreDistinct (sym in_hand_is) (hands_once g is.whole.log is.spots is.whole.stand g.workers)

  pub free_once : AreDistinct (free_jobs o)
  free_once = subst (λ (l : List (ℕ × P)). AreDistinct (map (λ (t : ℕ × P). t.0) l)) (sym is.whole.free) (free_distinct (world_of g is.whole.log).processes 1 payloads)
