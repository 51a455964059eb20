-- The collected outputs are, for each outlet, those that it was given.
use Rattle.std.proofs.Common.{◌≡◌, ℕ, zero, suc, ◌+◌, List, [], ◌∷◌, ◌++◌, length, map, flat_map, sum_by, All, get_or, eqb, true, sym, refl, ap, ◌∙◌, subst, arith, length-append}
use Rattle.std.proofs.Math.ListN.{get_or-map}
use Rattle.std.proofs.lemmas.List.{length-map}
use Rattle.std.proofs.lemmas.List.Sums.{sum_by-cons}
use Rattle.std.proofs.lemmas.List.Elements.{filter-append, All-append}
use Rattle.std.specs.List.Sorted.{IsPermutation}
use Rattle.std.proofs.lemmas.List.Sorted.{All-permutation, IsPermutation-sym, list_any-IsPermutation, sum_by-IsPermutation}
use Rattle.crossbeam_queue.specs.Passes.{view}
use Rattle.amo_mailbox.specs.declared.output.Output.{Output}
use Rattle.amo_mailbox.specs.declared.outlet.Outlet.{Outlet}
use Rattle.amo_mailbox.specs.declared.queue.Queue.{Queue}
use Rattle.amo_mailbox.specs.Mailbox.{of, AreApart, AreWhole}
use Rattle.amo_mailbox.specs.Endpoints.{IsOutletOf, given, worker_and_sent, has_worker, worker_and_kept, sent_by}
use Rattle.amo_mailbox.proofs.Gathers.{among, workers_of, any_map, all_of, own_of_all, only_of_all}

all_map : {X Y : Type 0} (f : X → Y) (P : Y → Type 0) (xs : List X) → All (λ x. P (f x)) xs → All P (map f xs)
all_map f P [] h k d lt = absurd (omega arith)
all_map f P (x ∷ xs) h zero d lt = h 0 x (omega arith)
all_map f P (x ∷ xs) h (suc k) d lt = all_map f P xs (λ k d lt. h (suc k) d (omega arith)) k d (omega arith)

module _ {Out : Type 0} where
  apart_by : (ps qs : List (ℕ × List (Output Out))) → workers_of ps ≡ workers_of qs → AreApart ps → AreApart qs
  apart_by ps qs e h i j d lt lt' same =
      let w : ℕ × List (Output Out) → ℕ = λ e. e.0 in
      let at : (k : ℕ) → (get_or qs k d).0 ≡ (get_or ps k d).0 = λ k. sym (get_or-map w qs k d) ∙ ap (λ (l : List ℕ). get_or l k d.0) (sym e) ∙ get_or-map w ps k d in
      let n = ap length e in
      h i j d lt (omega (arith, length-map ps w, length-map qs w)) (sym (at i) ∙ same ∙ at j)

  workers_told : (os : List (Outlet Out)) → workers_of (map worker_and_sent os) ≡ workers_of (map worker_and_kept os)
  workers_told [] = refl
  workers_told (o ∷ os) = λ i. o.worker ∷ workers_told os i

  pub workers_left : (os : List (Outlet Out)) → workers_of (map worker_and_kept os) ≡ map (λ o. o.worker) os
  workers_left [] = refl
  workers_left (o ∷ os) = λ i. o.worker ∷ workers_left os i

  flat_left : (os : List (Outlet Out)) → flat_map (λ o. o.kept) os ≡ all_of (map worker_and_kept os)
  flat_left [] = refl
  flat_left (o ∷ os) = λ i. o.kept ++ flat_left os i

  pub has_left : (os : List (Outlet Out)) (p : ℕ) → has_worker os p ≡ among (workers_of (map worker_and_kept os)) p
  has_left os p = any_map (λ (o : Outlet Out). o.worker) p os ∙ ap (λ (ps : List ℕ). among ps p) (sym (workers_left os))

  pub has_same : (os os' : List (Outlet Out)) → map worker_and_kept os' ≡ map worker_and_kept os → (p : ℕ) → has_worker os' p ≡ has_worker os p
  has_same os os' e p = has_left os' p ∙ ap (λ (ps : List (ℕ × List (Output Out))). among (workers_of ps) p) e ∙ sym (has_left os p)

  pub workers_same : (os os' : List (Outlet Out)) → map worker_and_kept os' ≡ map worker_and_kept os → workers_of (map worker_and_sent os) ≡ map (λ o. o.worker) os'
  workers_same os os' e = workers_told os ∙ ap workers_of (sym e) ∙ workers_left os'

  pub gathered_each : (os os' : List (Outlet Out)) (front : List (Output Out)) → map worker_and_kept os' ≡ map worker_and_kept os → AreWhole front (map worker_and_sent os) → AreApart (map worker_and_sent os)
      → All (λ o. of o.worker o.kept ≡ o.kept) os → All (λ o. of o.worker (front ++ flat_map (λ o. o.kept) os') ≡ given o) os
  gathered_each os os' front e whole apart own k d lt =
      let o : Outlet Out = get_or os k d in
      let ps : List (ℕ × List (Output Out)) = map worker_and_kept os in
      let flat : flat_map (λ (o : Outlet Out). o.kept) os' ≡ all_of ps = flat_left os' ∙ ap all_of e in
      let f : of o.worker front ≡ sent_by (view o.pass) =
      subst (λ (y : ℕ × List (Output Out)). of y.0 front ≡ y.1) (get_or-map worker_and_sent os k d) (whole k (worker_and_sent d) (omega (arith, length-map os worker_and_sent))) in
      let b : of o.worker (all_of ps) ≡ o.kept =
      subst (λ (y : ℕ × List (Output Out)). of y.0 (all_of ps) ≡ y.1) (get_or-map worker_and_kept os k d)
      (own_of_all ps (apart_by (map worker_and_sent os) ps (workers_told os) apart) (all_map worker_and_kept (λ (y : ℕ × List (Output Out)). of y.0 y.1 ≡ y.1) os own) k (worker_and_kept d) (omega (arith, length-map os worker_and_kept))) in
      ap (λ l. of o.worker (front ++ l)) flat ∙ filter-append (λ (y : Output Out). eqb y.worker o.worker) front (all_of ps) ∙ (λ i. f i ++ b i)

  pub gathered_only : (os os' : List (Outlet Out)) (front : List (Output Out)) → map worker_and_kept os' ≡ map worker_and_kept os
      → All (λ o. of o.worker o.kept ≡ o.kept) os → All (λ x. has_worker os' x.worker ≡ true) front → All (λ x. has_worker os x.worker ≡ true) (front ++ flat_map (λ o. o.kept) os')
  gathered_only os os' front e own only =
      let P : Output Out → Type 0 = λ x. has_worker os x.worker ≡ true in
      let ps : List (ℕ × List (Output Out)) = map worker_and_kept os in
      let flat : all_of ps ≡ flat_map (λ (o : Outlet Out). o.kept) os' = ap all_of (sym e) ∙ sym (flat_left os') in
      All-append P front (flat_map (λ (o : Outlet Out). o.kept) os') (λ k d lt. sym (has_same os os' e (get_or front k d).worker) ∙ only k d lt)
      (subst (λ (l : List (Output Out)). All P l) flat
      (λ k d lt. has_left os (get_or (all_of ps) k d).worker ∙ only_of_all ps (all_map worker_and_kept (λ (y : ℕ × List (Output Out)). of y.0 y.1 ≡ y.1) os own) k d lt))

  -- what was sent and what was kept are what was put
  pub room_of : (os : List (Outlet Out)) → All (λ o. length (given o) ≡ o.put_count) os
      → sum_by (λ e. length e.1) (map worker_and_sent os) + sum_by (λ e. length e.1) (map worker_and_kept os) ≡ sum_by (λ o. o.put_count) os
  room_of [] h = refl
  room_of (o ∷ os) h =
      let l : ℕ × List (Output Out) → ℕ = λ e. length e.1 in
      let i : sum_by l (map worker_and_sent os) + sum_by l (map worker_and_kept os) ≡ sum_by (λ (o : Outlet Out). o.put_count) os = room_of os (λ k d lt. h (suc k) d (omega arith)) in
      let a : sum_by l (worker_and_sent o ∷ map worker_and_sent os) ≡ length (sent_by (view o.pass)) + sum_by l (map worker_and_sent os) = sum_by-cons l (worker_and_sent o) (map worker_and_sent os) in
      let b : sum_by l (worker_and_kept o ∷ map worker_and_kept os) ≡ length o.kept + sum_by l (map worker_and_kept os) = sum_by-cons l (worker_and_kept o) (map worker_and_kept os) in
      let c : sum_by (λ (o : Outlet Out). o.put_count) (o ∷ os) ≡ o.put_count + sum_by (λ (o : Outlet Out). o.put_count) os = sum_by-cons (λ (o : Outlet Out). o.put_count) o os in
      let g : length (sent_by (view o.pass) ++ o.kept) ≡ o.put_count = h 0 o (omega arith) in
      let goal : sum_by l (worker_and_sent o ∷ map worker_and_sent os) + sum_by l (worker_and_kept o ∷ map worker_and_kept os) ≡ sum_by (λ (o : Outlet Out). o.put_count) (o ∷ os) = omega (arith, length-append (sent_by (view o.pass)) o.kept) in goal

  pub kept_len : (os : List (Outlet Out)) → sum_by (λ o. length o.kept) os ≡ sum_by (λ e. length e.1) (map worker_and_kept os)
  kept_len [] = refl
  kept_len (o ∷ os) =
      let l : ℕ × List (Output Out) → ℕ = λ e. length e.1 in
      let i : sum_by (λ (o : Outlet Out). length o.kept) os ≡ sum_by l (map worker_and_kept os) = kept_len os in
      let b : sum_by l (worker_and_kept o ∷ map worker_and_kept os) ≡ length o.kept + sum_by l (map worker_and_kept os) = sum_by-cons l (worker_and_kept o) (map worker_and_kept os) in
      let c : sum_by (λ (o : Outlet Out). length o.kept) (o ∷ os) ≡ length o.kept + sum_by (λ (o : Outlet Out). length o.kept) os = sum_by-cons (λ (o : Outlet Out). length o.kept) o os in
      let goal : sum_by (λ (o : Outlet Out). length o.kept) (o ∷ os) ≡ sum_by l (worker_and_kept o ∷ map worker_and_kept os) = omega arith in goal

  pub kept_same : (os os' : List (Outlet Out)) → map worker_and_kept os' ≡ map worker_and_kept os → flat_map (λ o. o.kept) os' ≡ flat_map (λ o. o.kept) os
  kept_same os os' e = flat_left os' ∙ ap all_of e ∙ sym (flat_left os)

-- outlets, sorted, whose passes have brought back what they sent, and what they keep after that
module _ {Out : Type 0} (queue : Queue Out) (os sorted after : List (Outlet Out)) (back : List (ℕ × List (Output Out))) (perm : IsPermutation os sorted) (belong : All (λ o. IsOutletOf queue o) os) (is : back ≡ map worker_and_sent sorted) (kept : map worker_and_kept after ≡ map worker_and_kept sorted) where
  each_belongs : All (λ o. IsOutletOf queue o) sorted
  each_belongs = All-permutation (λ (o : Outlet Out). IsOutletOf queue o) os sorted perm belong

  -- what they sent and kept is what these outlets were given
  pub gathered_room : sum_by (λ e. length e.1) back + sum_by (λ o. length o.kept) after ≡ sum_by (λ o. o.put_count) os
  gathered_room =
      let len : ℕ × List (Output Out) → ℕ = λ e. length e.1 in
      let same : sum_by len back ≡ sum_by len (map worker_and_sent sorted) = ap (sum_by len) is in
      let left : sum_by (λ (o : Outlet Out). length o.kept) after ≡ sum_by len (map worker_and_kept sorted) = kept_len after ∙ ap (sum_by len) kept in
      let all = room_of sorted (λ k d lt. (each_belongs k d lt).counted) in
      let count : sum_by (λ (o : Outlet Out). o.put_count) sorted ≡ sum_by (λ (o : Outlet Out). o.put_count) os = sum_by-IsPermutation (λ (o : Outlet Out). o.put_count) os sorted perm in
      let goal : sum_by len back + sum_by (λ (o : Outlet Out). length o.kept) after ≡ sum_by (λ (o : Outlet Out). o.put_count) os = omega arith in goal

  -- of each outlet it is what that was given
  pub sorted_each : (front : List (Output Out)) → AreWhole front back → AreApart back → All (λ o. of o.worker (front ++ flat_map (λ o. o.kept) after) ≡ given o) os
  sorted_each front whole apart =
      All-permutation (λ (o : Outlet Out). of o.worker (front ++ flat_map (λ (o : Outlet Out). o.kept) after) ≡ given o) sorted os (IsPermutation-sym os sorted perm)
      (gathered_each sorted after front kept (subst (λ (b : List (ℕ × List (Output Out))). AreWhole front b) is whole) (subst (λ (b : List (ℕ × List (Output Out))). AreApart b) is apart)
      (λ k d lt. (each_belongs k d lt).kept_of))

  -- and it is of these outlets alone
  pub sorted_only : (front : List (Output Out)) → All (λ x. has_worker after x.worker ≡ true) front → All (λ x. has_worker os x.worker ≡ true) (front ++ flat_map (λ o. o.kept) after)
  sorted_only front only k d lt =
      let all : List (Output Out) = front ++ flat_map (λ (o : Outlet Out). o.kept) after in
      list_any-IsPermutation (λ (o : Outlet Out). eqb (get_or all k d).worker o.worker) os sorted perm
      ∙ gathered_only sorted after front kept (λ k d lt. (each_belongs k d lt).kept_of) only k d lt
