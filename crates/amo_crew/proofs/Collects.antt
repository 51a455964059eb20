-- Collecting one worker more.
use Rattle.std.proofs.Common.{◌≡◌, ◌≢◌, ◌⊎◌, inl, inr, ⊎_elim, ℕ, zero, suc, ◌+◌, ◌-◌, ◌<◌, ◌≤◌, Bool, false, List, [], ◌∷◌, ◌++◌, length, map, sum_by, All, Option, Some, None, slice_get, refl, sym, ap, ◌∙◌, subst, arith, append-nil}
use Rattle.std.specs.Prelude.{◌||◌, ◌==◌}
use Rattle.std.specs.List.{list_any}
use Rattle.std.proofs.lemmas.Bool.{ne_eqb}
use Rattle.std.proofs.lemmas.List.{length-map, length_push}
use Rattle.std.proofs.lemmas.List.Sums.{sum_by-append}
use Rattle.std.proofs.lemmas.List.Folds.{list_any-append}
use Rattle.std.proofs.lemmas.List.Elements.{All-push, All-append, All-nil}
use mathlib.Core.Option.{some, some-injective, some-ne-none}
use mathlib.Core.Logic.{dite}
use native.Mathlib.Decide.{ℕ_discrete}
use lib.ListN.{get_elem?}
use Rattle.atomic_table.specs.Seated.{TableId}
use Rattle.atomic_table.proofs.Lists.{at_longer, at_last}
use Rattle.amo_sets.specs.Lists.{numbered, put}
use Rattle.amo_sets.proofs.Numbers.{numbered-put_same, numbered-put_other, length-put}
use Rattle.amo_kk.specs.Record.{jobs_in_hand}
use Rattle.amo_kk.specs.Machine.{LocalView}
use Rattle.amo_params.specs.declared.givens.Givens.{Givens}
use Rattle.amo_words.specs.declared.rule.Spot.{Spot}
use Rattle.amo_words.specs.declared.rule.Spot.TheVariants.{Home, Back}
use Rattle.amo_words.specs.Rule.{AllStand}
use Rattle.amo_words.specs.Faces.{Seated, machine, spots}
use Rattle.amo_words.specs.Hiring.{HasCollected}
use Rattle.amo_mailbox.specs.declared.output.Output.{Output}
use Rattle.amo_mailbox.specs.declared.queue.Queue.{Queue}
use Rattle.amo_mailbox.specs.declared.outlet.Outlet.{Outlet}
use Rattle.amo_crew.specs.declared.outcome.End.{End}
use Rattle.amo_crew.specs.declared.outcome.End.TheVariants.{Ended, Halted, NotStarted}
use Rattle.amo_crew.specs.declared.run.member.Ran.{Ran}
use Rattle.amo_crew.specs.declared.settle.collecting.Collected.{Collected}
use Rattle.amo_crew.specs.declared.run.member.Finish.{Finish}
use Rattle.amo_crew.specs.declared.run.member.Finish.TheVariants.{Ran as HasRan, NotStarted as WasNotStarted}
use Rattle.amo_mailbox.specs.Endpoints.{IsOutletOf, given}
use Rattle.amo_crew.specs.Running.{EndsSo, IsInHand, HasRun}
use Rattle.amo_crew.specs.Crew.{HasFinished}
use Rattle.amo_crew.specs.Outcomes.{spot_of, dones_in, hand_in, IsBare, EndsAs, AreEnds, AreInHand, hands_upto}
use Rattle.amo_crew.specs.Collecting.{OutletFits, dones_upto, AreCollected, hand_of, Collects, IsBackAs}

-- lists

pub at_push : {A : Type 0} (l : List A) (a b : A) (j : ℕ) → get_elem? (l ++ a ∷ []) j ≡ some b → ((j < length l) × (get_elem? l j ≡ some b)) ⊎ ((j ≡ length l) × (a ≡ b))
at_push [] a b zero e = inr (refl, some-injective a b e)
at_push [] a b (suc j) e = absurd (some-ne-none b (sym e))
at_push (x ∷ xs) a b zero e = inl (omega arith, e)
at_push (x ∷ xs) a b (suc j) e = ⊎_elim (λ t. let h = t.0 in inl (omega arith, t.1)) (λ t. inr (ap suc t.0, t.1)) (at_push xs a b j e)

map_both : {A B : Type 0} (f : A → B) (xs ys : List A) → map f (xs ++ ys) ≡ map f xs ++ map f ys
map_both f [] ys = refl
map_both f (x ∷ xs) ys = λ k. f x ∷ map_both f xs ys k

any_both : {A : Type 0} (t : A → Bool) (xs : List A) (y : A) → list_any t xs ≡ false → t y ≡ false → list_any t (xs ++ y ∷ []) ≡ false
any_both t xs y a b = list_any-append t xs (y ∷ []) ∙ ap (λ c. c || (t y || false)) a ∙ ap (λ c. c || false) b

sum_more : {A : Type 0} (f : A → ℕ) (xs : List A) (y : A) → sum_by f (xs ++ y ∷ []) ≡ sum_by f xs + f y
sum_more f xs y = omega (arith, sum_by-append f xs (y ∷ []))

-- worker and job
abbrev pair_of : {P : Type 0} → ℕ × ℕ × P → ℕ × ℕ
pair_of t = (t.0, t.1)

-- the payload is that of the job
abbrev IsOwn : {P : Type 0} → List P → ℕ × ℕ × P → Type 0
IsOwn payloads t = slice_get payloads (t.1 - 1) ≡ Some t.2

-- spots

module _ (s t : List Spot) where
  pub hands_same : (i : ℕ) → ((p : ℕ) → p ≤ i → spot_of t p ≡ spot_of s p) → hands_upto t i ≡ hands_upto s i
  hands_same zero h = refl
  hands_same (suc i) h = λ k. hands_same i (λ p l. h p (omega arith)) k ++ map (λ j. (suc i, j)) (hand_in (h (suc i) (omega arith) k))

  pub dones_same : (i : ℕ) → ((p : ℕ) → p ≤ i → spot_of t p ≡ spot_of s p) → dones_upto t i ≡ dones_upto s i
  dones_same zero h = refl
  dones_same (suc i) h = λ k. dones_same i (λ p l. h p (omega arith)) k + length (dones_in (h (suc i) (omega arith) k))

ends_as : (budget : ℕ) (s : Spot) (l : LocalView) (e : End) → s ≡ Back l → EndsSo budget l.state e → EndsAs budget s e
ends_as budget s l (Ended n) is h = (l, is, h)
ends_as budget s l (Halted n) is h = (l, is, h)
ends_as budget s l NotStarted is h = absurd h

module _ {P Out : Type 0} (related : ℕ → ℕ → P → Out → Type 0) (queue : Queue Out) (table : TableId) (g : Givens) (payloads : List P) (budgets : List ℕ) (i : ℕ) (b : Seated P) (a : Collected P Out) (h : AreCollected related queue table g payloads budgets i b a) (more : i < g.workers) where
  abbrev os : List (Outlet Out)
  os = a.outlets.items

  abbrev es : List End
  es = a.ends.items

  abbrev hs : List (ℕ × ℕ × P)
  hs = a.in_hand.items

  -- a worker whose thread was not started
  pub skips : (z : Collected P Out) → z.outlets.items ≡ os → z.ends.items ≡ es ++ NotStarted ∷ [] → z.in_hand.items ≡ hs → AreCollected related queue table g payloads budgets (suc i) b z
  skips z outlets ends hands = let bare = h.rest (suc i) (omega arith) in record {
    table_is = h.table_is;
    givens = h.givens;
    payloads_are = h.payloads_are;
    size = h.size;
    stand = h.stand;
    belong = subst (All (IsOutletOf queue)) (sym outlets) h.belong;
    fits = λ p. subst (λ l. OutletFits related payloads l p (dones_in (spot_of (spots b) p))) (sym outlets) (h.fits p);
    rest = λ p l. h.rest p (omega arith);
    count = ap (sum_by (λ (o : Outlet Out). o.put_count)) outlets ∙ h.count ∙ (let z = ap length bare.0 in let y : dones_upto (spots b) i ≡ dones_upto (spots b) i + length (dones_in (spot_of (spots b) (suc i))) = omega arith in y);
    ends_are = subst (AreEnds budgets (spots b) (suc i)) (sym ends) (record {
      size = length_push es NotStarted ∙ (let z = h.ends_are.size in let e : length es + 1 ≡ suc i = omega arith in e);
      each = λ k e at. ⊎_elim (λ t. h.ends_are.each k e t.1)
          (λ t. subst (λ (x : End). EndsAs (numbered 0 budgets (k + 1)) (spot_of (spots b) (k + 1)) x) t.1
          (subst (λ n. IsBare (spot_of (spots b) n)) (let z = h.ends_are.size in let w = t.0 in let y : suc i ≡ k + 1 = omega arith in y) bare)) (at_push es NotStarted e k at);
    });
    hands_are = subst (AreInHand payloads (spots b) (suc i)) (sym hands) (record {
      jobs = h.hands_are.jobs ∙ sym (append-nil (hands_upto (spots b) i)) ∙ ap (λ l. hands_upto (spots b) i ++ map (λ j. (suc i, j)) l) (sym bare.1);
      own = h.hands_are.own;
    });
  }

  -- a worker whose thread ran
  module _ (r : Ran P Out) (ran : HasRun related queue table g payloads (suc i) (numbered 0 budgets (suc i)) r) (c : Seated P) (did : HasCollected b r.gone c) where
    abbrev l : LocalView
    l = machine r.gone

    spots_now : spots c ≡ put (spots b) (suc i) (Back l)
    spots_now = did.spots_are ∙ ap (λ n. put (spots b) n (Back l)) (let back : suc i - 1 ≡ i = omega arith in ap suc (ap (λ n. n - 1) ran.filed.number ∙ back))

    here : spot_of (spots c) (suc i) ≡ Back l
    here = ap (λ s. spot_of s (suc i)) spots_now ∙ numbered-put_same Home (Back l) (spots b) (suc i) (omega arith) (let z = h.size in omega arith)

    other : (p : ℕ) → p ≢ suc i → spot_of (spots c) p ≡ spot_of (spots b) p
    other p n = ap (λ s. spot_of s p) spots_now ∙ numbered-put_other Home (Back l) (spots b) (suc i) p n

    below : (p : ℕ) → p ≤ i → spot_of (spots c) p ≡ spot_of (spots b) p
    below p l = other p (λ e. omega arith)

    fits_now : (p : ℕ) → OutletFits related payloads (os ++ r.outlet ∷ []) p (dones_in (spot_of (spots c) p))
    fits_now p = dite (ℕ_discrete p (suc i))
        (λ e. inl (record {
          at = length os;
          outlet = r.outlet;
          there = at_last os r.outlet (length os) refl;
          worker = ran.filed.worker ∙ sym e;
          jobs = ran.filed.jobs ∙ sym (ap (λ n. dones_in (spot_of (spots c) n)) e ∙ ap dones_in here);
          answers = ran.filed.answers;
        }))
        (λ n. ⊎_elim
        (λ t. inl (record { at = t.at; outlet = t.outlet; there = at_longer os (r.outlet ∷ []) t.at t.outlet t.there; worker = t.worker; jobs = t.jobs ∙ ap dones_in (sym (other p n)); answers = t.answers }))
        (λ t. inr (any_both (λ (o : Outlet Out). p == o.worker) os r.outlet t.0 (ne_eqb p r.outlet.worker (λ e. n (e ∙ ran.filed.worker))), ap dones_in (other p n) ∙ t.1))
        (h.fits p))

    filed_count : r.outlet.put_count ≡ length l.state.dones
    filed_count = sym ran.filed.belongs.counted ∙ sym (length-map (given r.outlet) (λ (x : Output Out). x.job)) ∙ ap length ran.filed.jobs

    count_now : sum_by (λ (o : Outlet Out). o.put_count) (os ++ r.outlet ∷ []) ≡ dones_upto (spots c) (suc i)
    count_now = let sum = sum_more (λ (o : Outlet Out). o.put_count) os r.outlet in let b' = h.count in let c' = dones_same (spots b) (spots c) i below in let d = ap (λ s. length (dones_in s)) here in let e = filed_count in omega arith

    abbrev mine : ℕ → ℕ × ℕ
    mine j = (suc i, j)

    hand_now : (x : Option (ℕ × P)) → IsInHand payloads l.state.phase x → map pair_of (hand_of (suc i) x) ≡ map mine (jobs_in_hand l.state.phase)
    hand_now None e = ap (map mine) (sym e)
    hand_now (Some t) e = ap (map mine) (sym e.0)

    hand_own : (x : Option (ℕ × P)) → IsInHand payloads l.state.phase x → All (IsOwn payloads) (hand_of (suc i) x)
    hand_own None e = All-nil (IsOwn payloads)
    hand_own (Some t) e = All-push (IsOwn payloads) [] (suc i, t.0, t.1) (All-nil (IsOwn payloads)) e.1

    pub takes : (z : Collected P Out) → z.outlets.items ≡ os ++ r.outlet ∷ [] → z.ends.items ≡ es ++ r.end ∷ [] → z.in_hand.items ≡ hs ++ hand_of (suc i) r.in_hand → AreCollected related queue table g payloads budgets (suc i) c z
    takes z outlets ends hands = record {
      table_is = did.kept.table ∙ h.table_is;
      givens = did.kept.givens ∙ h.givens;
      payloads_are = did.kept.payloads ∙ h.payloads_are;
      size = ap length spots_now ∙ length-put (Back l) (spots b) (suc i) ∙ h.size;
      stand = subst (λ gg. AllStand gg c.view.seen (spots c)) (did.kept.givens ∙ h.givens) did.stand;
      rest = λ p less. subst IsBare (sym (other p (λ e. omega arith))) (h.rest p (omega arith));
      belong = subst (All (IsOutletOf queue)) (sym outlets) (All-push (IsOutletOf queue) os r.outlet h.belong ran.filed.belongs);
      fits = λ p. subst (λ l. OutletFits related payloads l p (dones_in (spot_of (spots c) p))) (sym outlets) (fits_now p);
      count = ap (sum_by (λ (o : Outlet Out). o.put_count)) outlets ∙ count_now;
      ends_are = subst (AreEnds budgets (spots c) (suc i)) (sym ends) (record {
        size = length_push es r.end ∙ (let z = h.ends_are.size in let e : length es + 1 ≡ suc i = omega arith in e);
        each = λ k e at. ⊎_elim
            (λ t. subst (λ s. EndsAs (numbered 0 budgets (k + 1)) s e) (sym (below (k + 1) (let z = h.ends_are.size in let w = t.0 in omega arith))) (h.ends_are.each k e t.1))
            (λ t. subst (λ (x : End). EndsAs (numbered 0 budgets (k + 1)) (spot_of (spots c) (k + 1)) x) t.1
            (subst (λ n. EndsAs (numbered 0 budgets n) (spot_of (spots c) n) r.end) (let z = h.ends_are.size in let w = t.0 in let y : suc i ≡ k + 1 = omega arith in y)
            (ends_as (numbered 0 budgets (suc i)) (spot_of (spots c) (suc i)) l r.end here ran.ends)))
            (at_push es r.end e k at);
      });
      hands_are = subst (AreInHand payloads (spots c) (suc i)) (sym hands) (record {
        jobs = map_both pair_of hs (hand_of (suc i) r.in_hand)
            ∙ (λ k. (h.hands_are.jobs ∙ sym (hands_same (spots b) (spots c) i below)) k ++ (hand_now r.in_hand ran.hand ∙ ap (λ s. map mine (hand_in s)) (sym here)) k);
        own = All-append (IsOwn payloads) hs (hand_of (suc i) r.in_hand) h.hands_are.own (hand_own r.in_hand ran.hand);
      });
    }

  pub collects_one : (f : Finish P Out) (c : Seated P) (z : Collected P Out) → HasFinished related queue table g payloads (suc i) (numbered 0 budgets (suc i)) f → Collects (suc i) f b a c z → AreCollected related queue table g payloads budgets (suc i) c z
  collects_one (HasRan r) c z ran did = takes r ran c did.0 z did.1 did.2 did.3
  collects_one (WasNotStarted u) c z ran did = subst (λ (x : Seated P). AreCollected related queue table g payloads budgets (suc i) x z) (sym did.0) (skips z did.1 did.2 did.3)

  -- who ran is in the book again, as those who were stay
  pub now_back : (f : Finish P Out) (c : Seated P) (z : Collected P Out) → HasFinished related queue table g payloads (suc i) (numbered 0 budgets (suc i)) f → Collects (suc i) f b a c z → IsBackAs (spots c) (suc i) f
  now_back (HasRan r) c z ran did = here r ran c did.0
  now_back (WasNotStarted u) c z ran did = tt

  pub stays_back : (f : Finish P Out) (c : Seated P) (z : Collected P Out) → HasFinished related queue table g payloads (suc i) (numbered 0 budgets (suc i)) f → Collects (suc i) f b a c z
      → (p : ℕ) → p ≢ suc i → (e : Finish P Out) → IsBackAs (spots b) p e → IsBackAs (spots c) p e
  stays_back f c z ran did p n (WasNotStarted u) back = tt
  stays_back (HasRan r) c z ran did p n (HasRan x) back = other r ran c did.0 p n ∙ back
  stays_back (WasNotStarted u) c z ran did p n (HasRan x) back = ap (λ (y : Seated P). spot_of (spots y) p) did.0 ∙ back
