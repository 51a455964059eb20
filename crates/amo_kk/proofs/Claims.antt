-- The consequences for each run of the object: no job is claimed twice, each performance has its
-- claim, and an end comes late enough.
use Rattle.std.proofs.Common.{◌≡◌, ◌≢◌, ⊎_elim, ℕ, zero, suc, ◌+◌, ◌≤◌, Bool, true, false, not, ◌&&◌, ◌||◌, List, [], ◌∷◌, ◌++◌, length, refl, sym, ap, ◌∙◌, subst, arith, append-nil, append_assoc}
use Rattle.std.specs.Prelude.{if◌then◌else◌, nat_le, ◌==◌}
use Rattle.std.proofs.lemmas.Bool.{cases_eq, true≢false, false_from_ne_true, and_parts, or_right, leb-true, eqb-true}
use Rattle.std.proofs.lemmas.Bool.Decides.{nat_tests}
use Rattle.std.proofs.lemmas.List.{length_push}
use Rattle.amo_sets.specs.Lists.{numbered, put, table}
use Rattle.amo_sets.specs.Sets.{has, AreDistinct, without_number}
use Rattle.amo_params.specs.Givens.{AreGivens, bound, is_within}
use Rattle.amo_kk.specs.Object.{first_object, is_here, has_in_hand, is_step, object_after}
use Rattle.amo_kk.specs.Run.{object_after_all, IsRun, first_bad, IsFirstBad, claimed_jobs, done_jobs, has_claimed}
use Rattle.amo_params.specs.declared.givens.Givens.{Givens}
use Rattle.amo_kk.specs.declared.model.Object.{Object}
use Rattle.amo_kk.specs.declared.event.Event.{Event}
use Rattle.amo_kk.specs.declared.event.Event.TheVariants.{Claimed, Done, Ended, Halted, Left}
use Rattle.amo_sets.proofs.Numbers.{numbered-put_same, numbered-put_other, length-put, length-table, has_push_none, has_push_kept, has_push_cases, distinct_push}
use Rattle.amo_kk.proofs.Kept.{not_both}
use Rattle.amo_sets.proofs.Tables.{numbered-table_same}
use Rattle.amo_sets.proofs.Removed.{has-without_other, has-without_same}

-- one event more

pub claimed-append : (es fs : List Event) → claimed_jobs (es ++ fs) ≡ claimed_jobs es ++ claimed_jobs fs
claimed-append [] fs = refl
claimed-append (Claimed p j ∷ es) fs = ap (λ l. j ∷ l) (claimed-append es fs)
claimed-append (Done p j ∷ es) fs = claimed-append es fs
claimed-append (Ended p ∷ es) fs = claimed-append es fs
claimed-append (Halted p ∷ es) fs = claimed-append es fs
claimed-append (Left p ∷ es) fs = claimed-append es fs

pub done-append : (es fs : List Event) → done_jobs (es ++ fs) ≡ done_jobs es ++ done_jobs fs
done-append [] fs = refl
done-append (Claimed p j ∷ es) fs = done-append es fs
done-append (Done p j ∷ es) fs = ap (λ l. j ∷ l) (done-append es fs)
done-append (Ended p ∷ es) fs = done-append es fs
done-append (Halted p ∷ es) fs = done-append es fs
done-append (Left p ∷ es) fs = done-append es fs

claim-kept : (es fs : List Event) (p j : ℕ) → has_claimed es p j ≡ true → has_claimed (es ++ fs) p j ≡ true
claim-kept [] fs p j h = absurd (true≢false (sym h))
claim-kept (Claimed q i ∷ es) fs p j h = step ((q == p) && (i == j)) (has_claimed es p j) (has_claimed (es ++ fs) p j) (claim-kept es fs p j) h
  where
    step : (a b c : Bool) → (b ≡ true → c ≡ true) → (a || b) ≡ true → (a || c) ≡ true
    step a b c f h = grind arith
claim-kept (Done q i ∷ es) fs p j h = claim-kept es fs p j h
claim-kept (Ended q ∷ es) fs p j h = claim-kept es fs p j h
claim-kept (Halted q ∷ es) fs p j h = claim-kept es fs p j h
claim-kept (Left q ∷ es) fs p j h = claim-kept es fs p j h

claim-new : (es : List Event) (p j : ℕ) → has_claimed (es ++ Claimed p j ∷ []) p j ≡ true
claim-new [] p j = here p j
  where
    here : (p j : ℕ) → (((p == p) && (j == j)) || false) ≡ true
    here p j = grind (arith, nat_tests)
claim-new (Claimed q i ∷ es) p j = or_right _ _ (claim-new es p j)
claim-new (Done q i ∷ es) p j = claim-new es p j
claim-new (Ended q ∷ es) p j = claim-new es p j
claim-new (Halted q ∷ es) p j = claim-new es p j
claim-new (Left q ∷ es) p j = claim-new es p j

-- who has claimed a job has it among the claimed ones
pub claim-claimed : (es : List Event) (p j : ℕ) → has_claimed es p j ≡ true → has (claimed_jobs es) j ≡ true
claim-claimed [] p j h = absurd (true≢false (sym h))
claim-claimed (Claimed q i ∷ es) p j h = step (q == p) (i == j) (has_claimed es p j) (has (claimed_jobs es) j) (claim-claimed es p j) h
  where
    step : (a b c d : Bool) → (c ≡ true → d ≡ true) → ((a && b) || c) ≡ true → (b || d) ≡ true
    step a b c d f h = grind arith
claim-claimed (Done q i ∷ es) p j h = claim-claimed es p j h
claim-claimed (Ended q ∷ es) p j h = claim-claimed es p j h
claim-claimed (Halted q ∷ es) p j h = claim-claimed es p j h
claim-claimed (Left q ∷ es) p j h = claim-claimed es p j h

-- what holds after some events
pub record IsKept (g : Givens) (past : List Event) (s : Object) : Type 0 where
  pub size : length s.in_hand ≡ g.workers
  pub claims : AreDistinct (claimed_jobs past)
  pub dones : AreDistinct (done_jobs past)
  pub apart : (j : ℕ) → has s.unclaimed j ≡ true → has (claimed_jobs past) j ≡ false
  pub held : (p j : ℕ) → 1 ≤ j → numbered 0 s.in_hand p ≡ j → (has_claimed past p j ≡ true) × (has (done_jobs past) j ≡ false)
  pub once : (p q j : ℕ) → 1 ≤ j → numbered 0 s.in_hand p ≡ j → numbered 0 s.in_hand q ≡ j → p ≡ q
  pub claimed : (j : ℕ) → has (done_jobs past) j ≡ true → has (claimed_jobs past) j ≡ true
  pub performed : length s.performed ≡ length (done_jobs past)

-- what a step needs
pub record Needs (g : Givens) (s : Object) (p j : ℕ) : Type 0 where
  pub low : 1 ≤ p
  pub high : p ≤ g.workers
  pub job : 1 ≤ j

pub here_parts : (g : Givens) (s : Object) (p : ℕ) → is_here g s p ≡ true → (1 ≤ p) × (p ≤ g.workers)
here_parts g s p h =
    let a = and_parts (is_within g.workers p) (not (numbered true s.gone p)) h in
    let b = and_parts (nat_le 1 p) (nat_le p g.workers) a.0 in
    (leb-true 1 p b.0, leb-true p g.workers b.1)

pub claim_parts : (g : Givens) (s : Object) (p j : ℕ) → is_step g s (Claimed p j) ≡ true → Needs g s p j × (has s.unclaimed j ≡ true)
claim_parts g s p j h =
    let a = and_parts (is_here g s p) (is_within g.jobs j && (has_in_hand s p 0 && has s.unclaimed j)) h in
    let b = and_parts (is_within g.jobs j) (has_in_hand s p 0 && has s.unclaimed j) a.1 in
    let c = and_parts (nat_le 1 j) (nat_le j g.jobs) b.0 in
    let d = and_parts (has_in_hand s p 0) (has s.unclaimed j) b.1 in
    let e = here_parts g s p a.0 in
    (record { low = e.0; high = e.1; job = leb-true 1 j c.0 }, d.1)

pub done_parts : (g : Givens) (s : Object) (p j : ℕ) → is_step g s (Done p j) ≡ true → Needs g s p j × (numbered 0 s.in_hand p ≡ j)
done_parts g s p j h =
    let a = and_parts (is_here g s p) (is_within g.jobs j && has_in_hand s p j) h in
    let b = and_parts (is_within g.jobs j) (has_in_hand s p j) a.1 in
    let c = and_parts (nat_le 1 j) (nat_le j g.jobs) b.0 in
    let e = here_parts g s p a.0 in
    (record { low = e.0; high = e.1; job = leb-true 1 j c.0 }, eqb-true (numbered 0 s.in_hand p) j b.1)

pub end_parts : (g : Givens) (s : Object) (p : ℕ) → is_step g s (Ended p) ≡ true → g.jobs + 2 ≤ length s.performed + g.beta + g.workers
end_parts g s p h =
    let a = and_parts (is_here g s p) (has_in_hand s p 0 && nat_le (g.jobs + 2) (length s.performed + g.beta + g.workers)) h in
    let b = and_parts (has_in_hand s p 0) (nat_le (g.jobs + 2) (length s.performed + g.beta + g.workers)) a.1 in
    leb-true (g.jobs + 2) (length s.performed + g.beta + g.workers) b.1

kept_claim : (g : Givens) (past : List Event) (s : Object) (p j : ℕ) → IsKept g past s → is_step g s (Claimed p j) ≡ true → IsKept g (past ++ Claimed p j ∷ []) (object_after s (Claimed p j))
kept_claim g past s p j k h =
    record {
      size = length-put j s.in_hand p ∙ k.size;
      claims = subst (λ l. AreDistinct l) (sym c) (distinct_push (claimed_jobs past) j k.claims fresh);
      dones = subst (λ l. AreDistinct l) (sym d) k.dones;
      apart = λ i u.
          let n : j ≢ i = λ e. not_both _ u (subst (λ x. has (without_number j s.unclaimed) x ≡ false) e (has-without_same j s.unclaimed)) in
          ap (λ l. has l i) c ∙ has_push_none (claimed_jobs past) j i n (k.apart i (sym (has-without_other j s.unclaimed i n) ∙ u));
      held = λ q i low e. ⊎_elim
          (λ (same : q ≡ p). let ji : j ≡ i = mine q same i e in
          (subst (λ (x : ℕ × ℕ). has_claimed (past ++ Claimed p j ∷ []) x.0 x.1 ≡ true) (λ v. (sym same v, ji v)) (claim-new past p j), ap (λ l. has l i) d ∙ subst (λ x. has (done_jobs past) x ≡ false) ji not_done))
          (λ n. let was = k.held q i low (sym (others q n) ∙ e) in (claim-kept past (Claimed p j ∷ []) q i was.0, ap (λ l. has l i) d ∙ was.1))
          (cases_eq q p);
      once = λ q r i low e f. ⊎_elim
          (λ (a : q ≡ p). ⊎_elim (λ (b : r ≡ p). a ∙ sym b) (λ n. held_too r n i (mine q a i e) low f) (cases_eq r p))
          (λ n. ⊎_elim (λ (b : r ≡ p). held_too q n i (mine r b i f) low e) (λ m. k.once q r i low (sym (others q n) ∙ e) (sym (others r m) ∙ f)) (cases_eq r p))
          (cases_eq q p);
      claimed = λ i x. ap (λ l. has l i) c ∙ has_push_kept (claimed_jobs past) j i (k.claimed i (ap (λ l. has l i) (sym d) ∙ x));
      performed = k.performed ∙ ap length (sym d);
    }
  where
    c : claimed_jobs (past ++ Claimed p j ∷ []) ≡ claimed_jobs past ++ j ∷ []
    c = claimed-append past (Claimed p j ∷ [])

    d : done_jobs (past ++ Claimed p j ∷ []) ≡ done_jobs past
    d = done-append past (Claimed p j ∷ []) ∙ append-nil (done_jobs past)

    fresh : has (claimed_jobs past) j ≡ false
    fresh = k.apart j (claim_parts g s p j h).1

    not_done : has (done_jobs past) j ≡ false
    not_done = false_from_ne_true _ (λ x. not_both _ (k.claimed j x) fresh)

    low_p : 1 ≤ p
    low_p = (claim_parts g s p j h).0.low

    high_p : p ≤ length s.in_hand
    high_p = let x : p ≤ g.workers = (claim_parts g s p j h).0.high in let y = k.size in omega arith

    mine : (q : ℕ) → q ≡ p → (i : ℕ) → numbered 0 (put s.in_hand p j) q ≡ i → j ≡ i
    mine q same i e = sym (numbered-put_same 0 j s.in_hand p low_p high_p) ∙ ap (λ x. numbered 0 (put s.in_hand p j) x) (sym same) ∙ e

    others : (q : ℕ) → q ≢ p → numbered 0 (put s.in_hand p j) q ≡ numbered 0 s.in_hand q
    others q n = numbered-put_other 0 j s.in_hand p q n

    held_too : {X : Type 0} (r : ℕ) → r ≢ p → (i : ℕ) → j ≡ i → 1 ≤ i → numbered 0 (put s.in_hand p j) r ≡ i → X
    held_too r n i ji low f = not_both _ (claim-claimed past r i (k.held r i low (sym (others r n) ∙ f)).0) (subst (λ x. has (claimed_jobs past) x ≡ false) ji fresh)

kept_done : (g : Givens) (past : List Event) (s : Object) (p j : ℕ) → IsKept g past s → is_step g s (Done p j) ≡ true → IsKept g (past ++ Done p j ∷ []) (object_after s (Done p j))
kept_done g past s p j k h =
    record {
      size = length-put 0 s.in_hand p ∙ k.size;
      claims = subst (λ l. AreDistinct l) (sym c) k.claims;
      dones = subst (λ l. AreDistinct l) (sym d) (distinct_push (done_jobs past) j k.dones was.1);
      apart = λ i u. ap (λ l. has l i) c ∙ k.apart i u;
      held = λ q i low e. ⊎_elim
          (λ (same : q ≡ p). absurd (empty q same i low e))
          (λ n. let before = k.held q i low (sym (others q n) ∙ e) in
          (claim-kept past (Done p j ∷ []) q i before.0, ap (λ l. has l i) d ∙ has_push_none (done_jobs past) j i (λ (ji : j ≡ i). n (k.once q p i low (sym (others q n) ∙ e) (held_p ∙ ji))) before.1))
          (cases_eq q p);
      once = λ q r i low e f. ⊎_elim
          (λ (a : q ≡ p). absurd (empty q a i low e))
          (λ n. ⊎_elim (λ (b : r ≡ p). absurd (empty r b i low f)) (λ m. k.once q r i low (sym (others q n) ∙ e) (sym (others r m) ∙ f)) (cases_eq r p))
          (cases_eq q p);
      claimed = λ i x. ap (λ l. has l i) c ∙ ⊎_elim (λ t. k.claimed i t) (λ (ji : j ≡ i). subst (λ y. has (claimed_jobs past) y ≡ true) ji (claim-claimed past p j was.0)) (has_push_cases (done_jobs past) j i (ap (λ l. has l i) (sym d) ∙ x));
      performed = length_push s.performed (p, j) ∙ ap (λ n. n + 1) k.performed ∙ sym (length_push (done_jobs past) j) ∙ ap length (sym d);
    }
  where
    c : claimed_jobs (past ++ Done p j ∷ []) ≡ claimed_jobs past
    c = claimed-append past (Done p j ∷ []) ∙ append-nil (claimed_jobs past)

    d : done_jobs (past ++ Done p j ∷ []) ≡ done_jobs past ++ j ∷ []
    d = done-append past (Done p j ∷ [])

    low_p : 1 ≤ p
    low_p = (done_parts g s p j h).0.low

    high_p : p ≤ length s.in_hand
    high_p = let x : p ≤ g.workers = (done_parts g s p j h).0.high in let y = k.size in omega arith

    low_j : 1 ≤ j
    low_j = (done_parts g s p j h).0.job

    held_p : numbered 0 s.in_hand p ≡ j
    held_p = (done_parts g s p j h).1

    was : (has_claimed past p j ≡ true) × (has (done_jobs past) j ≡ false)
    was = k.held p j low_j held_p

    others : (q : ℕ) → q ≢ p → numbered 0 (put s.in_hand p 0) q ≡ numbered 0 s.in_hand q
    others q n = numbered-put_other 0 0 s.in_hand p q n

    empty : (q : ℕ) → q ≡ p → (i : ℕ) → 1 ≤ i → numbered 0 (put s.in_hand p 0) q ≡ i → ⊥
    empty q same i low e = let z : 0 ≡ i = sym (numbered-put_same 0 0 s.in_hand p low_p high_p) ∙ ap (λ x. numbered 0 (put s.in_hand p 0) x) (sym same) ∙ e in omega arith

-- an event that neither claims nor performs
kept_leave : (g : Givens) (past : List Event) (s : Object) (e : Event) (gone : List Bool) → claimed_jobs (e ∷ []) ≡ [] → done_jobs (e ∷ []) ≡ [] → IsKept g past s → IsKept g (past ++ e ∷ []) (record s { gone = gone })
kept_leave g past s e gone no_claim no_done k =
    record {
      size = k.size;
      claims = subst (λ l. AreDistinct l) (sym c) k.claims;
      dones = subst (λ l. AreDistinct l) (sym d) k.dones;
      apart = λ i u. ap (λ l. has l i) c ∙ k.apart i u;
      held = λ q i low h. let was = k.held q i low h in (claim-kept past (e ∷ []) q i was.0, ap (λ l. has l i) d ∙ was.1);
      once = k.once;
      claimed = λ i x. ap (λ l. has l i) c ∙ k.claimed i (ap (λ l. has l i) (sym d) ∙ x);
      performed = k.performed ∙ ap length (sym d);
    }
  where
    c : claimed_jobs (past ++ e ∷ []) ≡ claimed_jobs past
    c = claimed-append past (e ∷ []) ∙ ap (λ l. claimed_jobs past ++ l) no_claim ∙ append-nil (claimed_jobs past)

    d : done_jobs (past ++ e ∷ []) ≡ done_jobs past
    d = done-append past (e ∷ []) ∙ ap (λ l. done_jobs past ++ l) no_done ∙ append-nil (done_jobs past)

pub kept_step : (g : Givens) (past : List Event) (s : Object) (e : Event) → IsKept g past s → is_step g s e ≡ true → IsKept g (past ++ e ∷ []) (object_after s e)
kept_step g past s (Claimed p j) k h = kept_claim g past s p j k h
kept_step g past s (Done p j) k h = kept_done g past s p j k h
kept_step g past s (Ended p) k h = kept_leave g past s (Ended p) (put s.gone p true) refl refl k
kept_step g past s (Halted p) k h = kept_leave g past s (Halted p) (put s.gone p true) refl refl k
kept_step g past s (Left p) k h = kept_leave g past s (Left p) (put s.gone p true) refl refl k

kept_run : (g : Givens) (past es : List Event) (s : Object) → IsKept g past s → IsRun g s es → IsKept g (past ++ es) (object_after_all s es)
kept_run g past [] s k h = subst (λ l. IsKept g l s) (sym (append-nil past)) k
kept_run g past (e ∷ es) s k h = subst (λ l. IsKept g l (object_after_all (object_after s e) es)) (append_assoc past (e ∷ []) es) (kept_run g (past ++ e ∷ []) es (object_after s e) (kept_step g past s e k h.0) h.1)

pub whole_kept : (g : Givens) → IsKept g [] (first_object g)
whole_kept g =
    record {
      size = length-table (λ _. 0) g.workers;
      claims = tt;
      dones = tt;
      apart = λ j h. refl;
      held = λ p j low h. absurd (let z : numbered {X = ℕ} 0 (table g.workers (λ _. 0)) p ≡ 0 = numbered-table_same 0 g.workers p in omega arith);
      once = λ p q j low h f. absurd (let z : numbered {X = ℕ} 0 (table g.workers (λ _. 0)) p ≡ 0 = numbered-table_same 0 g.workers p in omega arith);
      claimed = λ j h. h;
      performed = refl;
    }

kept : (g : Givens) (es : List Event) → IsRun g (first_object g) es → IsKept g es (object_after_all (first_object g) es)
kept g es h = kept_run g [] es (first_object g) (whole_kept g) h

-- a run up to an event is a run, which allows the event
pub run_to : (g : Givens) (s : Object) (es fs : List Event) (e : Event) → IsRun g s (es ++ e ∷ fs) → IsRun g s es × (is_step g (object_after_all s es) e ≡ true)
run_to g s [] fs e h = (tt, h.0)
run_to g s (x ∷ es) fs e h = let rest = run_to g (object_after s x) es fs e h.1 in ((h.0, rest.0), rest.1)

pub claims_distinct : (g : Givens) (es : List Event) → IsRun g (first_object g) es → AreDistinct (claimed_jobs es)
claims_distinct g es h = (kept g es h).claims

pub dones_distinct : (g : Givens) (es : List Event) → IsRun g (first_object g) es → AreDistinct (done_jobs es)
dones_distinct g es h = (kept g es h).dones

pub done_has_claim : (g : Givens) (es fs : List Event) (p j : ℕ) → IsRun g (first_object g) (es ++ Done p j ∷ fs) → has_claimed es p j ≡ true
done_has_claim g es fs p j h =
    let cut = run_to g (first_object g) es fs (Done p j) h in
    let parts = done_parts g (object_after_all (first_object g) es) p j cut.1 in
    ((kept g es cut.0).held p j parts.0.job parts.1).0

pub end_is_late : (g : Givens) (es fs : List Event) (p : ℕ) → AreGivens g → IsRun g (first_object g) (es ++ Ended p ∷ fs) → bound g ≤ length (done_jobs es)
end_is_late g es fs p ok h =
    let cut = run_to g (first_object g) es fs (Ended p) h in
    let many : g.jobs + 2 ≤ length (object_after_all (first_object g) es).performed + g.beta + g.workers = end_parts g (object_after_all (first_object g) es) p cut.1 in
    let same : length (object_after_all (first_object g) es).performed ≡ length (done_jobs es) = (kept g es cut.0).performed in
    let some = ok.some in
    let low = ok.beta_low in
    omega arith

-- the first bad event
pub first_bad_run : (g : Givens) (s : Object) (es : List Event) → first_bad g s es ≡ 0 → IsRun g s es
first_bad_run g s [] h = tt
first_bad_run g s (e ∷ es) h = go (is_step g s e) (first_bad g (object_after s e) es) refl (first_bad_run g (object_after s e) es) h
  where
    go : (b : Bool) (n : ℕ) → is_step g s e ≡ b → (n ≡ 0 → IsRun g (object_after s e) es) → (if b then (if n == 0 then 0 else suc n) else 1) ≡ 0 → (is_step g s e ≡ true) × IsRun g (object_after s e) es
    go true zero is f h = (is, f refl)
    go true (suc n) is f h = absurd (bad n h)
      where
        bad : (n : ℕ) → (if suc n == 0 then 0 else suc (suc n)) ≡ 0 → ⊥
        bad n h = grind (arith, nat_tests)
    go false n is f h = absurd (omega arith)

pub run_first_bad : (g : Givens) (s : Object) (es : List Event) → IsRun g s es → first_bad g s es ≡ 0
run_first_bad g s [] h = refl
run_first_bad g s (e ∷ es) h = go (is_step g s e) (first_bad g (object_after s e) es) h.0 (run_first_bad g (object_after s e) es h.1)
  where
    go : (b : Bool) (n : ℕ) → b ≡ true → n ≡ 0 → (if b then (if n == 0 then 0 else suc n) else 1) ≡ 0
    go b n x y = grind (arith, nat_tests)

pub first_bad_is : (g : Givens) (s : Object) (es : List Event) (i : ℕ) → first_bad g s es ≡ suc i → IsFirstBad g s es (suc i)
first_bad_is g s [] i h = absurd (omega arith)
first_bad_is g s (e ∷ es) i h = go (is_step g s e) (first_bad g (object_after s e) es) refl (first_bad_is g (object_after s e) es) h
  where
    value : (m : ℕ) → (if suc m == 0 then 0 else suc (suc m)) ≡ suc (suc m)
    value m = grind (arith, nat_tests)

    go : (b : Bool) (n : ℕ) → is_step g s e ≡ b → ((k : ℕ) → n ≡ suc k → IsFirstBad g (object_after s e) es (suc k)) → (if b then (if n == 0 then 0 else suc n) else 1) ≡ suc i → IsFirstBad g s (e ∷ es) (suc i)
    go true zero is f h = absurd (omega arith)
    go true (suc m) is f h =
        let r = f m refl in
        let two : suc (suc m) ≡ suc i = sym (value m) ∙ h in
        let placed = r.place in
        record { before = e ∷ r.before; bad = r.bad; rest = r.rest; parts = ap (λ l. e ∷ l) r.parts; place = omega arith; run = (is, r.run); refused = r.refused }
    go false n is f h = record { before = []; bad = e; rest = es; parts = refl; place = h; run = tt; refused = is }
