-- The steps of the sequential object that agree with what workers do.
use Rattle.std.proofs.Common.{◌≡◌, ◌≢◌, ⊎_elim, ℕ, ◌+◌, ◌<◌, ◌≤◌, Bool, true, false, not, ◌||◌, List, [], ◌∷◌, ◌++◌, length, refl, sym, ap, ◌∙◌, subst, arith, map}
use Rattle.std.specs.Prelude.{if◌then◌else◌, ◌==◌, nat_eq}
use Rattle.std.proofs.lemmas.Bool.{cases_eq, cases_Bool, true≢false, and_from, or_right, le-leb, eq-eqb, ne_eqb}
use Rattle.std.proofs.lemmas.List.{length-map}
use Rattle.amo_sets.specs.Lists.{numbered, put}
use Rattle.amo_sets.specs.Sets.{has, without_number}
use Rattle.amo_sets.specs.Rank.{count}
use Rattle.amo_params.specs.Givens.{IsJob, IsWorker, is_within}
use Rattle.amo_kk.specs.Object.{is_here, is_step, object_after}
use Rattle.amo_kk.specs.Record.{is_open, job_in_hand}
use Rattle.amo_kk.specs.Lawful.{jobs_of, Agrees}
use Rattle.amo_params.specs.declared.givens.Givens.{Givens}
use Rattle.amo_kk.specs.declared.model.Record.{Record}
use Rattle.amo_kk.specs.declared.model.Process.{Process}
use Rattle.amo_kk.specs.declared.model.Object.{Object}
use Rattle.amo_kk.specs.declared.event.Event.TheVariants.{Claimed, Done}
use Rattle.amo_sets.proofs.Removed.{has-without_same, has-without_other}
use Rattle.amo_sets.proofs.Numbers.{numbered-put_same, numbered-put_other, length-put, has_push, has_push_kept, has_push_none, count_le, count_has, count_neither}

-- the jobs of a worker

pub jobs_of-push : (xs : List (ℕ × ℕ)) (p j q : ℕ) → jobs_of (xs ++ (p, j) ∷ []) q ≡ (if nat_eq p q then jobs_of xs q ++ j ∷ [] else jobs_of xs q)
jobs_of-push [] p j q = go (nat_eq p q)
  where
    go : (b : Bool) → (if b then j ∷ [] else []) ≡ (if b then [] ++ j ∷ [] else [])
    go true = refl
    go false = refl
jobs_of-push (x ∷ xs) p j q = go (nat_eq x.0 q) (nat_eq p q) (jobs_of-push xs p j q)
  where
    go : (a b : Bool) → jobs_of (xs ++ (p, j) ∷ []) q ≡ (if b then jobs_of xs q ++ j ∷ [] else jobs_of xs q)
        → (if a then x.1 ∷ jobs_of (xs ++ (p, j) ∷ []) q else jobs_of (xs ++ (p, j) ∷ []) q) ≡ (if b then (if a then x.1 ∷ jobs_of xs q else jobs_of xs q) ++ j ∷ [] else (if a then x.1 ∷ jobs_of xs q else jobs_of xs q))
    go true true h = ap (λ l. x.1 ∷ l) h
    go true false h = ap (λ l. x.1 ∷ l) h
    go false true h = h
    go false false h = h

-- the jobs of all pairs
abbrev pub all_jobs : List (ℕ × ℕ) → List ℕ
all_jobs xs = map (λ (x : ℕ × ℕ). x.1) xs

pub has_all : (xs : List (ℕ × ℕ)) (q j : ℕ) → has (jobs_of xs q) j ≡ true → has (all_jobs xs) j ≡ true
has_all [] q j h = h
has_all (x ∷ xs) q j h = go (nat_eq x.0 q) (has_all xs q j) h
  where
    both : (a b c : Bool) → (b ≡ true → c ≡ true) → (a || b) ≡ true → (a || c) ≡ true
    both a b c f h = grind arith

    go : (b : Bool) → (has (jobs_of xs q) j ≡ true → has (all_jobs xs) j ≡ true) → has (if b then x.1 ∷ jobs_of xs q else jobs_of xs q) j ≡ true → ((x.1 == j) || has (all_jobs xs) j) ≡ true
    go true rest h = both (x.1 == j) (has (jobs_of xs q) j) (has (all_jobs xs) j) rest h
    go false rest h = or_right (x.1 == j) (has (all_jobs xs) j) (rest h)

-- Enough jobs are in a list of all that are known, where few are open.
pub enough_known : (g : Givens) (r : Record) (jobs : List ℕ) → 1 ≤ g.workers → count g.jobs (is_open r) < g.beta → length r.tried < g.workers
    → ((j : ℕ) → has r.known j ≡ true → has jobs j ≡ true)
    → g.jobs + 2 ≤ length jobs + g.beta + g.workers
enough_known g r jobs some few tried known =
    let all = count_neither (has r.known) (has r.tried) g.jobs in
    let seen = count_has r.tried g.jobs in
    let done = count_le (has r.known) (has jobs) known g.jobs in
    let size = count_has jobs g.jobs in
    omega arith

-- so enough jobs were performed
pub enough : (g : Givens) (r : Record) (performed : List (ℕ × ℕ)) → 1 ≤ g.workers → count g.jobs (is_open r) < g.beta → length r.tried < g.workers
    → ((j : ℕ) → has r.known j ≡ true → (q : ℕ) × (has (jobs_of performed q) j ≡ true))
    → g.jobs + 2 ≤ length performed + g.beta + g.workers
enough g r performed some few tried known =
    let many = enough_known g r (all_jobs performed) some few tried (λ j h. let k = known j h in has_all performed k.0 j k.1) in
    let same : length (all_jobs performed) ≡ length performed = length-map performed (λ (x : ℕ × ℕ). x.1) in
    omega arith

-- whether a worker is here, and holds a job
within_is : (n k : ℕ) → 1 ≤ k → k ≤ n → is_within n k ≡ true
within_is n k l h = and_from _ _ (le-leb 1 k l) (le-leb k n h)

here_is : (g : Givens) (s : Object) (p : ℕ) → IsWorker g p → numbered true s.gone p ≡ false → is_here g s p ≡ true
here_is g s p o h = and_from _ _ (within_is g.workers p o.low o.high) (ap not h)

-- p becomes the process a
module _ (g : Givens) (at : ℕ → Process) (p : ℕ) (o : IsWorker g p) (a : Process) (now : ℕ → Process) (is_now : now p ≡ a) (others : (q : ℕ) → q ≢ p → now q ≡ at q) where
  -- what holds of the new process at p and of the old ones elsewhere
  pub each : (P : ℕ → Process → Type 0) → P p a → ((q : ℕ) → q ≢ p → P q (at q)) → (q : ℕ) → P q (now q)
  each P mine theirs q = ⊎_elim (λ (e : q ≡ p). subst (λ x. P x (now x)) (sym e) (subst (λ x. P p x) (sym is_now) mine)) (λ n. subst (λ x. P q x) (sym (others q n)) (theirs q n)) (cases_eq q p)

  -- if it has claimed what p had, the same jobs are unclaimed
  unclaimed_as_before : a.local.claimed ≡ (at p).local.claimed → (i : ℕ) → ((q : ℕ) → IsWorker g q → has (now q).local.claimed i ≡ false) → (q : ℕ) → IsWorker g q → has (at q).local.claimed i ≡ false
  unclaimed_as_before claims i all q w = ⊎_elim
      (λ (e : q ≡ p). subst (λ x. has (at x).local.claimed i ≡ false) (sym e) (sym (ap (λ (x : Process). has x.local.claimed i) is_now ∙ ap (λ l. has l i) claims) ∙ all p o))
      (λ m. sym (ap (λ (x : Process). has x.local.claimed i) (others q m)) ∙ all q w)
      (cases_eq q p)

  unclaimed_now : a.local.claimed ≡ (at p).local.claimed → (i : ℕ) → ((q : ℕ) → IsWorker g q → has (at q).local.claimed i ≡ false) → (q : ℕ) → IsWorker g q → has (now q).local.claimed i ≡ false
  unclaimed_now claims i was = each (λ q x. IsWorker g q → has x.local.claimed i ≡ false) (λ w. ap (λ l. has l i) claims ∙ was p w) (λ q m w. was q w)

  -- the same workers, but for who is gone
  pub agrees_but_gone : (s : Object) → Agrees g at s → a.local.claimed ≡ (at p).local.claimed → a.local.dones ≡ (at p).local.dones → job_in_hand a.local.phase ≡ job_in_hand (at p).local.phase
      → (gone : List Bool) → length gone ≡ g.workers → ((q : ℕ) → IsWorker g q → numbered true gone q ≡ (now q).gone) → Agrees g now (record s { gone = gone })
  agrees_but_gone s agrees claims dones held gone size is =
      record {
        unclaimed = λ i is_job all. agrees.unclaimed i is_job (unclaimed_as_before claims i all);
        only_unclaimed = λ i h. let was = agrees.only_unclaimed i h in (was.0, unclaimed_now claims i was.1);
        in_hand_size = agrees.in_hand_size;
        in_hand = each (λ q x. IsWorker g q → numbered 0 s.in_hand q ≡ job_in_hand x.local.phase) (λ w. agrees.in_hand p w ∙ sym held) (λ q m w. agrees.in_hand q w);
        performed = each (λ q x. jobs_of s.performed q ≡ x.local.dones) (agrees.performed p ∙ sym dones) (λ q m. agrees.performed q);
        gone_size = size;
        gone = is;
      }

  -- p is gone now, or isn't
  pub agrees_put_gone : (s : Object) → Agrees g at s → a.local.claimed ≡ (at p).local.claimed → a.local.dones ≡ (at p).local.dones → job_in_hand a.local.phase ≡ job_in_hand (at p).local.phase
      → (b : Bool) → a.gone ≡ b → Agrees g now (record s { gone = put s.gone p b })
  agrees_put_gone s agrees claims dones held b leaves =
      agrees_but_gone s agrees claims dones held (put s.gone p b) (length-put b s.gone p ∙ agrees.gone_size)
      (each (λ q x. IsWorker g q → numbered true (put s.gone p b) q ≡ x.gone)
      (λ w. numbered-put_same true b s.gone p o.low (let l = agrees.gone_size in let h = o.high in omega arith) ∙ sym leaves)
      (λ q m w. numbered-put_other true b s.gone p q m ∙ agrees.gone q w))

module _ (g : Givens) (at : ℕ → Process) (s : Object) (agrees : Agrees g at s) (p : ℕ) (o : IsWorker g p) (here : (at p).gone ≡ false) (a : Process) (now : ℕ → Process) (is_now : now p ≡ a) (others : (q : ℕ) → q ≢ p → now q ≡ at q) where
  elsewhere : (P : ℕ → Process → Type 0) → P p a → ((q : ℕ) → q ≢ p → P q (at q)) → (q : ℕ) → P q (now q)
  elsewhere = each g at p o a now is_now others

  pub is_here_now : is_here g s p ≡ true
  is_here_now = here_is g s p o (agrees.gone p o ∙ here)

  pub agrees_claim : (j : ℕ) → IsJob g j → ((q : ℕ) → IsWorker g q → has (at q).local.claimed j ≡ false) → job_in_hand (at p).local.phase ≡ 0
      → a.local.claimed ≡ (at p).local.claimed ++ j ∷ [] → a.local.dones ≡ (at p).local.dones → job_in_hand a.local.phase ≡ j → a.gone ≡ false
      → (is_step g s (Claimed p j) ≡ true) × Agrees g now (object_after s (Claimed p j))
  agrees_claim j job free empty claims dones holds_it stays = (
    and_from _ _ is_here_now (and_from _ _ (within_is g.jobs j job.low job.high) (and_from _ _ (eq-eqb _ _ (agrees.in_hand p o ∙ empty)) (agrees.unclaimed j job free))),
    record {
      unclaimed = λ i is_job all.
          let mine : has ((at p).local.claimed ++ j ∷ []) i ≡ false = sym (ap (λ (x : Process). has x.local.claimed i) is_now ∙ ap (λ l. has l i) claims) ∙ all p o in
          let n : j ≢ i = λ e. true≢false (sym (subst (λ x. has ((at p).local.claimed ++ j ∷ []) x ≡ true) e (has_push (at p).local.claimed j)) ∙ mine) in
          has-without_other j s.unclaimed i n ∙ agrees.unclaimed i is_job (λ q w. ⊎_elim
          (λ (e : q ≡ p). subst (λ x. has (at x).local.claimed i ≡ false) (sym e) (⊎_elim (λ t. absurd (true≢false (sym (has_push_kept (at p).local.claimed j i t) ∙ mine))) (λ f. f) (cases_Bool (has (at p).local.claimed i))))
          (λ m. sym (ap (λ (x : Process). has x.local.claimed i) (others q m)) ∙ all q w)
          (cases_eq q p));
      only_unclaimed = λ i h.
          let n : j ≢ i = λ e. true≢false (sym h ∙ subst (λ x. has (without_number j s.unclaimed) x ≡ false) e (has-without_same j s.unclaimed)) in
          let was = agrees.only_unclaimed i (sym (has-without_other j s.unclaimed i n) ∙ h) in
          (was.0, elsewhere (λ q x. IsWorker g q → has x.local.claimed i ≡ false) (λ w. ap (λ l. has l i) claims ∙ has_push_none (at p).local.claimed j i n (was.1 p w)) (λ q m w. was.1 q w));
      in_hand_size = length-put j s.in_hand p ∙ agrees.in_hand_size;
      in_hand = elsewhere (λ q x. IsWorker g q → numbered 0 (put s.in_hand p j) q ≡ job_in_hand x.local.phase)
          (λ w. numbered-put_same 0 j s.in_hand p o.low (let l = agrees.in_hand_size in let h = o.high in omega arith) ∙ sym holds_it)
          (λ q m w. numbered-put_other 0 j s.in_hand p q m ∙ agrees.in_hand q w);
      performed = elsewhere (λ q x. jobs_of s.performed q ≡ x.local.dones) (agrees.performed p ∙ sym dones) (λ q m. agrees.performed q);
      gone_size = agrees.gone_size;
      gone = elsewhere (λ q x. IsWorker g q → numbered true s.gone q ≡ x.gone) (λ w. agrees.gone p w ∙ here ∙ sym stays) (λ q m w. agrees.gone q w);
    },
  )

  pub agrees_done : (j : ℕ) → IsJob g j → job_in_hand (at p).local.phase ≡ j
      → a.local.claimed ≡ (at p).local.claimed → a.local.dones ≡ (at p).local.dones ++ j ∷ [] → job_in_hand a.local.phase ≡ 0 → a.gone ≡ false
      → (is_step g s (Done p j) ≡ true) × Agrees g now (object_after s (Done p j))
  agrees_done j job held claims dones empty stays = (
    and_from _ _ is_here_now (and_from _ _ (within_is g.jobs j job.low job.high) (eq-eqb _ _ (agrees.in_hand p o ∙ held))),
    record {
      unclaimed = λ i is_job all. agrees.unclaimed i is_job (unclaimed_as_before g at p o a now is_now others claims i all);
      only_unclaimed = λ i h. let was = agrees.only_unclaimed i h in (was.0, unclaimed_now g at p o a now is_now others claims i was.1);
      in_hand_size = length-put 0 s.in_hand p ∙ agrees.in_hand_size;
      in_hand = elsewhere (λ q x. IsWorker g q → numbered 0 (put s.in_hand p 0) q ≡ job_in_hand x.local.phase)
          (λ w. numbered-put_same 0 0 s.in_hand p o.low (let l = agrees.in_hand_size in let h = o.high in omega arith) ∙ sym empty)
          (λ q m w. numbered-put_other 0 0 s.in_hand p q m ∙ agrees.in_hand q w);
      performed = elsewhere (λ q x. jobs_of (s.performed ++ (p, j) ∷ []) q ≡ x.local.dones)
          (jobs_of-push s.performed p j p ∙ ap (λ b. if b then jobs_of s.performed p ++ j ∷ [] else jobs_of s.performed p) (eq-eqb p p refl) ∙ ap (λ l. l ++ j ∷ []) (agrees.performed p) ∙ sym dones)
          (λ q m. jobs_of-push s.performed p j q ∙ ap (λ b. if b then jobs_of s.performed q ++ j ∷ [] else jobs_of s.performed q) (ne_eqb p q (λ e. m (sym e))) ∙ agrees.performed q);
      gone_size = agrees.gone_size;
      gone = elsewhere (λ q x. IsWorker g q → numbered true s.gone q ≡ x.gone) (λ w. agrees.gone p w ∙ here ∙ sym stays) (λ q m w. agrees.gone q w);
    },
  )

  -- p is gone now
  pub agrees_gone : a.local.claimed ≡ (at p).local.claimed → a.local.dones ≡ (at p).local.dones → job_in_hand a.local.phase ≡ job_in_hand (at p).local.phase → a.gone ≡ true
      → Agrees g now (record s { gone = put s.gone p true })
  agrees_gone claims dones held leaves = agrees_put_gone g at p o a now is_now others s agrees claims dones held true leaves

  -- the same workers are gone
  pub agrees_same : a.local.claimed ≡ (at p).local.claimed → a.local.dones ≡ (at p).local.dones → job_in_hand a.local.phase ≡ job_in_hand (at p).local.phase → a.gone ≡ (at p).gone
      → Agrees g now s
  agrees_same claims dones held stays =
      agrees_but_gone g at p o a now is_now others s agrees claims dones held s.gone agrees.gone_size
      (elsewhere (λ q x. IsWorker g q → numbered true s.gone q ≡ x.gone) (λ w. agrees.gone p w ∙ sym stays) (λ q m w. agrees.gone q w))
