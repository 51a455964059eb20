-- Sums over all workers, and the entries of their rows: together they are at most the jobs.
use Rattle.std.proofs.Common.{◌≡◌, ◌≢◌, ⊎_elim, ℕ, zero, suc, ◌+◌, ◌-◌, ◌<◌, ◌≤◌, Bool, true, false, ◌||◌, List, [], ◌∷◌, ◌++◌, length, sym, ap, ◌∙◌, subst, arith}
use Rattle.std.specs.Prelude.{if◌then◌else◌, ◌==◌}
use Rattle.std.proofs.lemmas.Bool.{cases_eq, true≢false, false_from_ne_true, or_cases, or_left, ne_eqb}
use Rattle.amo_sets.specs.Lists.{numbered, put}
use Rattle.amo_sets.specs.Sets.{has, AreDistinct}
use Rattle.amo_sets.specs.Rank.{count}
use Rattle.amo_params.specs.Givens.{IsWorker, IsOther}
use Rattle.amo_kk.specs.Record.{jobs_in_hand}
use Rattle.amo_kk.specs.World.{process}
use Rattle.amo_kk.specs.Lawful.{IsLawful}
use Rattle.amo_params.specs.declared.givens.Givens.{Givens}
use Rattle.amo_kk.specs.declared.model.Record.{Record}
use Rattle.amo_kk.specs.declared.model.Process.{Process}
use Rattle.amo_kk.specs.declared.model.World.{World}
use Rattle.amo_sets.proofs.Numbers.{numbered-put_same, numbered-put_other, has-append, count_apart, length_distinct, count_le_all}

-- the sum of f over 1..n
abbrev pub total : ℕ → (ℕ → ℕ) → ℕ
total zero f = 0
total (suc n) f = total n f + f (suc n)

total_le : (n : ℕ) (f h : ℕ → ℕ) → ((q : ℕ) → 1 ≤ q → q ≤ n → f q ≤ h q) → total n f ≤ total n h
total_le zero f h l = omega arith
total_le (suc n) f h l = let here = l (suc n) (omega arith) (omega arith) in let rest = total_le n f h (λ q a b. l q a (omega arith)) in omega arith

total_less : (n q : ℕ) (f h : ℕ → ℕ) → 1 ≤ q → q ≤ n → f q < h q → ((i : ℕ) → i ≢ q → f i ≤ h i) → total n f < total n h
total_less zero q f h a b l rest = absurd (omega arith)
total_less (suc n) q f h a b l rest = ⊎_elim
    (λ (e : q ≡ suc n). let here : f (suc n) < h (suc n) = subst (λ x. f x < h x) e l in let all = total_le n f h (λ i c d. rest i (λ x. omega arith)) in omega arith)
    (λ m. let below = total_less n q f h a (omega arith) l rest in let here = rest (suc n) (λ x. m (sym x)) in omega arith)
    (cases_eq q (suc n))

pub front_distinct : (xs ys : List ℕ) → AreDistinct (xs ++ ys) → AreDistinct xs
front_distinct [] ys d = tt
front_distinct (x ∷ xs) ys d = (false_from_ne_true (has xs x) (λ t. true≢false (sym (has-append xs ys x ∙ or_left (has xs x) (has ys x) t) ∙ d.0)), front_distinct xs ys d.1)

-- one of the workers 1..k has done j
abbrev pub someone : (ℕ → Process) → ℕ → ℕ → Bool
someone at zero j = false
someone at (suc k) j = someone at k j || has (at (suc k)).local.dones j

module _ (g : Givens) (w : World) (law : IsLawful g w) where
  claimed_too : (q j : ℕ) → IsWorker g q → has (process w q).local.dones j ≡ true → has (process w q).local.claimed j ≡ true
  claimed_too q j o h = ap (λ l. has l j) (law.lawful.sound q o).local.claims ∙ has-append (process w q).local.dones (jobs_in_hand (process w q).local.phase) j ∙ or_left _ _ h

  who : (k j : ℕ) → someone (process w) k j ≡ true → (q : ℕ) × (1 ≤ q) × (q ≤ k) × (has (process w q).local.dones j ≡ true)
  who zero j h = absurd (true≢false (sym h))
  who (suc k) j h = ⊎_elim
      (λ t. let r = who k j t in (r.0, r.1, omega arith, r.3))
      (λ t. (suc k, omega arith, omega arith, t))
      (or_cases (someone (process w) k j) (has (process w (suc k)).local.dones j) h)

  -- the rows of the first k workers have at most as many entries as there are jobs that one of these has done
  pub rows_fit : (k : ℕ) → k ≤ g.workers → total k (λ q. length (process w q).local.dones) ≤ count g.jobs (someone (process w) k)
  rows_fit zero h = omega arith
  rows_fit (suc k) h =
      let below = rows_fit k (omega arith) in
      let o : IsWorker g (suc k) = record { low = omega arith; high = h } in
      let s = law.lawful.sound (suc k) o in
      let last = length_distinct (process w (suc k)).local.dones g.jobs (front_distinct (process w (suc k)).local.dones (jobs_in_hand (process w (suc k)).local.phase) (subst (λ l. AreDistinct l) s.local.claims s.local.distinct))
      (λ j m. let job = s.local.jobs j (claimed_too (suc k) j o m) in (job.low, job.high)) in
      let both = count_apart (someone (process w) k) (has (process w (suc k)).local.dones) g.jobs
      (λ j t. let r = who k j t in
      let other : IsWorker g r.0 = record { low = r.1; high = let l = r.2 in omega arith } in
      false_from_ne_true _ (λ m. true≢false (sym (claimed_too (suc k) j o m) ∙ (law.lawful.apart r.0 (suc k) other (record { worker = o; differs = λ e. let l = r.2 in omega arith })).claims j (claimed_too r.0 j other r.3)))) in
      omega arith

module _ (g : Givens) (p : ℕ) (at : ℕ → Process) where
  -- the entries of the others' rows, `at q` being worker q, that r has not read
  abbrev pub unread : Record → ℕ
  unread r = total g.workers (λ q. if q == p then 0 else length (at q).local.dones - numbered 0 r.fronts q)

  -- one entry read
  pub unread_less : (r : Record) (q : ℕ) (known : List ℕ) → IsOther g p q → length r.fronts ≡ g.workers → numbered 0 r.fronts q < length (at q).local.dones
      → unread (record r { known = known; fronts = put r.fronts q (numbered 0 r.fronts q + 1) }) < unread r
  unread_less r q known other size below =
      total_less g.workers q
      (λ i. if i == p then 0 else length (at i).local.dones - numbered 0 after i)
      (λ i. if i == p then 0 else length (at i).local.dones - numbered 0 r.fronts i)
      other.worker.low other.worker.high here there
    where
      after : List ℕ
      after = put r.fronts q (numbered 0 r.fronts q + 1)

      here_is : numbered 0 after q ≡ numbered 0 r.fronts q + 1
      here_is = numbered-put_same 0 (numbered 0 r.fronts q + 1) r.fronts q other.worker.low (let h = other.worker.high in omega arith)

      here : (if q == p then 0 else length (at q).local.dones - numbered 0 after q) < (if q == p then 0 else length (at q).local.dones - numbered 0 r.fronts q)
      here = subst (λ b. (if b then 0 else length (at q).local.dones - numbered 0 after q) < (if b then 0 else length (at q).local.dones - numbered 0 r.fronts q))
          (sym (ne_eqb q p other.differs)) (let e = here_is in omega arith)

      there : (i : ℕ) → i ≢ q → (if i == p then 0 else length (at i).local.dones - numbered 0 after i) ≤ (if i == p then 0 else length (at i).local.dones - numbered 0 r.fronts i)
      there i n = subst (λ x. (if i == p then 0 else length (at i).local.dones - numbered 0 after i) ≤ (if i == p then 0 else length (at i).local.dones - x)) (numbered-put_other 0 (numbered 0 r.fronts q + 1) r.fronts q i n) (omega arith)

pub unread_few : (g : Givens) (p : ℕ) (w : World) → IsLawful g w → (r : Record) → unread g p (process w) r ≤ g.jobs
unread_few g p w law r =
    let less = total_le g.workers (λ q. if q == p then 0 else length (process w q).local.dones - numbered 0 r.fronts q) (λ q. length (process w q).local.dones) (λ q a b. one (q == p) (length (process w q).local.dones) (numbered 0 r.fronts q)) in
    let fit = rows_fit g w law g.workers (omega arith) in
    let all = count_le_all (someone (process w) g.workers) g.jobs in
    omega arith
  where
    one : (b : Bool) (n m : ℕ) → (if b then 0 else n - m) ≤ n
    one true n m = omega arith
    one false n m = omega arith
