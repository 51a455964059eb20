-- A number that falls with each turn that is taken, where many jobs are free or the threshold is
-- high.
use Rattle.std.proofs.Common.{◌≡◌, ◌≢◌, ◌⊎◌, inl, inr, ⊎_elim, ℕ, ◌+◌, ◌-◌, ◌*◌, ◌<◌, ◌≤◌, Bool, true, false, length, sym, ap, ◌∙◌, subst, arith}
use Rattle.std.proofs.lemmas.Bool.{cases_eq}
use Rattle.amo_sets.specs.Lists.{numbered}
use Rattle.amo_sets.specs.Sets.{has}
use Rattle.amo_sets.specs.Rank.{count}
use Rattle.amo_params.specs.Givens.{IsJob, IsWorker, IsOther}
use Rattle.amo_kk.specs.Lawful.{IsDone}
use Rattle.amo_params.specs.declared.givens.Givens.{Givens}
use Rattle.amo_kk.specs.declared.phase.Phase.{Phase}
use Rattle.amo_kk.specs.declared.phase.Phase.TheVariants.{Announcing, Trying, Reading, Claiming, Holding}
use Rattle.amo_kk.specs.declared.model.Record.{Record}
use Rattle.amo_kk.specs.declared.model.Process.{Process}
use Rattle.amo_kk.proofs.OwnTurns.{left_from}
use Rattle.amo_bounds.proofs.Sums.{total, total_changed, with_at, with_at_same, with_at_other, total_with}
use Rattle.amo_bounds.proofs.Homes.{IsHome}

-- turns until the check of the attempt or until its done, if it passes
abbrev pub togo : Givens → ℕ → Phase → ℕ
togo g p (Announcing j) = 2 * g.workers + 1
togo g p (Trying j q) = left_from g p q + (g.workers - 1) + 2
togo g p (Reading j q) = left_from g p q + 2
togo g p (Claiming j) = 2
togo g p (Holding j) = 1
togo g p phase = 0

-- entries that the worker may still read
abbrev pub unread : Givens → Record → ℕ
unread g r = total g.workers (λ q. g.jobs - numbered 0 r.fronts q)

-- both together
abbrev pub cost : Givens → ℕ → Record → ℕ
cost g p r = togo g p r.phase + unread g r

-- the rows of the others before q are read
abbrev pub HasRead : Givens → (ℕ → Process) → ℕ → Record → ℕ → Type 0
HasRead g at p r q = (o : ℕ) → IsOther g p o → o < q → length (at o).local.dones ≤ numbered 0 r.fronts o

-- the attempt on j passes, if it is at home and was not seen
abbrev pub Passes : Givens → (ℕ → Bool) → ℕ → Record → ℕ → Type 0
Passes g free p r j = IsHome g free p j × (has r.tried j ≡ false)

-- before the next done, p is to fail, or to announce a job that isn't at home, no more than k times
-- in all
abbrev pub GradeIn : Givens → (ℕ → Process) → (ℕ → Bool) → ℕ → Record → ℕ → Phase → Type 0
GradeIn g at free p r k (Announcing j) = IsHome g free p j ⊎ (2 ≤ k)
GradeIn g at free p r k (Trying j q) = Passes g free p r j ⊎ (1 ≤ k)
GradeIn g at free p r k (Reading j q) = (HasRead g at p r q × (Passes g free p r j ⊎ (1 ≤ k))) ⊎ (3 ≤ k)
GradeIn g at free p r k phase = Unit {0}

abbrev pub Grade : Givens → (ℕ → Process) → (ℕ → Bool) → ℕ → Record → ℕ → Type 0
Grade g at free p r k = GradeIn g at free p r k r.phase

-- the announcement v of q does not make p fail, as long as it stays
abbrev pub ClearedIn : Record → ℕ → ℕ → Phase → Type 0
ClearedIn r q v (Announcing j) = j ≢ v
ClearedIn r q v (Trying j i) = (has r.tried v ≡ true) ⊎ ((j ≢ v) × (i ≤ q))
ClearedIn r q v (Reading j i) = has r.tried v ≡ true
ClearedIn r q v phase = Unit {0}

abbrev pub Cleared : Record → ℕ → ℕ → Type 0
Cleared r q v = ClearedIn r q v r.phase

-- the announcement of q is at home with no other that isn't cleared of it, or it is charged
abbrev pub Charge : Givens → (ℕ → Process) → (ℕ → Bool) → ℕ → ℕ → Type 0
Charge g at free q k = (1 ≤ k) ⊎ ((o : ℕ) → IsWorker g o → o ≢ q → IsHome g free o (at q).next → Cleared (at o).local q (at q).next)

-- by what is free, and how often each worker may still fail before the next done, by its own step
-- and by its announcement
pub record HasPotential (g : Givens) (at : ℕ → Process) : Type 0 where
  pub free : ℕ → Bool
  pub done : (j : ℕ) → IsJob g j → free j ≡ false → IsDone g at j
  pub taken : (j : ℕ) → IsDone g at j → free j ≡ false
  pub grades : ℕ → ℕ
  pub charges : ℕ → ℕ
  pub graded : (p : ℕ) → IsWorker g p → Grade g at free p (at p).local (grades p)
  pub charged : (q : ℕ) → IsWorker g q → Charge g at free q (charges q)

-- what a job counts that isn't done: 4 m fails of 2 m turns, and an attempt
abbrev pub price : Givens → ℕ
price g = 8 * (g.workers * g.workers) + 2 * g.workers + 1

-- how many fails there may be before the next done
abbrev pub fails : (g : Givens) (at : ℕ → Process) → HasPotential g at → ℕ
fails g at h = total g.workers h.grades + total g.workers h.charges

-- what a turn makes smaller: a fail counts 2 m turns, more than the attempt after it
abbrev pub weight : (g : Givens) (at : ℕ → Process) → HasPotential g at → ℕ
weight g at h = 2 * g.workers * fails g at h + price g * count g.jobs h.free + total g.workers (λ p. cost g p (at p).local)

-- the next potential, where worker p changes, does no job, and the fails of p and of the
-- announcement of q change
pub record Rebuilds (g : Givens) (at now : ℕ → Process) (h : HasPotential g at) (p q k c : ℕ) : Type 0 where
  pub worker : IsWorker g p
  pub charger : IsWorker g q
  pub others : (i : ℕ) → i ≢ p → now i ≡ at i
  pub dones : (now p).local.dones ≡ (at p).local.dones
  pub next : p ≢ q → (now p).next ≡ (at p).next
  pub grade : Grade g at h.free p (now p).local k
  pub charge : Charge g now h.free q c
  pub cleared : (i : ℕ) → IsOther g p i → 1 ≤ (at i).next → Cleared (at p).local i (at i).next → Cleared (now p).local i (at i).next

scaled : (u a b c d e f : ℕ) → a + b + c ≡ d + e + f → u * a + u * (b + c) ≡ u * d + u * (e + f)
scaled u a b c d e f h = let x : u * (a + (b + c)) ≡ u * (d + (e + f)) = ap (λ z. u * z) (omega arith) in grind arith

module _ (g : Givens) (at now : ℕ → Process) (h : HasPotential g at) (p q k c : ℕ) (s : Rebuilds g at now h p q k c) where
  pub dones_same : (i : ℕ) → (now i).local.dones ≡ (at i).local.dones
  dones_same i = ⊎_elim
      (λ (e : i ≡ p). subst (λ x. (now x).local.dones ≡ (at x).local.dones) (sym e) s.dones)
      (λ n. ap (λ (x : Process). x.local.dones) (s.others i n))
      (cases_eq i p)

  read_same : (o i : ℕ) (r : Record) → HasRead g at o r i → HasRead g now o r i
  read_same o i r e x other less = subst (λ l. length l ≤ numbered 0 r.fronts x) (sym (dones_same x)) (e x other less)

  grade_same : (o l : ℕ) (r : Record) → Grade g at h.free o r l → Grade g now h.free o r l
  grade_same o l r e = go r.phase e
    where
      go : (phase : Phase) → GradeIn g at h.free o r l phase → GradeIn g now h.free o r l phase
      go (Reading j i) e = ⊎_elim (λ (t : HasRead g at o r i × (Passes g h.free o r j ⊎ (1 ≤ l))). inl (read_same o i r t.0, t.1)) (λ m. inr m) e
      go phase e = e

  abbrev new_grades : ℕ → ℕ
  new_grades = with_at p k h.grades

  abbrev new_charges : ℕ → ℕ
  new_charges = with_at q c h.charges

  pub graded : (i : ℕ) → IsWorker g i → Grade g now h.free i (now i).local (new_grades i)
  graded i o = ⊎_elim
      (λ (e : i ≡ p). subst (λ x. Grade g now h.free x (now x).local (new_grades x)) (sym e)
      (grade_same p (new_grades p) (now p).local (subst (λ x. Grade g at h.free p (now p).local x) (sym (with_at_same p k h.grades)) s.grade)))
      (λ n. grade_same i (new_grades i) (now i).local (subst (λ x. Grade g at h.free i (now i).local x) (sym (with_at_other p k i h.grades n))
      (subst (λ (x : Process). Grade g at h.free i x.local (h.grades i)) (sym (s.others i n)) (h.graded i o))))
      (cases_eq i p)

  charge_same : (i : ℕ) → IsWorker g i → i ≢ q → Charge g now h.free i (h.charges i)
  charge_same i o n = ⊎_elim (λ l. inl l) (λ clear. inr (λ x w d home. kept x w d (let low = home.job.low in let same = next_same in omega arith) (clear x w d (subst (λ v. IsHome g h.free x v) next_same home)))) (h.charged i o)
    where
      next_same : (now i).next ≡ (at i).next
      next_same = ⊎_elim
          (λ (e : i ≡ p). subst (λ x. (now x).next ≡ (at x).next) (sym e) (s.next (λ y. n (e ∙ y))))
          (λ m. ap (λ (x : Process). x.next) (s.others i m))
          (cases_eq i p)

      kept : (x : ℕ) → IsWorker g x → x ≢ i → 1 ≤ (at i).next → Cleared (at x).local i (at i).next → Cleared (now x).local i (now i).next
      kept x w d low e = subst (λ v. Cleared (now x).local i v) (sym next_same) (⊎_elim
          (λ (m : x ≡ p). subst (λ y. Cleared (now y).local i (at i).next) (sym m) (s.cleared i (record { worker = o; differs = λ y. d (m ∙ sym y) }) low (subst (λ y. Cleared (at y).local i (at i).next) m e)))
          (λ m. subst (λ (y : Process). Cleared y.local i (at i).next) (sym (s.others x m)) e)
          (cases_eq x p))

  pub charged : (i : ℕ) → IsWorker g i → Charge g now h.free i (new_charges i)
  charged i o = ⊎_elim
      (λ (e : i ≡ q). subst (λ x. Charge g now h.free x (new_charges x)) (sym e) (subst (λ x. Charge g now h.free q x) (sym (with_at_same q c h.charges)) s.charge))
      (λ n. subst (λ x. Charge g now h.free i x) (sym (with_at_other q c i h.charges n)) (charge_same i o n))
      (cases_eq i q)

  abbrev pub rebuilt : HasPotential g now
  rebuilt =
      record {
        free = h.free;
        done = λ j job f. let d = h.done j job f in (d.0, d.1, subst (λ l. has l j ≡ true) (sym (dones_same d.0)) d.2);
        taken = λ j d. h.taken j (d.0, d.1, subst (λ l. has l j ≡ true) (dones_same d.0) d.2);
        grades = new_grades;
        charges = new_charges;
        graded = graded;
        charged = charged;
      }

  -- what it weighs
  pub rebuilt_weighs : weight g now rebuilt + (2 * g.workers * (h.grades p + h.charges q) + cost g p (at p).local) ≡ weight g at h + (2 * g.workers * (k + c) + cost g p (now p).local)
  rebuilt_weighs =
      let a = total_with g.workers p k h.grades s.worker.low s.worker.high in
      let b = total_with g.workers q c h.charges s.charger.low s.charger.high in
      let d = total_changed g.workers p (λ i. cost g i (at i).local) (λ i. cost g i (now i).local) s.worker.low s.worker.high (λ i n. ap (λ (x : Process). cost g i x.local) (s.others i n)) in
      let e = scaled (2 * g.workers) (fails g now rebuilt) (h.grades p) (h.charges q) (fails g at h) k c (omega arith) in
      omega arith
