-- An announcement that is stored or read: it makes one worker fail at most, and no more than were
-- to.
use Rattle.std.proofs.Common.{◌≡◌, ◌≢◌, ◌⊎◌, inl, inr, ⊎_elim, ℕ, ◌-◌, ◌<◌, ◌≤◌, true, false, [], refl, sym, ap, ◌∙◌, subst, arith}
use Rattle.std.proofs.lemmas.Bool.{cases_eq, cases_lt, true≢false, false_from_ne_true}
use Rattle.amo_sets.specs.Sets.{has}
use Rattle.amo_params.specs.Givens.{IsWorker, IsOther, next_other}
use Rattle.amo_kk.specs.Step.{with_announced}
use Rattle.amo_params.specs.declared.givens.Givens.{Givens}
use Rattle.amo_kk.specs.declared.phase.Phase.{Phase}
use Rattle.amo_kk.specs.declared.phase.Phase.TheVariants.{Announcing, Trying, Reading}
use Rattle.amo_kk.specs.declared.model.Record.{Record}
use Rattle.amo_kk.specs.declared.model.Process.{Process}
use Rattle.amo_kk.proofs.Choice.{next_other_next}
use Rattle.amo_kk.proofs.Kept.{others_room, others_next, noted_cases, noted_kept, noted_same, none_before}
use Rattle.amo_bounds.proofs.Turns.{next_after}
use Rattle.amo_bounds.proofs.Homes.{IsHome, one_home}
use Rattle.amo_bounds.proofs.Potential.{togo, cost, Passes, GradeIn, Grade, ClearedIn, Cleared, Charge, Rebuilds}
use Rattle.amo_bounds.proofs.Fallen.{IsTaken, Fallen, nearer, graded_as, charge_kept, next_kept, cost_is}

module _ {g : Givens} {at now : ℕ → Process} {p : ℕ} (given : IsTaken g at now p) where
  open given use {law, turn, turn.{worker as o}, h, room}

  abbrev r : Record
  r = (at p).local

  -- p stores the announcement
  pub begins : (j : ℕ) → r.phase ≡ Announcing j → r.tried ≡ [] → IsOther g p (next_other p 0) → (now p).local ≡ record r { phase = Trying j (next_other p 0); steps = 0 } → Fallen g at now h
  begins j is none first e = ⊎_elim
      (λ (home : IsHome g h.free p j). nearer given p 0 0 (made 0 0 (inl (home, ap (λ l. has l j) none)) (inr (λ i w d there. absurd (d (one_home g h.free i p j w o (subst (λ y. IsHome g h.free i y) stored there) home))))) (omega arith) near)
      (λ l. nearer given p 1 1 (made 1 1 (inr (omega arith)) (inl (omega arith))) (omega arith) near)
      (graded_as given (Announcing j) is)
    where
      stored : (now p).next ≡ j
      stored = turn.next ∙ ap (λ x. next_after x (at p).next) is

      near : cost g p (now p).local < cost g p r
      near = let c = cost_is given (record r { phase = Trying j (next_other p 0); steps = 0 }) e refl in let was = ap (togo g p) is in let some = g.limits.some in omega arith

      made : (k c : ℕ) → GradeIn g at h.free p (record r { phase = Trying j (next_other p 0); steps = 0 }) k (Trying j (next_other p 0)) → Charge g now h.free p c → Rebuilds g at now h p p k c
      made k c grade charge =
          record {
            worker = o;
            charger = o;
            others = turn.others;
            dones = ap (λ (y : Record). y.dones) e;
            next = λ n. absurd (n refl);
            grade = subst (λ y. Grade g at h.free p y k) (sym e) grade;
            charge = charge;
            cleared = λ i other low was. subst (λ y. Cleared y i (at i).next) (sym e)
                (inr (subst (λ y. ClearedIn r i (at i).next y) is was, ⊎_elim (λ (l : i < next_other p 0). absurd (none_before g at law p o i other l)) (λ l. l) (cases_lt i (next_other p 0))));
          }

  -- p reads the announcement of q, and comes to this phase
  noted : (j q : ℕ) (phase : Phase) → r.phase ≡ Trying j q → IsOther g p q → (now p).local ≡ record r { phase = phase; tried = with_announced (at q).next r.tried; steps = 0 }
      → ((k : ℕ) → Passes g h.free p (record r { phase = phase; tried = with_announced (at q).next r.tried; steps = 0 }) j ⊎ (1 ≤ k) → GradeIn g at h.free p (record r { phase = phase; tried = with_announced (at q).next r.tried; steps = 0 }) k phase)
      → ((i w : ℕ) → IsOther g p i → (has (with_announced (at q).next r.tried) w ≡ true) ⊎ ((j ≢ w) × (q < i)) → ClearedIn (record r { phase = phase; tried = with_announced (at q).next r.tried; steps = 0 }) i w phase)
      → togo g p phase < togo g p (Trying j q) → Fallen g at now h
  noted j q phase is other e grade clear near = ⊎_elim
      (λ (m : Passes g h.free p r j). ⊎_elim
      (λ (same : (at q).next ≡ j). ⊎_elim
      (λ (l : 1 ≤ h.charges q). nearer given q 1 (h.charges q - 1) (made q other.worker 1 (h.charges q - 1) (grade 1 (inr (omega arith))) (inr (seen same m.0))) (omega arith) fewer)
      (λ all. ⊎_elim
      (λ (there : has r.tried (at q).next ≡ true). absurd (true≢false (sym there ∙ ap (has r.tried) same ∙ m.1)))
      (λ (there : (j ≢ (at q).next) × (q ≤ q)). absurd (there.0 (sym same)))
      (subst (λ y. ClearedIn r q (at q).next y) is (all p o (λ y. other.differs (sym y)) (subst (λ y. IsHome g h.free p y) (sym same) m.0))))
      (h.charged q other.worker))
      (λ n. nearer given p (h.grades p) (h.charges p) (made p o (h.grades p) (h.charges p) (grade (h.grades p) (inl (m.0, untried n m.1))) (charge_kept given kept)) (omega arith) fewer)
      (cases_eq (at q).next j))
      (λ l. nearer given p (h.grades p) (h.charges p) (made p o (h.grades p) (h.charges p) (grade (h.grades p) (inr l)) (charge_kept given kept)) (omega arith) fewer)
      (graded_as given (Trying j q) is)
    where
      kept : (now p).next ≡ (at p).next
      kept = next_kept given (Trying j q) is refl

      fewer : cost g p (now p).local < cost g p r
      fewer = let c = cost_is given (record r { phase = phase; tried = with_announced (at q).next r.tried; steps = 0 }) e refl in let was = ap (togo g p) is in omega arith

      untried : (at q).next ≢ j → has r.tried j ≡ false → has (with_announced (at q).next r.tried) j ≡ false
      untried n f = false_from_ne_true (has (with_announced (at q).next r.tried) j) (λ t. ⊎_elim (λ (new : (1 ≤ (at q).next) × ((at q).next ≡ j)). n new.1) (λ old. true≢false (sym old ∙ f)) (noted_cases (at q).next j r.tried t))

      seen : (at q).next ≡ j → IsHome g h.free p j → (i : ℕ) → IsWorker g i → i ≢ q → IsHome g h.free i (now q).next → Cleared (now i).local q (now q).next
      seen same home i w d there =
          let was : (now q).next ≡ (at q).next = ap (λ (y : Process). y.next) (turn.others q other.differs) in
          let low = home.job.low in
          let me : i ≡ p = one_home g h.free i p j w o (subst (λ y. IsHome g h.free i y) (was ∙ same) there) home in
          subst (λ y. Cleared (now y).local q (now q).next) (sym me) (subst (λ y. Cleared (now p).local q y) (sym was)
          (subst (λ y. Cleared y q (at q).next) (sym e) (clear q (at q).next other (inl (noted_same (at q).next r.tried (omega arith))))))

      made : (c_of : ℕ) → IsWorker g c_of → (k c : ℕ) → GradeIn g at h.free p (record r { phase = phase; tried = with_announced (at q).next r.tried; steps = 0 }) k phase → Charge g now h.free c_of c → Rebuilds g at now h p c_of k c
      made c_of w k c graded charge =
          record {
            worker = o;
            charger = w;
            others = turn.others;
            dones = ap (λ (y : Record). y.dones) e;
            next = λ n. kept;
            grade = subst (λ y. Grade g at h.free p y k) (sym e) graded;
            charge = charge;
            cleared = λ i i_other low was. subst (λ y. Cleared y i (at i).next) (sym e) (clear i (at i).next i_other (⊎_elim
                (λ (t : has r.tried (at i).next ≡ true). inl (noted_kept (at q).next (at i).next r.tried t))
                (λ (t : (j ≢ (at i).next) × (q ≤ i)). ⊎_elim
                (λ (m : q ≡ i). inl (subst (λ y. has (with_announced (at q).next r.tried) y ≡ true) (ap (λ y. (at y).next) m) (noted_same (at q).next r.tried (let s = ap (λ y. (at y).next) m in omega arith))))
                (λ n. inr (t.0, let l = t.1 in omega arith))
                (cases_eq q i))
                (subst (λ y. ClearedIn r i (at i).next y) is was)));
          }

  -- p reads an announcement and goes on, or has read the last
  pub tries : (j q : ℕ) → r.phase ≡ Trying j q → IsOther g p q → next_other p q ≤ g.workers → (now p).local ≡ record r { phase = Trying j (next_other p q); tried = with_announced (at q).next r.tried; steps = 0 } → Fallen g at now h
  tries j q is other in_range e = noted j q (Trying j (next_other p q)) is other e (λ k x. x)
      (λ i w i_other x. ⊎_elim
      (λ (t : has (with_announced (at q).next r.tried) w ≡ true). inl t)
      (λ (t : (j ≢ w) × (q < i)). inr (t.0, ⊎_elim (λ (l : i < next_other p q). absurd (let m = next_other_next p q i i_other.differs l in let n = t.1 in omega arith)) (λ l. l) (cases_lt i (next_other p q))))
      x)
      (let space = others_room p q g.workers o.low o.high other.worker.low other.worker.high other.differs in let more = others_next p q o.low other.worker.low other.differs in omega arith)

  pub rows : (j q : ℕ) → r.phase ≡ Trying j q → IsOther g p q → g.workers < next_other p q → IsOther g p (next_other p 0) → (now p).local ≡ record r { phase = Reading j (next_other p 0); tried = with_announced (at q).next r.tried; steps = 0 } → Fallen g at now h
  rows j q is other above first e = noted j q (Reading j (next_other p 0)) is other e
      (λ k x. inl (λ i i_other l. absurd (none_before g at law p o i i_other l), x))
      (λ i w i_other x. ⊎_elim
      (λ (t : has (with_announced (at q).next r.tried) w ≡ true). t)
      (λ (t : (j ≢ w) × (q < i)). absurd (let high = i_other.worker.high in let m = next_other_next p q i i_other.differs (omega arith) in let n = t.1 in omega arith))
      x)
      (let space = others_room p q g.workers o.low o.high other.worker.low other.worker.high other.differs in omega arith)
