-- Each turn that is taken makes the potential fall.
use Rattle.std.proofs.Common.{◌≡◌, ◌⊎◌, inl, inr, ⊎_elim, ℕ, ◌+◌, ◌-◌, ◌<◌, ◌≤◌, [], ◌∷◌, ◌++◌, length, refl, sym, ap, ◌∙◌, subst, arith}
use Rattle.std.proofs.lemmas.Bool.{cases_eq}
use Rattle.amo_sets.specs.Lists.{numbered, put}
use Rattle.amo_sets.specs.Sets.{has, with_number}
use Rattle.amo_sets.proofs.Numbers.{numbered-put_same, numbered-put_other}
use Rattle.amo_params.specs.Givens.{IsOther, next_other}
use Rattle.amo_kk.specs.Choice.{record_after_check}
use Rattle.amo_params.specs.declared.givens.Givens.{Givens}
use Rattle.amo_kk.specs.declared.phase.Phase.TheVariants.{Announcing, Reading, Claiming, Holding}
use Rattle.amo_kk.specs.declared.model.Record.{Record}
use Rattle.amo_kk.specs.declared.model.Process.{Process}
use Rattle.amo_kk.proofs.Choice.{next_other_next}
use Rattle.amo_kk.proofs.Fit.{claims_fit}
use Rattle.amo_kk.proofs.Kept.{others_room, others_next}
use Rattle.amo_bounds.proofs.Still.{still}
use Rattle.amo_bounds.proofs.TurnCases.{turn_cases}
use Rattle.amo_bounds.proofs.Sums.{total, total_less}
use Rattle.amo_bounds.proofs.Homes.{IsHome}
use Rattle.amo_bounds.proofs.Potential.{togo, cost, HasRead, Passes, GradeIn, Grade, ClearedIn, Cleared}
use Rattle.amo_bounds.proofs.Fallen.{IsTaken, Fallen, sound, nearer, graded_as, charge_kept, next_kept}
use Rattle.amo_bounds.proofs.Checked.{checked}
use Rattle.amo_bounds.proofs.Announced.{begins, tries, rows}
use Rattle.amo_bounds.proofs.Performed.{holds}

module _ {g : Givens} {at now : ℕ → Process} {p : ℕ} (given : IsTaken g at now p) where
  open given use {law, turn, turn.{worker as o}, h, room}

  abbrev r : Record
  r = (at p).local

  -- p goes on in its attempt, or claims: no fail, and fewer turns left
  goes_on : (x : Record) → (now p).local ≡ x → x.dones ≡ r.dones → (now p).next ≡ (at p).next → Grade g at h.free p x (h.grades p)
      → ((i : ℕ) → IsOther g p i → Cleared r i (at i).next → Cleared x i (at i).next) → cost g p x < cost g p r → Fallen g at now h
  goes_on x e dones next grade clear less = nearer given p (h.grades p) (h.charges p)
      (record {
        worker = o;
        charger = o;
        others = turn.others;
        dones = ap (λ (y : Record). y.dones) e ∙ dones;
        next = λ n. absurd (n refl);
        grade = subst (λ y. Grade g at h.free p y (h.grades p)) (sym e) grade;
        charge = charge_kept given next;
        cleared = λ i other low was. subst (λ y. Cleared y i (at i).next) (sym e) (clear i other was);
      })
      (omega arith)
      (let c = ap (cost g p) e in omega arith)

  reading : (j q : ℕ) → r.phase ≡ Reading j q → GradeIn g at h.free p r (h.grades p) (Reading j q)
  reading j q is = graded_as given (Reading j q) is

  learns : (j q i : ℕ) → r.phase ≡ Reading j q → IsOther g p q → numbered 0 r.fronts q < length (at q).local.dones → (now p).local ≡ record r { known = with_number i r.known; fronts = put r.fronts q (numbered 0 r.fronts q + 1); steps = 0 } → Fallen g at now h
  learns j q i is other more e = goes_on (record r { known = with_number i r.known; fronts = put r.fronts q (numbered 0 r.fronts q + 1); steps = 0 }) e refl (next_kept given (Reading j q) is refl)
      (subst (λ y. GradeIn g at h.free p (record r { known = with_number i r.known; fronts = put r.fronts q (numbered 0 r.fronts q + 1); steps = 0 }) (h.grades p) y) (sym is) (⊎_elim
      (λ (t : HasRead g at p r q × (Passes g h.free p r j ⊎ (1 ≤ h.grades p))). inl (λ k k_other l. let m = t.0 k k_other l in let s = numbered-put_other 0 (numbered 0 r.fronts q + 1) r.fronts q k (λ y. omega arith) in omega arith, t.1))
      (λ l. inr l)
      (reading j q is)))
      (λ k k_other was. subst (λ y. ClearedIn (record r { known = with_number i r.known; fronts = put r.fronts q (numbered 0 r.fronts q + 1); steps = 0 }) k (at k).next y) (sym is) (subst (λ y. ClearedIn r k (at k).next y) is was))
      (let l = fewer in omega arith)
    where
      wide : length r.fronts ≡ g.workers
      wide = (sound given).local.fronts

      put_same : numbered 0 (put r.fronts q (numbered 0 r.fronts q + 1)) q ≡ numbered 0 r.fronts q + 1
      put_same = numbered-put_same 0 (numbered 0 r.fronts q + 1) r.fronts q other.worker.low (let a = other.worker.high in let b = wide in omega arith)

      room_there : numbered 0 r.fronts q < g.jobs
      room_there = let few = (claims_fit g q (at q).local (law.sound q other.worker).local).1 in omega arith

      fewer : total g.workers (λ k. g.jobs - numbered 0 (put r.fronts q (numbered 0 r.fronts q + 1)) k) < total g.workers (λ k. g.jobs - numbered 0 r.fronts k)
      fewer = total_less g.workers q (λ k. g.jobs - numbered 0 (put r.fronts q (numbered 0 r.fronts q + 1)) k) (λ k. g.jobs - numbered 0 r.fronts k) other.worker.low other.worker.high
          (let s = put_same in let t = room_there in omega arith)
          (λ k n. let s = numbered-put_other 0 (numbered 0 r.fronts q + 1) r.fronts q k n in omega arith)

  -- the row of q is read, and so are those before the next other
  read_on : (q : ℕ) → IsOther g p q → length (at q).local.dones ≤ numbered 0 r.fronts q → HasRead g at p r q → HasRead g at p r (next_other p q)
  read_on q other all before i i_other l = ⊎_elim
      (λ (e : i ≡ q). subst (λ y. length (at y).local.dones ≤ numbered 0 r.fronts y) (sym e) all)
      (λ n. before i i_other (let m = next_other_next p q i i_other.differs l in omega arith))
      (cases_eq i q)

  reads : (j q : ℕ) → r.phase ≡ Reading j q → IsOther g p q → length (at q).local.dones ≤ numbered 0 r.fronts q → next_other p q ≤ g.workers → (now p).local ≡ record r { phase = Reading j (next_other p q); steps = 0 } → Fallen g at now h
  reads j q is other all in_range e = goes_on (record r { phase = Reading j (next_other p q); steps = 0 }) e refl (next_kept given (Reading j q) is refl)
      (⊎_elim
      (λ (t : HasRead g at p r q × (Passes g h.free p r j ⊎ (1 ≤ h.grades p))). inl (read_on q other all t.0, t.1))
      (λ l. inr l)
      (reading j q is))
      (λ k k_other was. subst (λ y. ClearedIn r k (at k).next y) is was)
      (let was = ap (togo g p) is in let space = others_room p q g.workers o.low o.high other.worker.low other.worker.high other.differs in let more = others_next p q o.low other.worker.low other.differs in omega arith)

  checks : (j q : ℕ) → r.phase ≡ Reading j q → IsOther g p q → length (at q).local.dones ≤ numbered 0 r.fronts q → g.workers < next_other p q → (now p).local ≡ still (record_after_check g p j r) → Fallen g at now h
  checks j q is other all above e = checked given j (h.charges p) e (charge_kept given (next_kept given (Reading j q) is refl)) (omega arith)
      (let was = ap (togo g p) is in let space = others_room p q g.workers o.low o.high other.worker.low other.worker.high other.differs in omega arith)
      (⊎_elim
      (λ (t : HasRead g at p r q × (Passes g h.free p r j ⊎ (1 ≤ h.grades p))). inl (λ i i_other. read_on q other all t.0 i i_other (let m = i_other.worker.high in omega arith), t.1))
      (λ l. inr l)
      (reading j q is))
      (λ k k_other was. subst (λ y. ClearedIn r k (at k).next y) is was)

  alone : (j : ℕ) → r.phase ≡ Announcing j → r.tried ≡ [] → ((q : ℕ) → IsOther g p q → ⊥) → (now p).local ≡ still (record_after_check g p j r) → Fallen g at now h
  alone j is none nobody e = checked given j 0 e (inr (λ i w d. absurd (nobody i (record { worker = w; differs = d })))) (omega arith)
      (let was = ap (togo g p) is in let some = g.limits.some in omega arith)
      (inl (λ i i_other. absurd (nobody i i_other), ⊎_elim (λ (home : IsHome g h.free p j). inl (home, ap (λ l. has l j) none)) (λ l. inr (omega arith)) (graded_as given (Announcing j) is)))
      (λ i i_other. absurd (nobody i i_other))

  claims : (j : ℕ) → r.phase ≡ Claiming j → (now p).local ≡ record r { phase = Holding j; claimed = r.claimed ++ j ∷ []; steps = 0 } → Fallen g at now h
  claims j is e = goes_on (record r { phase = Holding j; claimed = r.claimed ++ j ∷ []; steps = 0 }) e refl (next_kept given (Claiming j) is refl) tt (λ _ _ _. tt) (let was = ap (togo g p) is in omega arith)

  -- a turn that is taken makes the potential fall
  pub falls : Fallen g at now h
  falls = turn_cases g at now p law turn (Fallen g at now h) (begins given) alone (tries given) (rows given) learns reads checks claims (holds given)
