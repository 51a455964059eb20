-- A check that passes brings its worker nearer; one that doesn't was to fail, and fewer fails are
-- left.
use Rattle.std.proofs.Common.{◌≡◌, ◌≢◌, ◌⊎◌, inl, inr, ⊎_elim, ℕ, ◌+◌, ◌*◌, ◌≤◌, Bool, true, false, not, ◌&&◌, [], length, refl, sym, ap, ◌∙◌, subst, arith}
use Rattle.std.specs.Prelude.{if◌then◌else◌, nat_lt}
use Rattle.std.proofs.lemmas.Bool.{true≢false, ltb-false}
use Rattle.amo_sets.specs.Lists.{numbered}
use Rattle.amo_sets.specs.Sets.{has}
use Rattle.amo_sets.specs.Rank.{count}
use Rattle.amo_params.specs.Givens.{IsOther}
use Rattle.amo_kk.specs.Record.{is_open}
use Rattle.amo_kk.specs.Choice.{chosen_job, record_after_choice, record_after_check}
use Rattle.amo_params.specs.declared.givens.Givens.{Givens}
use Rattle.amo_kk.specs.declared.phase.Phase.TheVariants.{Announcing, Claiming, Over}
use Rattle.amo_kk.specs.declared.model.Record.{Record}
use Rattle.amo_kk.specs.declared.model.Process.{Process}
use Rattle.amo_kk.proofs.Choice.{open_parts, chosen_is}
use Rattle.amo_bounds.proofs.Still.{still}
use Rattle.amo_bounds.proofs.Homes.{chosen_home}
use Rattle.amo_bounds.proofs.Potential.{togo, unread, cost, Passes, Grade, Cleared, Charge, Rebuilds}
use Rattle.amo_bounds.proofs.Fallen.{IsTaken, Fallen, sound, nearer, failed, knows_all, cost_is}

module _ {g : Givens} {at now : ℕ → Process} {p : ℕ} (given : IsTaken g at now p) where
  open given use {law, turn, turn.{worker as o}, h, room}

  abbrev r : Record
  r = (at p).local

  -- after the last read of an attempt on j: it passes, or p chooses anew
  pub checked : (j c : ℕ) → (now p).local ≡ still (record_after_check g p j r) → Charge g now h.free p c → c ≤ h.charges p → 3 ≤ togo g p r.phase
      → (((q : ℕ) → IsOther g p q → length (at q).local.dones ≤ numbered 0 r.fronts q) × (Passes g h.free p r j ⊎ (1 ≤ h.grades p))) ⊎ (3 ≤ h.grades p)
      → ((i : ℕ) → IsOther g p i → Cleared r i (at i).next → has r.tried (at i).next ≡ true)
      → Fallen g at now h
  checked j c e charge less far grade seen = go (is_open r j) refl
    where
      made : (k : ℕ) (x : Record) → (now p).local ≡ x → x.dones ≡ r.dones → Grade g at h.free p x k → ((i : ℕ) → IsOther g p i → has r.tried (at i).next ≡ true → Cleared x i (at i).next) → Rebuilds g at now h p p k c
      made k x is dones grade clear =
          record {
            worker = o;
            charger = o;
            others = turn.others;
            dones = ap (λ (y : Record). y.dones) is ∙ dones;
            next = λ n. absurd (n refl);
            grade = subst (λ y. Grade g at h.free p y k) (sym is) grade;
            charge = charge;
            cleared = λ i other low was. subst (λ y. Cleared y i (at i).next) (sym is) (clear i other (seen i other was));
          }

      some : 1 ≤ g.workers
      some = g.limits.some

      choose : (now p).local ≡ still (record_after_choice g p r) → ((has r.known j ≡ false → has r.tried j ≡ false → ⊥)) → Fallen g at now h
      choose is fails = again (nat_lt (count g.jobs (is_open r)) g.beta) refl
        where
          charged_once : 1 ≤ h.grades p
          charged_once = ⊎_elim
              (λ (t : ((q : ℕ) → IsOther g p q → length (at q).local.dones ≤ numbered 0 r.fronts q) × (Passes g h.free p r j ⊎ (1 ≤ h.grades p))). ⊎_elim
              (λ (m : Passes g h.free p r j). absurd (fails (unknown (has r.known j) (knows_all given t.0 j m.0.job ∙ m.0.free_is)) m.1))
              (λ l. l)
              t.1)
              (λ l. omega arith)
              grade
            where
              unknown : (b : Bool) → not b ≡ true → b ≡ false
              unknown true t = absurd (true≢false (sym t))
              unknown false t = refl

          again : (b : Bool) → nat_lt (count g.jobs (is_open r)) g.beta ≡ b → Fallen g at now h
          again true f =
              let is_over : (now p).local ≡ still (record r { phase = Over }) = is ∙ ap (λ b. still (if b then record r { phase = Over } else record r { phase = Announcing (chosen_job g p r); tried = [] })) f in
              let l = charged_once in
              let m = cost_is given (still (record r { phase = Over })) is_over refl in
              failed given p 0 c (made 0 (still (record r { phase = Over })) is_over refl tt (λ _ _ _. tt)) (omega arith) (omega arith)
          again false f = ⊎_elim
              (λ (t : ((q : ℕ) → IsOther g p q → length (at q).local.dones ≤ numbered 0 r.fronts q) × (Passes g h.free p r j ⊎ (1 ≤ h.grades p))).
              failed given p 0 c (made 0 x is_x refl (inl (chosen_home g h.free p r o (sound given).local.tried_few many room (knows_all given t.0))) clear) (omega (arith, charged_once)) (omega (arith, dear, far)))
              (λ l. failed given p 2 c (made 2 x is_x refl (inr (omega arith)) clear) (omega arith) (omega (arith, dear, far)))
              grade
            where
              x : Record
              x = still (record r { phase = Announcing (chosen_job g p r); tried = [] })

              is_x : (now p).local ≡ still (record r { phase = Announcing (chosen_job g p r); tried = [] })
              is_x = is ∙ ap (λ b. still (if b then record r { phase = Over } else record r { phase = Announcing (chosen_job g p r); tried = [] })) f

              many : g.beta ≤ count g.jobs (is_open r)
              many = ltb-false _ _ f

              dear : cost g p (now p).local ≡ 2 * g.workers + 1 + unread g r
              dear = cost_is given (still (record r { phase = Announcing (chosen_job g p r); tried = [] })) is_x refl

              clear : (i : ℕ) → IsOther g p i → has r.tried (at i).next ≡ true → chosen_job g p r ≢ (at i).next
              clear i other there same =
                  let found = chosen_is g p r o g.limits.beta_low (sound given).local.tried_few many in
                  true≢false (sym there ∙ subst (λ y. has r.tried y ≡ false) same (open_parts _ _ found.passes).1)

      go : (b : Bool) → is_open r j ≡ b → Fallen g at now h
      go true f =
          let is_claiming : (now p).local ≡ still (record r { phase = Claiming j }) = e ∙ ap (λ b. still (if b then record r { phase = Claiming j } else record_after_choice g p r)) f in
          let m = cost_is given (still (record r { phase = Claiming j })) is_claiming refl in
          nearer given p 0 c (made 0 (still (record r { phase = Claiming j })) is_claiming refl tt (λ _ _ _. tt)) (omega arith) (omega arith)
      go false f = choose (e ∙ ap (λ b. still (if b then record r { phase = Claiming j } else record_after_choice g p r)) f)
          (λ a b. true≢false (sym (λ i. not (a i) && not (b i)) ∙ f))
