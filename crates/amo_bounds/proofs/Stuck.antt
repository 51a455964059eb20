-- All others of worker 1 announce their first choices and are halted.
use Rattle.std.proofs.Common.{◌≡◌, ◌≢◌, length, ⊎_elim, ℕ, zero, suc, ◌+◌, ◌<◌, ◌≤◌, Bool, true, false, [], ◌∷◌, ◌++◌, refl, sym, ap, ◌∙◌, subst, arith, append-nil}
use Rattle.std.specs.Prelude.{if◌then◌else◌}
use Rattle.std.proofs.lemmas.Bool.{cases_eq, le-ltb}
use Rattle.std.proofs.lemmas.List.{length_push}
use Rattle.amo_sets.specs.Lists.{numbered, put, table}
use Rattle.amo_sets.proofs.Numbers.{numbered-put_other}
use Rattle.amo_sets.proofs.Tables.{numbered-table}
use Rattle.amo_params.specs.Givens.{IsWorker}
use Rattle.amo_kk.specs.Record.{wants_nothing, jobs_in_hand, empty_record}
use Rattle.amo_kk.specs.Choice.{chosen_rank, first_record}
use Rattle.amo_kk.specs.Step.{want, record_after_phase}
use Rattle.amo_kk.specs.Run.{done_jobs}
use Rattle.amo_kk.specs.World.{nobody, process, loaded_value, world_with, world_after_turn, world_after_halt, first_process, opening_world, world_of}
use Rattle.amo_kk.specs.Lawful.{IsLawful}
use Rattle.amo_params.specs.declared.givens.Givens.{Givens}
use Rattle.amo_kk.specs.declared.phase.Phase.TheVariants.{Announcing}
use Rattle.amo_kk.specs.declared.model.Record.{Record}
use Rattle.amo_kk.specs.declared.model.Process.{Process}
use Rattle.amo_kk.specs.declared.model.World.{World}
use Rattle.amo_kk.specs.declared.event.Event.TheVariants.{Halted, Ended}
use Rattle.amo_params.specs.declared.moves.Move.TheVariants.{Turn, Halt}
use Rattle.amo_kk.proofs.Choice.{choice_cases}
use Rattle.amo_kk.proofs.FirstChoice.{first_choice}
use Rattle.amo_kk.proofs.Worlds.{opening_lawful, halt_lawful, put_here}
use Rattle.amo_kk.proofs.Claims.{done-append}
use Rattle.amo_kk.proofs.Runs.{HasDone, has_done}
use Rattle.amo_kk.proofs.Moves.{world_after_moves-append}
use Rattle.amo_bounds.specs.Fewest.{stopped, leavers}
use Rattle.amo_bounds.specs.Worst.{stuck_moves}
use Rattle.amo_bounds.proofs.Turns.{next_after, IsAfterTurn, after_turn}
use Rattle.amo_bounds.proofs.Ended.{stopped-append, leavers-append}

-- the first choice of worker q, if there are at least beta jobs
abbrev pub first : Givens → ℕ → ℕ
first g q = chosen_rank g q g.jobs

-- a process that announced j, has done nothing, and is gone
pub record IsStuck (j : ℕ) (a : Process) : Type 0 where
  pub gone : a.gone ≡ true
  pub next : a.next ≡ j
  pub dones : a.local.dones ≡ []

-- the first k others are stuck, all workers besides are as at first, and nothing is done
pub record AreStuck (g : Givens) (k : ℕ) (w : World) : Type 0 where
  pub law : IsLawful g w
  pub stuck : (q : ℕ) → 2 ≤ q → q ≤ k + 1 → IsStuck (first g q) (process w q)
  pub one : process w 1 ≡ first_process g 1
  pub fresh : (q : ℕ) → k + 1 < q → q ≤ g.workers → process w q ≡ first_process g q
  pub none : done_jobs w.history ≡ []

pub first_empty : (g : Givens) (p : ℕ) → (first_record g p).dones ≡ []
first_empty g p = choice_cases g p (empty_record g) (λ x. x.dones ≡ []) (λ _. refl) (λ _. refl)

module _ (g : Givens) (enough : g.beta ≤ g.jobs) where
  pub first_phase : (p : ℕ) → IsWorker g p → (first_process g p).local.phase ≡ Announcing (first g p)
  first_phase p o = first_choice g p o enough

  pub first_here : (p : ℕ) → IsWorker g p → (first_process g p).gone ≡ false
  first_here p o = ap wants_nothing (first_phase p o)

  -- a turn and a halt of a worker that is as at first
  sticks : (k : ℕ) (w : World) → k + 2 ≤ g.workers → AreStuck g k w → AreStuck g (suc k) (world_after_halt (world_after_turn g w (k + 2)) (k + 2))
  sticks k w room s = go (process v p).gone refl
    where
      p : ℕ
      p = k + 2

      o : IsWorker g p
      o = record { low = omega arith; high = room }

      is : process w p ≡ first_process g p
      is = s.fresh p (omega arith) room

      phase : (process w p).local.phase ≡ Announcing (first g p)
      phase = ap (λ (x : Process). x.local.phase) is ∙ first_phase p o

      here : (process w p).gone ≡ false
      here = ap (λ (x : Process). x.gone) is ∙ first_here p o

      v : World
      v = world_after_turn g w p

      t : IsAfterTurn g w p v
      t = after_turn g w p s.law here

      dones : (process v p).local.dones ≡ []
      dones =
          let r = (process w p).local in
          let d : HasDone r (record_after_phase g p (loaded_value w (want r)) r r.phase) (Announcing (first g p)) =
          subst (λ x. HasDone r (record_after_phase g p (loaded_value w (want r)) r r.phase) x) phase (has_done g p (loaded_value w (want r)) r r.phase refl) in
          ap (λ (x : Record). x.dones) t.local ∙ d.done ∙ append-nil r.dones ∙ ap (λ (x : Process). x.local.dones) is ∙ first_empty g p

      next : (process v p).next ≡ first g p
      next = t.next ∙ ap (λ x. next_after x (process w p).next) phase

      none : done_jobs v.history ≡ []
      none = t.done ∙ ap (λ x. done_jobs w.history ++ jobs_in_hand x) phase ∙ append-nil (done_jobs w.history) ∙ s.none

      -- a world that differs from v only at p, which is gone there with the same words
      after : (u : World) → IsLawful g u → (process u p).gone ≡ true → (process u p).next ≡ (process v p).next → (process u p).local ≡ (process v p).local
          → ((q : ℕ) → q ≢ p → process u q ≡ process v q) → done_jobs u.history ≡ [] → AreStuck g (suc k) u
      after u law gone next_same local_same others none_yet =
          record {
            law = law;
            stuck = λ q low high. ⊎_elim
                (λ (e : q ≡ p). subst (λ x. IsStuck (first g x) (process u x)) (sym e) (record { gone = gone; next = next_same ∙ next; dones = ap (λ (x : Record). x.dones) local_same ∙ dones }))
                (λ n. subst (λ x. IsStuck (first g q) x) (sym (others q n ∙ t.others q n)) (s.stuck q low (omega arith)))
                (cases_eq q p);
            one = others 1 (λ e. omega arith) ∙ t.others 1 (λ e. omega arith) ∙ s.one;
            fresh = λ q low high. others q (λ e. omega arith) ∙ t.others q (λ e. omega arith) ∙ s.fresh q (omega arith) high;
            none = none_yet;
          }

      go : (b : Bool) → (process v p).gone ≡ b → AreStuck g (suc k) (if b then v else world_with v p (record (process v p) { gone = true }) (Halted p ∷ []))
      go true e = after v t.law e refl refl (λ q n. refl) none
      go false e =
          let law = subst (λ b. IsLawful g (if b then v else world_with v p (record (process v p) { gone = true }) (Halted p ∷ []))) e (halt_lawful g v p t.law) in
          let now : numbered nobody (put v.processes p (record (process v p) { gone = true })) p ≡ record (process v p) { gone = true } = put_here g v p (record (process v p) { gone = true }) t.law.size o in
          after (world_with v p (record (process v p) { gone = true }) (Halted p ∷ [])) law
          (ap (λ (x : Process). x.gone) now) (ap (λ (x : Process). x.next) now) (ap (λ (x : Process). x.local) now)
          (λ q n. numbered-put_other nobody (record (process v p) { gone = true }) v.processes p q n)
          (done-append v.history (Halted p ∷ []) ∙ append-nil (done_jobs v.history) ∙ none)

  opening_stuck : AreStuck g 0 (opening_world g)
  opening_stuck =
      record {
        law = opening_lawful g g.limits;
        stuck = λ q low high. absurd (omega arith);
        one = at 1 (record { low = omega arith; high = g.limits.some });
        fresh = λ q low high. at q (record { low = omega arith; high = high });
        none = ap (λ b. done_jobs (if b then table g.workers (λ p. Ended p) else [])) (le-ltb g.jobs g.beta enough);
      }
    where
      at : (p : ℕ) → IsWorker g p → process (opening_world g) p ≡ first_process g p
      at p o = numbered-table nobody (first_process g) g.workers p o.low o.high

  pub all_stick : (k : ℕ) → k + 1 ≤ g.workers → AreStuck g k (world_of g (stuck_moves k))
  all_stick zero h = opening_stuck
  all_stick (suc k) h =
      subst (λ w. AreStuck g (suc k) w) (sym (world_after_moves-append g (opening_world g) (stuck_moves k) (Turn (k + 2) ∷ Halt (k + 2) ∷ [])))
      (sticks k (world_of g (stuck_moves k)) (omega arith) (all_stick k (omega arith)))

-- what these moves are

pub stuck_stops : (k : ℕ) → length (stopped (stuck_moves k)) ≡ k
stuck_stops zero = refl
stuck_stops (suc k) =
    let all = ap length (stopped-append (stuck_moves k) (Turn (k + 2) ∷ Halt (k + 2) ∷ [])) ∙ length_push (stopped (stuck_moves k)) (k + 2) in
    let before = stuck_stops k in
    omega arith

pub stuck_leave : (k : ℕ) → leavers (stuck_moves k) ≡ []
stuck_leave zero = refl
stuck_leave (suc k) = leavers-append (stuck_moves k) (Turn (k + 2) ∷ Halt (k + 2) ∷ []) ∙ ap (λ l. l ++ []) (stuck_leave k)
