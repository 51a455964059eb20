-- How soon worker 1 ends beside others that are stuck: each turn leaves fewer, of 2 m + 1 for each
-- of the fewest jobs.
use Rattle.std.proofs.Common.{◌≡◌, ℕ, zero, suc, ◌+◌, ◌-◌, ◌*◌, ◌<◌, ◌≤◌, Bool, true, false, ◌∷◌, ◌++◌, [], length, refl, sym, ap, ◌∙◌, subst, arith}
use Rattle.std.proofs.lemmas.Bool.{true≢false}
use Rattle.std.proofs.lemmas.List.{length_push}
use Rattle.amo_sets.specs.Sets.{with_number}
use Rattle.amo_params.specs.Givens.{next_other}
use Rattle.amo_kk.specs.Record.{is_over}
use Rattle.amo_kk.specs.Choice.{record_after_choice, record_after_check, first_record}
use Rattle.amo_kk.specs.World.{process, world_after_turn}
use Rattle.amo_kk.specs.Alone.{world_after_turns}
use Rattle.amo_params.specs.declared.givens.Givens.{Givens}
use Rattle.amo_kk.specs.declared.phase.Phase.{Phase}
use Rattle.amo_kk.specs.declared.phase.Phase.TheVariants.{Announcing, Trying, Reading, Claiming, Holding, Over, Left}
use Rattle.amo_kk.specs.declared.model.Record.{Record}
use Rattle.amo_kk.specs.declared.model.Process.{Process}
use Rattle.amo_kk.specs.declared.model.World.{World}
use Rattle.amo_kk.proofs.Choice.{choice_cases, next_other_above}
use Rattle.amo_kk.proofs.Shows.{idle}
use Rattle.amo_bounds.specs.Fewest.{fewest}
use Rattle.amo_bounds.specs.Worst.{lone_turns}
use Rattle.amo_bounds.proofs.Turns.{check_passes}
use Rattle.amo_bounds.proofs.Still.{still, view, still_lawful, turn_of}
use Rattle.amo_bounds.proofs.TurnCases.{turn_cases}
use Rattle.amo_bounds.proofs.Stuck.{first, AreStuck, first_empty, first_phase}
use Rattle.amo_bounds.proofs.Lone.{fewest_is, IsAt, AtPhase, IsRunning, good_turn, running_turn, starts}

module _ (g : Givens) (enough : g.beta ≤ g.jobs) where
  abbrev whole : ℕ
  whole = 2 * g.workers + 1

  -- the turns of the attempts after this one, where so many jobs are done before it
  later : ℕ → ℕ
  later d = (fewest g - suc d) * whole

  later_falls : (d : ℕ) → suc d < fewest g → later d ≡ whole + later (suc d)
  unfolding later
  later_falls d more = let e : fewest g - suc d ≡ suc (fewest g - suc (suc d)) = omega arith in ap (λ k. k * whole) e ∙ omega arith

  later_first : 1 ≤ fewest g → whole + later 0 ≡ lone_turns g
  unfolding later
  later_first some = let e : fewest g ≡ suc (fewest g - 1) = omega arith in omega arith ∙ ap (λ k. k * whole) (sym e)

  -- the turns from this phase to the end, where so many jobs are done
  abbrev to_end : Phase → ℕ → ℕ
  to_end (Announcing j) d = whole + later d
  to_end (Trying j q) d = (g.workers + 1 - q) + (g.workers - 1) + 2 + later d
  to_end (Reading j q) d = (g.workers + 1 - q) + 2 + later d
  to_end (Claiming j) d = 2 + later d
  to_end (Holding j) d = 1 + later d
  to_end Over d = 0
  to_end Left d = 0

  abbrev turns_left : Record → ℕ
  turns_left r = to_end r.phase (length r.dones)

  -- a turn of worker 1
  module _ (w : World) (run : IsRunning g enough w) (here : (process w 1).gone ≡ false) where
    abbrev r : Record
    r = (view w 1).local

    abbrev now : Record
    now = (view (world_after_turn g w 1) 1).local

    at_phase : (phase : Phase) → r.phase ≡ phase → AtPhase g enough r phase
    at_phase phase is = subst (λ x. AtPhase g enough r x) is run.good.at

    -- it goes on in the phase `after`, with no more dones
    goes_on : (before after : Phase) → r.phase ≡ before → turns_left now ≡ to_end after (length r.dones)
        → to_end after (length r.dones) < to_end before (length r.dones) → turns_left now < turns_left r
    goes_on before after is e less = let b = ap (λ x. to_end x (length r.dones)) is in omega arith

    -- the check of j passes
    passes : (before : Phase) (j : ℕ) → r.phase ≡ before → IsAt g enough r j → now ≡ still (record_after_check g 1 j r)
        → 2 + later (length r.dones) < to_end before (length r.dones) → turns_left now < turns_left r
    passes before j is at e less = goes_on before (Claiming j) is (ap turns_left (e ∙ ap still (check_passes g 1 j r at.unknown (run.good.tried j at.untaken)))) less

    -- after the performance of j it ends, or begins another attempt
    performs : (j : ℕ) → r.phase ≡ Holding j → now ≡ still (record_after_choice g 1 (record r { dones = r.dones ++ j ∷ []; known = with_number j r.known })) → turns_left now < turns_left r
    performs j is e =
        subst (λ x. turns_left x < turns_left r) (sym e)
        (choice_cases g 1 after (λ x. now ≡ still x → turns_left (still x) < turns_left r)
        (λ _ _. let b = ap (λ x. to_end x (length r.dones)) is in omega arith)
        (λ _ is_now.
        let at : AtPhase g enough now now.phase = (good_turn g enough w run here).at in
        let more : length now.dones < fewest g = less now (ap (λ (x : Record). x.phase) is_now) at in
        let size = ap (λ (x : Record). length x.dones) is_now ∙ length_push r.dones j in
        let same : length (r.dones ++ j ∷ []) ≡ suc (length r.dones) = length_push r.dones j ∙ omega arith in
        let falls = later_falls (length r.dones) (omega arith) in
        let b = ap (λ x. to_end x (length r.dones)) is in
        let d = ap later same in
        omega arith)
        e)
      where
        after : Record
        after = record r { dones = r.dones ++ j ∷ []; known = with_number j r.known }

        less : {i : ℕ} (x : Record) → x.phase ≡ Announcing i → AtPhase g enough x x.phase → length x.dones < fewest g
        less x e at = (subst (λ y. AtPhase g enough x y) e at).less

    nearer : turns_left now < turns_left r
    nearer = turn_cases g (view w) (view (world_after_turn g w 1)) 1 (still_lawful g w run.law) (turn_of g w 1 run.law here) (turns_left now < turns_left r)
        (λ j is none first e. let high = first.worker.high in goes_on (Announcing j) (Trying j (next_other 1 0)) is (ap turns_left e) (omega arith))
        (λ j is none nobody e. let some = g.limits.some in passes (Announcing j) j is (at_phase (Announcing j) is) e (omega arith))
        (λ j q is other in_range e. let above = next_other_above 1 q in goes_on (Trying j q) (Trying j (next_other 1 q)) is (ap turns_left e) (omega arith))
        (λ j q is other above first e. let high = other.worker.high in goes_on (Trying j q) (Reading j (next_other 1 0)) is (ap turns_left e) (omega arith))
        (λ j q i is other more e. absurd (let none = ap length (run.stuck q other).dones in omega arith))
        (λ j q is other all in_range e. let above = next_other_above 1 q in goes_on (Reading j q) (Reading j (next_other 1 q)) is (ap turns_left e) (omega arith))
        (λ j q is other all above e. let high = other.worker.high in passes (Reading j q) j is (at_phase (Reading j q) is).0 e (omega arith))
        (λ j is e. goes_on (Claiming j) (Holding j) is (ap turns_left e) (omega arith))
        (λ j is e. performs j is e)

  -- it has ended if no turns are left
  none_left : (phase : Phase) (r : Record) → AtPhase g enough r phase → to_end phase (length r.dones) ≡ 0 → is_over phase ≡ true
  none_left Over r at e = refl
  none_left Left r at e = absurd at
  none_left (Announcing j) r at e = absurd (omega arith)
  none_left (Trying j q) r at e = absurd (omega arith)
  none_left (Reading j q) r at e = absurd (omega arith)
  none_left (Claiming j) r at e = absurd (omega arith)
  none_left (Holding j) r at e = absurd (omega arith)

  -- so it is gone after as many turns as are left
  is_gone : (k : ℕ) (w : World) → IsRunning g enough w → turns_left (view w 1).local ≤ k → (process (world_after_turns g w 1 k) 1).gone ≡ true
  is_gone zero w run few = run.gone ∙ none_left (view w 1).local.phase (view w 1).local run.good.at (omega arith)
  is_gone (suc k) w run few = go (process w 1).gone refl (λ v goes few_left. is_gone k v goes few_left)
    where
      ended : (phase : Phase) (d : ℕ) → is_over phase ≡ true → to_end phase d ≡ 0
      ended Over d e = refl
      ended phase d e = absurd (true≢false (sym e))

      go : (b : Bool) → (process w 1).gone ≡ b
          → ((v : World) → IsRunning g enough v → turns_left (view v 1).local ≤ k → (process (world_after_turns g v 1 k) 1).gone ≡ true)
          → (process (world_after_turns g (world_after_turn g w 1) 1 k) 1).gone ≡ true
      go true gone then =
          let none = ended (process w 1).local.phase (length (process w 1).local.dones) (sym run.gone ∙ gone) in
          subst (λ v. (process (world_after_turns g v 1 k) 1).gone ≡ true) (sym (idle g w 1 gone)) (then w run (omega arith))
      go false here then = then (world_after_turn g w 1) (running_turn g enough w run here) (let n = nearer w run here in omega arith)

  -- at first all are left
  all_left : (w : World) → AreStuck g (g.workers - 1) w → turns_left (view w 1).local ≡ lone_turns g
  all_left w s =
      ap (λ (a : Process). to_end a.local.phase (length a.local.dones)) s.one
      ∙ ap (λ phase. to_end phase (length (first_record g 1).dones)) (first_phase g enough 1 (record { low = omega arith; high = g.limits.some }))
      ∙ ap (λ l. to_end (Announcing (first g 1)) (length l)) (first_empty g 1)
      ∙ later_first (fewest_is g enough).one

  pub soon_gone : (w : World) → AreStuck g (g.workers - 1) w → (process (world_after_turns g w 1 (lone_turns g)) 1).gone ≡ true
  soon_gone w s = is_gone (lone_turns g) w (starts g enough w s) (let all = all_left w s in omega arith)
