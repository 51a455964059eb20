-- The effect of a turn: the worker's next record and its words. The others stay.
use Rattle.std.proofs.Common.{◌≡◌, ◌≢◌, ℕ, Bool, true, false, [], ◌∷◌, ◌++◌, refl, ap, ◌∙◌, not, ◌&&◌}
use Rattle.std.specs.Prelude.{if◌then◌else◌}
use Rattle.amo_sets.specs.Sets.{has}
use Rattle.amo_params.specs.Givens.{IsWorker}
use Rattle.amo_kk.specs.Choice.{record_after_choice, record_after_check}
use Rattle.amo_kk.specs.Record.{is_over, jobs_in_hand}
use Rattle.amo_kk.specs.Run.{done_jobs}
use Rattle.amo_kk.specs.Step.{want_in, shown, events_of}
use Rattle.amo_kk.specs.World.{process, process_after, world_after_turn}
use Rattle.amo_kk.specs.Answer.{turn_shown}
use Rattle.amo_kk.specs.Lawful.{IsLawful}
use Rattle.amo_params.specs.declared.givens.Givens.{Givens}
use Rattle.amo_kk.specs.declared.phase.Phase.{Phase}
use Rattle.amo_kk.specs.declared.phase.Phase.TheVariants.{Announcing, Claiming, Holding, Over, Left}
use Rattle.amo_kk.specs.declared.model.Record.{Record}
use Rattle.amo_kk.specs.declared.model.Process.{Process}
use Rattle.amo_kk.specs.declared.model.World.{World}
use Rattle.amo_kk.specs.declared.event.Shown.TheVariants.{Quiet, Done as DoneShown, DoneEnded, Ended as EndedShown}
use Rattle.amo_kk.proofs.Claims.{done-append}
use Rattle.amo_kk.proofs.OwnTurns.{next_record, has_turned}
use Rattle.amo_kk.proofs.Shows.{turn_history}

-- the announcement after a turn in this phase
abbrev pub next_after : Phase → ℕ → ℕ
next_after (Announcing j) next = j
next_after phase next = next

stored_next : (a : Process) (phase : Phase) (r : Record) → (process_after (want_in a.local phase) a r).next ≡ next_after phase a.next
stored_next a (Announcing j) r = refl
stored_next a phase r = refl

-- a turn shows done what was in the hand before it
shown_done : (p : ℕ) (before after : Phase) → done_jobs (events_of p (shown before after)) ≡ jobs_in_hand before
shown_done p before after = go before
  where
    quiet : (b : Bool) → done_jobs (events_of p (if b then EndedShown else Quiet)) ≡ []
    quiet true = refl
    quiet false = refl

    done : (j : ℕ) (b : Bool) → done_jobs (events_of p (if b then DoneEnded j else DoneShown j)) ≡ j ∷ []
    done j true = refl
    done j false = refl

    go : (before : Phase) → done_jobs (events_of p (shown before after)) ≡ jobs_in_hand before
    go (Claiming j) = refl
    go (Holding j) = done j (is_over after)
    go Over = refl
    go Left = refl
    go attempting = quiet (is_over after)

-- v is w after a turn of p
pub record IsAfterTurn (g : Givens) (w : World) (p : ℕ) (v : World) : Type 0 where
  pub worker : IsWorker g p
  pub law : IsLawful g v
  pub local : (process v p).local ≡ next_record g w p
  pub next : (process v p).next ≡ next_after (process w p).local.phase (process w p).next
  pub gone : (process v p).gone ≡ is_over (next_record g w p).phase
  pub others : (q : ℕ) → q ≢ p → process v q ≡ process w q
  -- what was in its hand is shown done
  pub done : done_jobs v.history ≡ done_jobs w.history ++ jobs_in_hand (process w p).local.phase

pub after_turn : (g : Givens) (w : World) (p : ℕ) → IsLawful g w → (process w p).gone ≡ false → IsAfterTurn g w p (world_after_turn g w p)
after_turn g w p law here =
    let turned = has_turned g w p law here in
    let r = (process w p).local in
    let x = next_record g w p in
    record {
      worker = turned.worker;
      law = turned.law;
      local = turned.local;
      next = ap (λ (y : Process). y.next) turned.now ∙ stored_next (process w p) r.phase x;
      gone = turned.gone;
      others = turned.others;
      done = ap done_jobs (turn_history g w p here) ∙ done-append w.history (events_of p (turn_shown g w p)) ∙ ap (λ l. done_jobs w.history ++ l) (shown_done p r.phase x.phase);
    }

-- a check of j passes where j is neither known nor tried
pub check_passes : (g : Givens) (p j : ℕ) (r : Record) → has r.known j ≡ false → has r.tried j ≡ false → record_after_check g p j r ≡ record r { phase = Claiming j }
check_passes g p j r known tried = λ i. if not (known i) && not (tried i) then record r { phase = Claiming j } else record_after_choice g p r
