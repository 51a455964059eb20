-- A worker that runs alone: how far it has come, and that it comes to rest in time.
use Rattle.std.proofs.Common.{◌≡◌, ⊎_elim, ℕ, zero, suc, ◌+◌, ◌<◌, ◌≤◌, Bool, true, false, ◌||◌, refl, sym, ap, ◌∙◌, subst, arith, add-one}
use Rattle.std.specs.Prelude.{if◌then◌else◌}
use Rattle.std.proofs.lemmas.Bool.{cases_lt, cases_eq, cases_Bool, true≢false, or_parts}
use Rattle.amo_params.specs.Givens.{IsWorker, lone_bound}
use Rattle.amo_kk.specs.Record.{is_over, wants_nothing}
use Rattle.amo_kk.specs.Step.{want, record_after, shown}
use Rattle.amo_kk.specs.World.{process, loaded_value, world_after_turn}
use Rattle.amo_kk.specs.Answer.{turn_shown}
use Rattle.amo_kk.specs.Alone.{is_claiming, claims_or_ends, world_after_turns, IsFirstToClaimOrEnd}
use Rattle.amo_kk.specs.Lawful.{IsLawful}
use Rattle.amo_params.specs.declared.givens.Givens.{Givens}
use Rattle.amo_kk.specs.declared.phase.Phase.{Phase}
use Rattle.amo_kk.specs.declared.phase.Phase.TheVariants.{Claiming, Holding, Over, Left}
use Rattle.amo_kk.specs.declared.model.World.{World}
use Rattle.amo_kk.proofs.Worlds.{here_is_worker, turn_lawful}
use Rattle.amo_kk.proofs.OwnTurns.{own_turn}
use Rattle.amo_kk.proofs.Alone.{claims_or_ends_soon}
use Rattle.amo_kk.proofs.Attempts.{fits_three}
use Rattle.amo_world.specs.Answer.{turned, turn_answer, alone_answer}
use Rattle.amo_world.specs.Resting.{RunsAlone}
use Rattle.amo_world.specs.Views.{WorldView}
use Rattle.amo_world.specs.declared.answer.Alone.{Alone}
use Rattle.amo_world.specs.declared.answer.Alone.TheVariants.{Claimed as ClaimedAlone, Ended as EndedAlone}
use Rattle.amo_kk.specs.declared.event.Shown.TheVariants.{Quiet, Done as DoneShown, DoneEnded as DoneEndedShown, Ended as EndedShown}
use Rattle.amo_world.specs.declared.answer.Turned.{Turned}
use Rattle.amo_world.specs.declared.answer.Turned.TheVariants.{Claimed, DoneEnded, Ended, Idle}

-- k turns of p alone lead from this world to that one, none of them claimed or ended p, and p isn't
-- gone
pub record IsUnderWay (g : Givens) (before : World) (p k : ℕ) (w : World) : Type 0 where
  pub leads : world_after_turns g before p k ≡ w
  pub none : (i : ℕ) → i < k → claims_or_ends g (world_after_turns g before p i) p ≡ false
  pub lawful : IsLawful g w
  pub here : (process w p).gone ≡ false

-- it is known that one turn in time claims or ends p; so there was room for this one
pub under_way_soon : (g : Givens) (before : World) (p k : ℕ) (w : World) → IsLawful g before → (process before p).gone ≡ false → IsUnderWay g before p k w → k < lone_bound g
under_way_soon g before p k w law here way =
    let soon = claims_or_ends_soon g before p g.limits law here in
    ⊎_elim (λ (l : soon.0 < k). absurd (true≢false (sym soon.2.this_one ∙ way.none soon.0 l))) (λ (l : k ≤ soon.0). let m = soon.1 in omega arith) (cases_lt soon.0 k)

-- one turn more
turns_next : (g : Givens) (w : World) (p k : ℕ) → world_after_turns g w p (suc k) ≡ world_after_turn g (world_after_turns g w p k) p
turns_next g w p zero = refl
turns_next g w p (suc k) = turns_next g (world_after_turn g w p) p k

-- the answers after which p comes to rest
abbrev pub rests : Turned → Bool
rests (Claimed j) = true
rests (DoneEnded j) = true
rests Ended = true
rests answer = false

-- what such an answer says of the worker
abbrev pub alone_of : Turned → Alone
alone_of (Claimed j) = ClaimedAlone j
alone_of answer = EndedAlone

quiet_rests : (b : Bool) → rests (turned (if b then EndedShown else Quiet)) ≡ b
quiet_rests true = refl
quiet_rests false = refl

rests_is : (phase after : Phase) → wants_nothing phase ≡ false → rests (turned (shown phase after)) ≡ (is_claiming phase || is_over after)
rests_is (Claiming j) after wants = refl
rests_is (Holding j) after wants = done (is_over after)
  where
    done : (b : Bool) → rests (turned (if b then DoneEndedShown j else DoneShown j)) ≡ b
    done true = refl
    done false = refl
rests_is Over after wants = absurd (true≢false wants)
rests_is Left after wants = absurd (true≢false wants)
rests_is attempting after wants = quiet_rests (is_over after)

quiet_alone : (b : Bool) → alone_of (turned (if b then EndedShown else Quiet)) ≡ EndedAlone
quiet_alone true = refl
quiet_alone false = refl

alone_is : (phase after : Phase) → alone_of (turned (shown phase after)) ≡ alone_answer phase
alone_is (Claiming j) after = refl
alone_is (Holding j) after = done (is_over after)
  where
    done : (b : Bool) → alone_of (turned (if b then DoneEndedShown j else DoneShown j)) ≡ EndedAlone
    done true = refl
    done false = refl
alone_is Over after = refl
alone_is Left after = refl
alone_is attempting after = quiet_alone (is_over after)

module _ (g : Givens) (w : World) (p : ℕ) (law : IsLawful g w) (here : (process w p).gone ≡ false) where
  o : IsWorker g p
  o = here_is_worker g w p law.size here

  going : wants_nothing (process w p).local.phase ≡ false
  going = ⊎_elim (λ t. absurd (true≢false (sym ((law.lawful.sound p o).gone t) ∙ here))) (λ f. f) (cases_Bool (wants_nothing (process w p).local.phase))

  -- a turn's result shows whether it claims or ends
  turn_rests : rests (turn_answer g w p) ≡ claims_or_ends g w p
  turn_rests =
      ap (λ b. rests (if b then Idle else turned (turn_shown g w p))) here
      ∙ rests_is (process w p).local.phase (record_after g p (loaded_value w (want (process w p).local)) (process w p).local).phase going

  turn_alone : alone_of (turn_answer g w p) ≡ alone_answer (process w p).local.phase
  turn_alone =
      ap (λ b. alone_of (if b then Idle else turned (turn_shown g w p))) here
      ∙ alone_is (process w p).local.phase (record_after g p (loaded_value w (want (process w p).local)) (process w p).local).phase

  -- and after a turn that does neither, the worker isn't gone
  pub here_next : claims_or_ends g w p ≡ false → (process (world_after_turn g w p) p).gone ≡ false
  here_next h = (own_turn g w p law here (or_parts (is_claiming (process w p).local.phase) (is_over (record_after g p (loaded_value w (want (process w p).local)) (process w p).local).phase) h).1).here

turn_goes_on : (g : Givens) (before : World) (p k : ℕ) (w : World) → IsUnderWay g before p k w → rests (turn_answer g w p) ≡ false → IsUnderWay g before p (k + 1) (world_after_turn g w p)
turn_goes_on g before p k w way quiet =
    record {
      leads = ap (λ n. world_after_turns g before p n) (add-one k) ∙ turns_next g before p k ∙ ap (λ x. world_after_turn g x p) way.leads;
      none = λ i l. ⊎_elim
          (λ (e : i ≡ k). ap (λ n. claims_or_ends g (world_after_turns g before p n) p) e ∙ ap (λ x. claims_or_ends g x p) way.leads ∙ now)
          (λ (n : i ≡ k → ⊥). way.none i (omega arith))
          (cases_eq i k);
      lawful = turn_lawful g w p g.limits way.lawful;
      here = here_next g w p way.lawful way.here now;
    }
  where
    now : claims_or_ends g w p ≡ false
    now = sym (turn_rests g w p way.lawful way.here) ∙ quiet

turn_comes_to_rest : (g : Givens) (before : World) (p k : ℕ) (w : World) → IsLawful g before → (process before p).gone ≡ false → IsUnderWay g before p k w → rests (turn_answer g w p) ≡ true
    → RunsAlone g before p (world_after_turn g w p) (alone_of (turn_answer g w p))
turn_comes_to_rest g before p k w law here way rest =
    record {
      others = k;
      soon = under_way_soon g before p k w law here way;
      first = first;
      few = fits_three g before p k g.limits law here first;
      leads = ap (λ x. world_after_turn g x p) (sym way.leads) ∙ sym (turns_next g before p k);
      answers = turn_alone g w p way.lawful way.here ∙ ap (λ (x : World). alone_answer (process x p).local.phase) (sym way.leads);
    }
  where
    first : IsFirstToClaimOrEnd g before p k
    first = record {
      none_before = way.none;
      this_one = ap (λ x. claims_or_ends g x p) way.leads ∙ sym (turn_rests g w p way.lawful way.here) ∙ rest;
    }

-- the same, of a turn that made this view and gave this answer
module _ (g : Givens) (before : World) (p k : ℕ) (v x : WorldView) (t : Turned) (same : v.givens ≡ g) (answer : t ≡ turn_answer v.givens v.world p)
    (makes : x ≡ record { givens = v.givens; world = world_after_turn v.givens v.world p }) (way : IsUnderWay g before p k v.world) where
  here_answer : turn_answer g v.world p ≡ t
  here_answer = ap (λ y. turn_answer y v.world p) (sym same) ∙ sym answer

  here_after : world_after_turn g v.world p ≡ x.world
  here_after = ap (λ y. world_after_turn y v.world p) (sym same) ∙ sym (ap (λ (y : WorldView). y.world) makes)

  pub goes_on : rests t ≡ false → IsUnderWay g before p (k + 1) x.world
  goes_on quiet = subst (λ y. IsUnderWay g before p (k + 1) y) here_after (turn_goes_on g before p k v.world way (ap rests here_answer ∙ quiet))

  pub comes_to_rest : IsLawful g before → (process before p).gone ≡ false → rests t ≡ true → RunsAlone g before p x.world (alone_of t)
  comes_to_rest law here rest =
      subst (λ y. RunsAlone g before p y (alone_of t)) here_after
      (subst (λ y. RunsAlone g before p (world_after_turn g v.world p) (alone_of y)) here_answer
      (turn_comes_to_rest g before p k v.world law here way (ap rests here_answer ∙ rest)))
