-- How a worker's run goes on, and how it ends.
use Rattle.std.proofs.Common.{◌≡◌, ℕ, ◌-◌, ◌<◌, ◌≤◌, Bool, true, false, List, [], ◌∷◌, ◌++◌, length, map, All, Option, Some, None, slice_get, refl, sym, ap, ◌∙◌, subst, arith}
use Rattle.std.specs.Prelude.{if◌then◌else◌}
use Rattle.std.proofs.lemmas.Bool.{true≢false}
use Rattle.std.proofs.lemmas.List.{length-map, map_push}
use Rattle.std.proofs.lemmas.List.Elements.{All-push}
use Rattle.atomic_table.specs.Seated.{TableId}
use Rattle.amo_params.specs.declared.givens.Givens.{Givens}
use Rattle.amo_kk.specs.Record.{is_over, wants_nothing, jobs_in_hand}
use Rattle.amo_kk.specs.declared.phase.Phase.{Phase}
use Rattle.amo_kk.specs.declared.phase.Phase.TheVariants.{Announcing, Trying, Reading, Claiming, Holding, Over, Left}
use Rattle.amo_words.specs.Faces.{Seated, machine}
use Rattle.amo_claims.specs.declared.states.After.{After}
use Rattle.amo_claims.specs.declared.states.After.TheVariants.{More as StillMore, Over as NowOver}
use Rattle.amo_claims.specs.States.{IsReady, Holds}
use Rattle.amo_claims.specs.Calls.{worker_in, IsOneStepOn}
use Rattle.amo_crew.specs.declared.outcome.End.{End}
use Rattle.amo_crew.specs.declared.outcome.End.TheVariants.{Ended, Halted}
use Rattle.amo_crew.specs.declared.run.member.Ran.{Ran}
use Rattle.amo_mailbox.specs.declared.output.Output.{Output}
use Rattle.amo_mailbox.specs.declared.queue.Queue.{Queue}
use Rattle.amo_mailbox.specs.declared.outlet.Outlet.{Outlet}
use Rattle.amo_crew.specs.declared.run.member.Member.{Member}
use Rattle.amo_mailbox.specs.Endpoints.{IsOutletOf, given}
use Rattle.amo_crew.specs.Running.{IsRelated, HasFiled, EndsSo, IsInHand, HasRun, IsMember}

abbrev some_job : List ℕ → Bool
some_job [] = false
some_job (j ∷ jobs) = true

-- a worker with a job in its hand wants a step
wants_to_file : (phase : Phase) (j : ℕ) → jobs_in_hand phase ≡ j ∷ [] → wants_nothing phase ≡ false
wants_to_file (Announcing i) j h = refl
wants_to_file (Trying i q) j h = refl
wants_to_file (Reading i q) j h = refl
wants_to_file (Claiming i) j h = refl
wants_to_file (Holding i) j h = refl
wants_to_file Over j h = absurd (true≢false (sym (ap some_job h)))
wants_to_file Left j h = absurd (true≢false (sym (ap some_job h)))

-- a worker that is over at its beginning
pub over_from : {P : Type 0} (b : Bool) (w e : Seated P) → NowOver e ≡ (if b then NowOver w else StillMore w) → (b ≡ true) × (e ≡ w)
over_from {P} true w e is = (refl, ap worker_in is)
  where
    worker_in : After P → Seated P
    worker_in (NowOver x) = x
    worker_in (StillMore x) = x
over_from {P} false w e is = absurd (true≢false (ap is_gone is))
  where
    is_gone : After P → Bool
    is_gone (NowOver x) = true
    is_gone (StillMore x) = false

module _ {P Out : Type 0} (related : ℕ → ℕ → P → Out → Type 0) (queue : Queue Out) (table : TableId) (g : Givens) (payloads : List P) (p budget : ℕ) where
  abbrev HF : Seated P → Outlet Out → Type 0
  HF w o = HasFiled related queue table g payloads p budget w o

  pub begins : (m : Member P Out) → IsMember queue table g payloads p budget m → HF (worker_in m.after) m.outlet
  begins m is = record {
    table_is = is.table_is;
    givens = is.givens;
    payloads_are = is.payloads_are;
    number = is.number;
    within = let z = is.fresh.steps in omega arith;
    belongs = is.belongs;
    worker = is.worker;
    room = is.room;
    jobs = ap (map (λ (x : Output Out). x.job)) is.empty ∙ sym is.fresh.dones;
    answers = subst (All (IsRelated related payloads)) (sym is.empty) (λ k d lt. absurd (omega arith));
  }

  pub moves : (b w : Seated P) (o : Outlet Out) → HF b o → IsOneStepOn b w → (machine w).state.dones ≡ (machine b).state.dones → (machine b).state.steps < budget → HF w o
  moves b w o h on same less = record {
    table_is = on.table ∙ h.table_is;
    givens = on.givens ∙ h.givens;
    payloads_are = on.payloads ∙ h.payloads_are;
    number = on.number ∙ h.number;
    within = let s = on.steps in omega arith;
    belongs = h.belongs;
    worker = h.worker;
    room = h.room;
    jobs = h.jobs ∙ sym same;
    answers = h.answers;
  }

  pub files : (b w : Seated P) (o o' : Outlet Out) (x : Output Out) → HF b o → IsOneStepOn b w → (machine w).state.dones ≡ (machine b).state.dones ++ x.job ∷ [] → (machine b).state.steps < budget
      → IsOutletOf queue o' → o'.worker ≡ o.worker → o'.room ≡ o.room → given o' ≡ given o ++ x ∷ [] → IsRelated related payloads x → HF w o'
  files b w o o' x h on more less belongs worker room grows answer = record {
    table_is = on.table ∙ h.table_is;
    givens = on.givens ∙ h.givens;
    payloads_are = on.payloads ∙ h.payloads_are;
    number = on.number ∙ h.number;
    within = let s = on.steps in omega arith;
    belongs = belongs;
    worker = worker ∙ h.worker;
    room = room ∙ h.room;
    jobs = ap (map (λ (y : Output Out). y.job)) grows ∙ map_push (λ (y : Output Out). y.job) (given o) x ∙ ap (λ l. l ++ x.job ∷ []) h.jobs ∙ sym more;
    answers = subst (All (IsRelated related payloads)) (sym grows) (All-push (IsRelated related payloads) (given o) x h.answers answer);
  }

  -- there is room for one more
  pub has_room : (b : Seated P) (o : Outlet Out) → HF b o → length (machine b).state.dones < b.view.givens.jobs → o.put_count < o.room
  has_room b o h few = let n = h.belongs.counted in let m = ap length h.jobs in let z = h.room in let y = ap (λ (x : Givens). x.jobs) h.givens in omega (arith, length-map (given o) (λ (y : Output Out). y.job))

  -- a claim, its performance and its filing
  pub does : (b h w : Seated P) (o o' : Outlet Out) (x : Output Out) (y : P) → HF b o → IsOneStepOn b h → (machine h).state.dones ≡ (machine b).state.dones → (machine b).state.steps < budget
      → (machine h).state.steps < budget → Holds h x.job y → x.worker ≡ p → related (machine h).number x.job y x.out → IsOneStepOn h w → (machine w).state.dones ≡ (machine h).state.dones ++ x.job ∷ []
      → IsOutletOf queue o' → (o'.worker ≡ o.worker) × (o'.room ≡ o.room) → given o' ≡ given o ++ x ∷ [] → HF w o'
  does b h w o o' x y at to same less less' holds mine answers on more belongs kept grows = let m = moves b h o at to same less in
      files h w o o' x m on more less' belongs kept.0 kept.1 grows (y, ap (λ l. slice_get l (x.job - 1)) (sym m.payloads_are) ∙ holds.payload, subst (λ n. related n x.job y x.out) (m.number ∙ sym mine) answers)

  -- how a run ends

  pub ended : (w : Seated P) (o : Outlet Out) (r : Ran P Out) → HF w o → r.gone ≡ w → r.outlet ≡ o → r.end ≡ Ended (machine w).state.steps → r.in_hand ≡ None
      → is_over (machine w).state.phase ≡ true → jobs_in_hand (machine w).state.phase ≡ [] → HasRun related queue table g payloads p budget r
  ended w o r h gone_is outlet_is end_is hand_is over empty = record {
    filed = subst (λ v. HF v r.outlet) (sym gone_is) (subst (λ x. HF w x) (sym outlet_is) h);
    ends = subst (λ (e : End). EndsSo budget (machine r.gone).state e) (sym end_is) (subst (λ v. EndsSo budget (machine v).state (Ended (machine w).state.steps)) (sym gone_is) (over, refl, h.within));
    hand = subst (λ (e : Option (ℕ × P)). IsInHand payloads (machine r.gone).state.phase e) (sym hand_is) (ap (λ v. jobs_in_hand (machine v).state.phase) gone_is ∙ empty);
  }

  module _ (w : Seated P) (o : Outlet Out) (r : Ran P Out) (h : HF w o) (gone_is : r.gone ≡ w) (outlet_is : r.outlet ≡ o) (end_is : r.end ≡ Halted (machine w).state.steps) (used : budget ≤ (machine w).state.steps) where
    stopped : wants_nothing (machine w).state.phase ≡ false → EndsSo budget (machine r.gone).state r.end
    stopped going = let within = h.within in subst (λ (e : End). EndsSo budget (machine r.gone).state e) (sym end_is) (subst (λ v. EndsSo budget (machine v).state (Halted (machine w).state.steps)) (sym gone_is) (going, refl, omega arith))

    filed : HF r.gone r.outlet
    filed = subst (λ v. HF v r.outlet) (sym gone_is) (subst (λ x. HF w x) (sym outlet_is) h)

    pub halted : r.in_hand ≡ None → IsReady w → HasRun related queue table g payloads p budget r
    halted hand_is ready = record {
      filed = filed;
      ends = stopped ready.goes_on;
      hand = subst (λ (e : Option (ℕ × P)). IsInHand payloads (machine r.gone).state.phase e) (sym hand_is) (ap (λ v. jobs_in_hand (machine v).state.phase) gone_is ∙ ready.empty);
    }

    pub holding : (j : ℕ) (x : P) → r.in_hand ≡ Some (j, x) → Holds w j x → HasRun related queue table g payloads p budget r
    holding j x hand_is holds = record {
      filed = filed;
      ends = stopped (wants_to_file (machine w).state.phase j holds.job);
      hand = subst (λ (e : Option (ℕ × P)). IsInHand payloads (machine r.gone).state.phase e) (sym hand_is)
          (ap (λ v. jobs_in_hand (machine v).state.phase) gone_is ∙ holds.job, ap (λ l. slice_get l (j - 1)) (sym h.payloads_are) ∙ holds.payload);
    }
