-- How a worker goes on in a loop of its caller's own.
use Rattle.std.proofs.Common.{◌≡◌, ℕ, Bool, true, false, cond, refl, ◌-◌, List, [], ◌∷◌, ◌++◌, map, slice_get, sym, ap, ◌∙◌, subst}
use Rattle.std.proofs.lemmas.List.{map_push, append_assoc}
use Rattle.std.proofs.lemmas.List.Elements.{All-push}
use Rattle.amo_kk.specs.Record.{is_over, wants_nothing}
use Rattle.amo_kk.specs.declared.phase.Phase.{Phase}
use Rattle.amo_kk.specs.declared.phase.Phase.TheVariants.{Over as PhaseOver, Left}
use Rattle.amo_words.specs.Faces.{Seated, machine}
use Rattle.amo_claims.specs.States.{Holds}
use Rattle.amo_claims.specs.Calls.{IsOneStepOn, IsOverNow, FilesOn, state_of, worker_in}
use Rattle.amo_claims.specs.declared.states.After.{After}
use Rattle.amo_claims.specs.declared.states.After.TheVariants.{More, Over}
use Rattle.amo_mailbox.specs.declared.output.Output.{Output}
use Rattle.amo_crew.specs.Running.{IsRelated}
use Rattle.amo_example_payments.specs.Stopping.{HasPaid, HasEnded, EndsIfOver, StaysAs}

module _ {P : Type 0} where
  filed : (h : Seated P) (j : ℕ) (after : After P) → FilesOn h j after → IsOneStepOn h (worker_in after) × ((machine (worker_in after)).state.dones ≡ (machine h).state.dones ++ j ∷ [])
  filed h j (More w) on = (on.0, on.1)
  filed h j (Over w) on = (on.0, on.1)

  pub steps : (v w : Seated P) → IsOneStepOn v w → (machine w).state.dones ≡ (machine v).state.dones → StaysAs v w
  steps v w on same = record {
    table = on.table;
    givens = on.givens;
    payloads_are = on.payloads;
    number = on.number;
    dones = same;
  }

-- who is over wants nothing
over_wants : (p : Phase) → is_over p ≡ true → wants_nothing p ≡ true
over_wants PhaseOver h = refl
over_wants Left h = refl
over_wants other h = h

pub over_has_ended : {P : Type 0} (w : Seated P) → IsOverNow w → HasEnded w
over_has_ended w h = over_wants (machine w).state.phase h.0

pub filed_ends : {P : Type 0} (h : Seated P) (j : ℕ) (after : After P) → FilesOn h j after → EndsIfOver after
filed_ends h j (More w) on = tt
filed_ends h j (Over w) on = over_has_ended w on.2

begun : {P : Type 0} (w : Seated P) (b : Bool) → wants_nothing (machine w).state.phase ≡ b → EndsIfOver (cond b (Over w) (More w))
begun w true e = e
begun w false e = tt

pub begins : {P : Type 0} (w : Seated P) (after : After P) → after ≡ state_of w → EndsIfOver after
begins w after e = subst EndsIfOver (sym e) (begun w (wants_nothing (machine w).state.phase) refl)

module _ {P Out : Type 0} (related : ℕ → ℕ → P → Out → Type 0) (b : Seated P) where
  abbrev HP : Seated P → List (Output Out) → Type 0
  HP w xs = HasPaid related b w xs

  pub stays : (v w : Seated P) (xs : List (Output Out)) → HP v xs → StaysAs v w → HP w xs
  stays v w xs h on = record {
    table = on.table ∙ h.table;
    givens = on.givens ∙ h.givens;
    payloads_are = on.payloads_are ∙ h.payloads_are;
    number = on.number ∙ h.number;
    dones = on.dones ∙ h.dones;
    answers = h.answers;
  }

  pub files : (v w : Seated P) (xs : List (Output Out)) (x : Output Out) → HP v xs → IsOneStepOn v w → (machine w).state.dones ≡ (machine v).state.dones ++ x.job ∷ [] → IsRelated related b.view.payloads x → HP w (xs ++ x ∷ [])
  files v w xs x h on more answer = record {
    table = on.table ∙ h.table;
    givens = on.givens ∙ h.givens;
    payloads_are = on.payloads ∙ h.payloads_are;
    number = on.number ∙ h.number;
    dones = more ∙ ap (λ l. l ++ x.job ∷ []) h.dones ∙ append_assoc (machine b).state.dones (map (λ (y : Output Out). y.job) xs) (x.job ∷ [])
        ∙ ap (λ l. (machine b).state.dones ++ l) (sym (map_push (λ (y : Output Out). y.job) xs x));
    answers = All-push (IsRelated related b.view.payloads) xs x h.answers answer;
  }

  -- a claim, its performance and its filing
  pub does : (v h : Seated P) (after : After P) (xs : List (Output Out)) (x : Output Out) (y : P) → HP v xs → IsOneStepOn v h → (machine h).state.dones ≡ (machine v).state.dones → FilesOn h x.job after
      → Holds h x.job y → (machine v).number ≡ x.worker → related (machine h).number x.job y x.out → HP (worker_in after) (xs ++ x ∷ [])
  does v h after xs x y at to same on holds mine answers =
      let now = stays v h xs at (steps v h to same) in
      let step = filed h x.job after on in
      files h (worker_in after) xs x now step.0 step.1 (y, ap (λ l. slice_get l (x.job - 1)) (sym now.payloads_are) ∙ holds.payload, subst (λ n. related n x.job y x.out) (to.number ∙ mine) answers)
