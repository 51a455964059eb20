-- Within this crate: what a worker does in a loop of its caller's own.
use Rattle.std.specs.Prelude.{◌≡◌, ℕ, true, List, [], ◌++◌, map, All, ⊤}
use Rattle.amo_kk.specs.Record.{jobs_in_hand, wants_nothing}
use Rattle.amo_words.specs.Faces.{Seated, machine}
use Rattle.amo_claims.specs.declared.states.After.{After}
use Rattle.amo_claims.specs.declared.states.After.TheVariants.{More, Over}
use Rattle.amo_mailbox.specs.declared.output.Output.{Output}
use Rattle.amo_crew.specs.Running.{IsRelated}

-- The worker b, now w, has filed just the jobs of these outputs, in their order, and each answer is
-- that of its job's payload.
pub record HasPaid {P Out : Type 0} (related : ℕ → ℕ → P → Out → Type 0) (b w : Seated P) (outputs : List (Output Out)) : Type 0 where
  pub table : w.table_id ≡ b.table_id
  pub givens : w.view.givens ≡ b.view.givens
  pub payloads_are : w.view.payloads ≡ b.view.payloads
  pub number : (machine w).number ≡ (machine b).number
  pub dones : (machine w).state.dones ≡ (machine b).state.dones ++ map (λ x. x.job) outputs
  pub answers : All (IsRelated related b.view.payloads) outputs

-- nothing is in the worker's hand
abbrev pub IsEmpty : {P : Type 0} → Seated P → Type 0
IsEmpty w = jobs_in_hand (machine w).state.phase ≡ []

-- the worker takes no step any more: it has ended by its own choice, or it has left
abbrev pub HasEnded : {P : Type 0} → Seated P → Type 0
HasEnded w = wants_nothing (machine w).state.phase ≡ true

-- whoever is over has ended
abbrev pub EndsIfOver : {P : Type 0} → After P → Type 0
EndsIfOver (More w) = ⊤
EndsIfOver (Over w) = HasEnded w

-- The worker b, now w, has done nothing more.
pub record StaysAs {P : Type 0} (b w : Seated P) : Type 0 where
  pub table : w.table_id ≡ b.table_id
  pub givens : w.view.givens ≡ b.view.givens
  pub payloads_are : w.view.payloads ≡ b.view.payloads
  pub number : (machine w).number ≡ (machine b).number
  pub dones : (machine w).state.dones ≡ (machine b).state.dones
