-- The access that a process wants is its step.
use Rattle.std.proofs.Common.{◌≡◌, ℕ, refl, Option, Some, None}
use Rattle.std.specs.Prelude.{if◌then◌else◌}
use Rattle.amo_kk.specs.Record.{wants_nothing}
use Rattle.amo_kk.specs.Step.{want_in}
use Rattle.amo_kk.specs.Words.{words_after}
use Rattle.amo_params.specs.declared.givens.Givens.{Givens}
use Rattle.amo_kk.specs.declared.phase.Phase.{Phase}
use Rattle.amo_kk.specs.declared.phase.Phase.TheVariants.{Announcing}
use Rattle.amo_kk.specs.declared.model.Record.{Record}
use Rattle.amo_process.specs.declared.standing.Standing.{Standing}
use Rattle.amo_process.specs.declared.standing.Standing.TheVariants.{Beginning, Going}
use Rattle.amo_process.specs.Stepped.{access_for, access_of}
use Rattle.amo_process.specs.Shared.{Shared, heard_of, with_heard, shared_after_step, shared_after_access}

module _ (g : Givens) (s : Shared) (p : ℕ) where
  by_phase : (r : Record) (phase : Phase)
      → (if wants_nothing phase then s else with_heard s p (heard_of g s.words (want_in r phase)) (words_after g p (want_in r phase) s.words))
      ≡ shared_after_access s p (access_for g p (want_in r phase))
  by_phase r (Announcing j) = refl
  by_phase r phase = refl

  pub access_is_step : (o : Option Standing) → shared_after_step g s p o ≡ shared_after_access s p (access_of g p o)
  access_is_step None = refl
  access_is_step (Some (Beginning word)) = refl
  access_is_step (Some (Going l fresh)) = by_phase l.state l.state.phase
