-- A worker that isn't gone reads, in a lawful world, only values that are possible for it.
use Rattle.std.proofs.Common.{◌≡◌, ℕ, ◌+◌, ◌≤◌, true, false, not, ◌&&◌, refl, sym, ap, ◌∙◌, subst, arith, length}
use Rattle.std.specs.Prelude.{◌==◌, nat_le}
use Rattle.std.proofs.lemmas.Bool.{true≢false}
use Rattle.std.proofs.lemmas.Bool.Decides.{nat_tests}
use Rattle.amo_sets.specs.Lists.{numbered}
use Rattle.amo_params.specs.Givens.{IsWorker, IsOther, IsJob, others_before}
use Rattle.amo_kk.specs.Record.{wants_nothing}
use Rattle.amo_kk.specs.Step.{want, want_in}
use Rattle.amo_kk.specs.Lawful.{IsLawful, FitsPhase}
use Rattle.amo_kk.specs.World.{process, loaded_value}
use Rattle.amo_params.specs.declared.givens.Givens.{Givens}
use Rattle.amo_kk.specs.declared.model.World.{World}
use Rattle.amo_kk.specs.declared.phase.Phase.{Phase}
use Rattle.amo_kk.specs.declared.phase.Phase.TheVariants.{Trying, Reading, Over, Left}
use Rattle.amo_kk.proofs.Loads.{row_is}
use Rattle.amo_kk.proofs.Worlds.{here_is_worker}
use Rattle.amo_kk.proofs.OwnTurns.{wants_some}
use Rattle.amo_process.specs.Heard.{can_hear}

fits : (v n : ℕ) → v ≤ n → nat_le v n ≡ true
fits v n l = grind (arith, nat_tests)

last_zero : (v n k : ℕ) → v ≤ n → (k ≡ n + 1 → v ≡ 0) → (nat_le v n && not (k == n + 1 && not (v == 0))) ≡ true
last_zero v n k l z = grind (arith, nat_tests, fits)

module _ (g : Givens) (w : World) (law : IsLawful g w) where
  pub heard_fits : (p : ℕ) → (process w p).gone ≡ false → can_hear g (loaded_value w (want (process w p).local)) (want (process w p).local) ≡ true
  heard_fits p here = go (process w p).local.phase refl
    where
      o : IsWorker g p
      o = here_is_worker g w p law.size here

      stands : FitsPhase g p (process w p).local (process w p).local.phase
      stands = (law.lawful.sound p o).local.stands

      wants : wants_nothing (process w p).local.phase ≡ false
      wants = wants_some g w p law o here

      Hears : Phase → Type 0
      Hears x = can_hear g (loaded_value w (want_in (process w p).local x)) (want_in (process w p).local x) ≡ true

      go : (phase : Phase) → (process w p).local.phase ≡ phase → Hears (process w p).local.phase
      go (Trying j q) e =
          let st : IsJob g j × IsOther g p q × (length (process w p).local.tried ≤ others_before p q) = rw e at stands in
          subst Hears (sym e) (fits _ _ (law.lawful.sound q st.1.worker).next)
      go (Reading j q) e =
          let st : IsJob g j × IsOther g p q = rw e at stands in
          let z = row_is g w law q (numbered 0 (process w p).local.fronts q + 1) st.1.worker in
          subst Hears (sym e) (last_zero _ _ _ z.0 z.1)
      go Over e = absurd (true≢false (sym (ap wants_nothing e) ∙ wants))
      go Left e = absurd (true≢false (sym (ap wants_nothing e) ∙ wants))
      go phase e = subst Hears (sym e) refl
