-- The value of a load in a lawful world: a job or 0, and 0 in the last place of a row.
use Rattle.std.proofs.Common.{◌≡◌, ⊎_elim, ℕ, zero, suc, ◌+◌, ◌<◌, ◌≤◌, true, false, ◌||◌, length, get_or, sym, ap, ◌∙◌, subst, refl, arith}
use Rattle.std.proofs.lemmas.Bool.{true≢false, cases_lt}
use Rattle.std.proofs.lemmas.List.{get_or_past}
use Rattle.amo_sets.specs.Lists.{numbered}
use Rattle.amo_sets.specs.Sets.{has}
use Rattle.amo_sets.proofs.Numbers.{has-get_or, has-append}
use Rattle.amo_params.specs.Givens.{IsWorker}
use Rattle.amo_kk.specs.Record.{jobs_in_hand}
use Rattle.amo_kk.specs.Step.{want, is_load, MayLoad}
use Rattle.amo_kk.specs.World.{process, loaded_value}
use Rattle.amo_kk.specs.Fits.{WantFits}
use Rattle.amo_kk.specs.Lawful.{IsSoundProcess, IsLawful}
use Rattle.amo_params.specs.declared.givens.Givens.{Givens}
use Rattle.amo_kk.specs.declared.phase.Want.{Want}
use Rattle.amo_kk.specs.declared.phase.Want.TheVariants.{LoadNext, LoadDone}
use Rattle.amo_kk.specs.declared.model.World.{World}
use Rattle.amo_kk.proofs.Kept.{row_room}
use Rattle.amo_kk.proofs.Wants.{want_fits}

-- if no load is wanted, 0 stands for its value
pub store_zero : (w : World) (x : Want) → is_load x ≡ false → loaded_value w x ≡ 0
store_zero w (LoadNext q) h = absurd (true≢false h)
store_zero w (LoadDone q k) h = absurd (true≢false h)
store_zero w want h = refl

module _ (g : Givens) (w : World) (law : IsLawful g w) where
  -- what stands in a row is a job or 0, and in its last place 0
  pub row_is : (q k : ℕ) → IsWorker g q → (numbered 0 (process w q).row k ≤ g.jobs) × (k ≡ g.jobs + 1 → numbered 0 (process w q).row k ≡ 0)
  row_is q zero o = (omega arith, λ e. refl)
  row_is q (suc k) o = (
    subst (λ x. x ≤ g.jobs) (sym entry)
        (⊎_elim inside (λ (h : length (process w q).local.dones ≤ k). let z = get_or_past (process w q).local.dones k 0 h in omega arith) (cases_lt k (length (process w q).local.dones))),
    λ e. entry ∙ get_or_past (process w q).local.dones k 0 (let f = few in omega arith),
  )
    where
      there : IsSoundProcess g q (process w q)
      there = law.lawful.sound q o

      few : length (process w q).local.dones ≤ g.jobs
      few = row_room g (process w) law.lawful q o

      entry : get_or (process w q).row k 0 ≡ get_or (process w q).local.dones k 0
      entry = there.row k

      claimed : (j : ℕ) → has (process w q).local.dones j ≡ true → has (process w q).local.claimed j ≡ true
      claimed j h =
          ap (λ l. has l j) there.local.claims
          ∙ has-append (process w q).local.dones (jobs_in_hand (process w q).local.phase) j
          ∙ ap (λ b. b || has (jobs_in_hand (process w q).local.phase) j) h

      inside : k < length (process w q).local.dones → get_or (process w q).local.dones k 0 ≤ g.jobs
      inside h = (there.local.jobs (get_or (process w q).local.dones k 0) (claimed _ (has-get_or (process w q).local.dones k h))).high

  -- what fits is found to be what a load may give
  fit_loads : (p : ℕ) (x : Want) → WantFits g p x → MayLoad g (loaded_value w x) x
  fit_loads p (LoadNext q) fits = (law.lawful.sound q fits.worker).next
  fit_loads p (LoadDone q k) fits = row_is q k fits.0.worker
  fit_loads p want fits = tt

  pub may_load : (p : ℕ) → IsWorker g p → MayLoad g (loaded_value w (want (process w p).local)) (want (process w p).local)
  may_load p o = fit_loads p (want (process w p).local) (want_fits g p (process w p).local g.limits o (law.lawful.sound p o).local)
