-- A deed that a process in a round may do by its log may be done in the run.
use Rattle.std.proofs.Common.{◌≡◌, ℕ, ◌≤◌, List, [], ◌∷◌, ◌++◌, Some, sym, subst}
use Rattle.amo_params.specs.Givens.{IsWorker}
use Rattle.amo_driver.specs.Course.{AreDue, first_stage}
use Rattle.amo_driver.specs.Standing.{MayCall}
use Rattle.amo_driver.specs.declared.model.Deed.{Deed}
use Rattle.amo_driver.specs.declared.model.Try.{Try}
use Rattle.amo_driver_safety.specs.Log.{Stands, Log, log_of}
use Rattle.amo_driver_safety.specs.Scene.{scene_of, IsTrue}
use Rattle.amo_driver_safety.specs.declared.model.Moment.TheVariants.{Does, Loses}
use Rattle.amo_driver_safety.proofs.Logs.{call_may_be, deed_may_be}
use Rattle.amo_run_files.proofs.SeatLaws.{in_range}
use Rattle.amo_run_safety.specs.Site.{Inside, Round, Event}
use Rattle.amo_run_safety.specs.Run.{MayBeIn, MayAct, MayMiss, IsRun, site_of}
use Rattle.amo_run_safety.proofs.Records.{sound_parts}
use Rattle.amo_run_safety.proofs.Sane.{IsGood, IsGoodIf, FitsIn}
use Rattle.amo_run_safety.proofs.Once.{sane_of, fits_there}

module _ (es : List Event) (run : IsRun es) (p k q : ℕ) (at : (site_of es).whereabouts p ≡ Inside k q) (r : Round) (is : (site_of es).rounds k ≡ Some r) (l : Log) (log : log_of q r.moments ≡ Some l) where
  good : IsGood r
  good = subst IsGoodIf is ((sane_of es run).rounds k)

  worker : IsWorker r.givens q
  worker =
      let fits : FitsIn (Some r) ((site_of es).journals p) p q = subst (λ o. FitsIn o ((site_of es).journals p) p q) is (fits_there es run p k q at).1 in
      let range = in_range p r.written.first r.written.workers r.written.givens.workers q (sound_parts r.written good.sound).first fits.0 in
      record { low = range.0; high = subst (λ n. q ≤ n) (sym good.workers) range.1 }

  pub call_may_come : (t : Try) → MayCall (Stands (first_stage r.givens q l.serial) l.deeds) t → MayMiss (site_of es).rounds (Inside k q) t
  call_may_come t may = subst (λ o. MayBeIn o (Loses q t)) (sym is) (call_may_be r.givens q worker r.moments l t good.history log may)

  pub deed_may_come : (d : Deed) → AreDue (first_stage r.givens q l.serial) (l.deeds ++ d ∷ []) → IsTrue (scene_of r.givens r.moments).words d → MayAct (site_of es).rounds (Inside k q) d
  deed_may_come d due true_there = subst (λ o. MayBeIn o (Does q d)) (sym is) (deed_may_be r.givens q worker r.moments l d good.history log due true_there)
