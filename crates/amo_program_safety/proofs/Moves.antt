-- Steps of a world, and of the site that goes with it.
use Rattle.std.proofs.Common.{◌≡◌, ℕ, List, Some}
use Rattle.amo_safety_by_journals.specs.Model.{Handing, IsOneOf, Site, Event as ModelEvent}
use Rattle.amo_safety_by_journals.specs.Runs.{Clearance, IsRunFrom, site_from}
use Rattle.amo_params.specs.declared.limits.TheConstants.{MAX_WORKERS}
use Rattle.amo_host.specs.declared.model.LogFile.TheVariants.{Journal}
use Rattle.amo_program_safety.specs.World.{Process, World}
use Rattle.amo_program_safety.specs.Runs.{IsFirst}
use Rattle.amo_program_safety.proofs.Standing.{IsOpened, Settled, Goes}

-- By some events the model goes from the site v to a site that goes with the world w.
pub record Reaches (v : Site) (w : World) : Type 0 where
  pub events : List ModelEvent
  pub run : IsRunFrom Clearance MAX_WORKERS v events
  pub goes : Goes w (site_from v events)

-- Nothing has changed for the process p, except that more attempts may be handed over, opened or
-- settled.
pub record Same (w : World) (v : Site) (w' : World) (v' : Site) (pid : ℕ) (p : Process) : Type 0 where
  pub lost : (q : ℕ) → w'.guard q ≡ Some pid → w.guard q ≡ Some pid
  pub guard : w.guard p.worker ≡ Some pid → w'.guard p.worker ≡ Some pid
  pub stage : w.guard p.worker ≡ Some pid → v'.stage p.worker ≡ v.stage p.worker
  pub kept : w.guard p.worker ≡ Some pid → v'.kept p.worker ≡ v.kept p.worker
  pub log : w.guard p.worker ≡ Some pid → w'.logs (Journal p.worker) ≡ w.logs (Journal p.worker)
  pub first : w.guard p.worker ≡ Some pid → (s : ℕ) → IsFirst w p.worker s → IsFirst w' p.worker s
  pub handed : (h : Handing) → IsOneOf w.handed h → IsOneOf w'.handed h
  pub opened : (q s : ℕ) → IsOpened v q s → IsOpened v' q s
  pub settled : (q s : ℕ) → Settled v q s → Settled v' q s
