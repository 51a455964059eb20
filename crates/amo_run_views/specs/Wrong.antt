-- Which runs have a damaged file.
use Rattle.std.specs.Prelude.{◌≡◌, None, All}
use Rattle.amo_run_views.specs.declared.readable.DamagedRun.{DamagedRun}

-- no file has a fault
pub record IsWell (run : DamagedRun) : Type 0 where
  pub record_file : run.wrong_record ≡ None
  pub jobs : run.wrong_jobs ≡ None
  pub answers : run.answers.wrong ≡ None
  pub journals : All (λ log. log.wrong ≡ None) run.journals.items
