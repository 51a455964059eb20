-- When an intent counts as over by less than it does: by two of the three locks, or while a process
-- may still ask for it.
use Rattle.std.specs.Prelude.{◌≡◌, ℕ, false}
use Rattle.amo_driver.specs.declared.model.Try.TheVariants.{Clear, Perform}
use Rattle.amo_run_safety.specs.Run.{MayMiss, is_among, names_of}
use Rattle.amo_run_safety.specs.Commands.{Yard}

-- the locks of the runner and of the command are held, but not that of the journal: a process may
-- be about to hand it over
pub record IsOverButForProcesses (y : Yard) (p n : ℕ) : Type 0 where
  pub waits : is_among (names_of y.waiting) p n ≡ false
  pub runs : is_among (names_of y.running) p n ≡ false

-- those of the journal and of the command, but not that of the runner: it may be about to begin the
-- command
pub record IsOverButForRunners (y : Yard) (p n : ℕ) : Type 0 where
  pub asked : (j : ℕ) → MayMiss y.site.rounds (y.site.whereabouts p) (Clear n j) → ⊥
  pub due : (j : ℕ) → MayMiss y.site.rounds (y.site.whereabouts p) (Perform n j) → ⊥
  pub runs : is_among (names_of y.running) p n ≡ false

-- those of the journal and of the runner, but not that of the command: something of it may be left
pub record IsOverButForCommands (y : Yard) (p n : ℕ) : Type 0 where
  pub asked : (j : ℕ) → MayMiss y.site.rounds (y.site.whereabouts p) (Clear n j) → ⊥
  pub due : (j : ℕ) → MayMiss y.site.rounds (y.site.whereabouts p) (Perform n j) → ⊥
  pub waits : is_among (names_of y.waiting) p n ≡ false

-- all three, but a process may be about to ask whether it may hand it over: only what it is about
-- to hand over is looked for
pub record IsOverButForAsking (y : Yard) (p n : ℕ) : Type 0 where
  pub due : (j : ℕ) → MayMiss y.site.rounds (y.site.whereabouts p) (Perform n j) → ⊥
  pub waits : is_among (names_of y.waiting) p n ≡ false
  pub runs : is_among (names_of y.running) p n ≡ false
