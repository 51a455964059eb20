-- The deeds of a worker's process since it began, in a history.
use Rattle.std.specs.Prelude.{◌≡◌, ℕ, List, [], ◌∷◌, ◌++◌, Option, Some, None, ◌==◌, if◌then◌else◌}
use Rattle.amo_params.specs.declared.givens.Givens.{Givens}
use Rattle.amo_driver.specs.declared.model.Deed.{Deed}
use Rattle.amo_driver.specs.declared.model.Deed.TheVariants.{Fell}
use Rattle.amo_driver.specs.Stage.{Stage, Gone}
use Rattle.amo_driver.specs.Course.{stage_after_all, AreDue, first_stage}
use Rattle.amo_driver_safety.specs.declared.model.Moment.{Moment}
use Rattle.amo_driver_safety.specs.declared.model.Moment.TheVariants.{Does, Loses, Begins}

-- The process that was at the stage `first` has since done these, each of which was due, and is at
-- this stage.
abbrev pub Stands : (first : Stage) → List Deed → Stage → Type 0
Stands first ds s = AreDue first ds × (stage_after_all first ds ≡ s)

-- The serial number of the first intent of a process, and what it has done since it began.
pub record Log : Type 0 where
  pub serial : ℕ
  pub deeds : List Deed

-- with one more deed, if there is a process
abbrev pub with_more : Option Log → Deed → Option Log
with_more None d = None
with_more (Some l) d = Some (record l { deeds = l.deeds ++ d ∷ [] })

-- the log of worker p after the next moment: of what is lost it knows that it fell
abbrev pub log_after : ℕ → Option Log → Moment → Option Log
log_after p l (Does q d) = if q == p then with_more l d else l
log_after p l (Loses q t) = if q == p then with_more l (Fell t) else l
log_after p l (Begins q n) = if q == p then Some (record { serial = n; deeds = [] }) else l

-- the same after all of these, in their order
abbrev pub log_after_all : ℕ → Option Log → List Moment → Option Log
log_after_all p l [] = l
log_after_all p l (m ∷ ms) = log_after_all p (log_after p l m) ms

-- what the process of worker p has done that has begun last, if one has
abbrev pub log_of : ℕ → List Moment → Option Log
log_of p ms = log_after_all p None ms

-- the process that has done this, and just what was due, stands here
abbrev pub StandsBy : Givens → ℕ → Option Log → Stage → Type 0
StandsBy g p None s = s ≡ Gone
StandsBy g p (Some l) s = Stands (first_stage g p l.serial) l.deeds s
