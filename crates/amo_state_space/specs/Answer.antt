-- The text on a plan.
use Rattle.std.specs.Prelude.{◌≡◌, ℕ, ◌<◌, ◌-◌, ◌/◌, ◌^◌, Bool, true, false, List, [], ◌∷◌, ◌++◌, length, map, nat_lt, ◌==◌, if◌then◌else◌, codes, Err}
use Rattle.std.specs.Fmt.{decimal}
use Rattle.std.specs.Result.{IsOkAnd}
use Rattle.amo_params.specs.declared.givens.Givens.{Givens}
use Rattle.amo_params.specs.declared.moves.Move.TheVariants.{Turn}
use Rattle.amo_plan.specs.declared.fault.PlanFault.{PlanFault}
use Rattle.amo_plan.specs.Plan.{plan_of}
use Rattle.amo_bounds.specs.Fewest.{fewest}
use Rattle.amo_render.specs.Numbers.{spaced}
use Rattle.amo_worst_case.specs.Schedule.{worst_schedule}
use Rattle.amo_state_space.specs.declared.answer.TheConstants.{MOST_ALONE}
use Rattle.amo_state_space.specs.Runs.{IsWholeRun}

-- with so many workers no more jobs, or blocks, are looked through: half as many for each worker
-- more
abbrev pub most_jobs : ℕ → ℕ
most_jobs workers = MOST_ALONE / 2 ^ (workers - 1)

-- what the givens call jobs
unfoldable pub unit_word : ℕ → List ℕ
unit_word version = if version == 1 then codes "jobs" else codes "blocks"

-- the text if they are too many
unfoldable pub too_many : ℕ → Givens → List ℕ
too_many version g =
    codes "refused\nwith " ++ (decimal g.workers ++ (codes " workers at most " ++ (decimal (most_jobs g.workers) ++ (codes " " ++ (unit_word version ++ (codes " are looked through, and the plan has " ++ (decimal g.jobs ++ codes "\n")))))))

-- a turn of each of these workers, as a schedule has them: `1 2 1`
abbrev pub turn_words : List ℕ → List ℕ
turn_words [] = []
turn_words (p ∷ ps) = decimal p ++ spaced ps

-- so many worlds; the fewest that are performed, with the schedule after which no more are; and a
-- longest run, with its schedule
unfoldable pub found_text : Givens → ℕ → List ℕ → List ℕ
found_text g worlds turns =
    codes "worlds " ++ (decimal worlds ++ (codes "\nleast " ++ (decimal (fewest g) ++ (codes "\nschedule = \"" ++ (worst_schedule g
    ++ (codes "\"\nlongest " ++ (decimal (length turns) ++ (codes "\nschedule = \"" ++ (turn_words turns ++ codes "\"\n")))))))))

-- The text has the number of worlds, the fewest jobs, and a whole run. With fewer jobs than the
-- threshold all workers have ended from birth, and there is one world. Otherwise this definition
-- doesn't say that the number of worlds is right, and that no run is longer.
pub record SaysFound (g : Givens) (text : List ℕ) : Type 0 where
  pub worlds : ℕ
  pub turns : List ℕ
  pub one : g.jobs < g.beta → worlds ≡ 1
  pub whole : IsWholeRun g (map Turn turns)
  pub says : text ≡ found_text g worlds turns

-- which of the two it is, by whether there are too many
abbrev pub IsAllText : Bool → ℕ → Givens → List ℕ → Type 0
IsAllText true version g text = text ≡ too_many version g
IsAllText false version g text = SaysFound g text

-- the text is of the plans of this version that have these givens
abbrev pub IsAllOf : ℕ → Givens → List ℕ → Type 0
IsAllOf version g text = IsAllText (nat_lt (most_jobs g.workers) g.jobs) version g text

-- the bytes are a plan, and the text is of its version and its givens
abbrev pub IsAllOfBytes : List ℕ → List ℕ → Type 0
IsAllOfBytes bytes text = IsOkAnd (plan_of bytes) (λ p. IsAllOf p.version p.givens text)

-- the bytes are no plan, for this fault
abbrev pub AreNoPlan : List ℕ → PlanFault → Type 0
AreNoPlan bytes f = plan_of bytes ≡ Err f
