-- The text of the explorer: what numbered schedules of one length lead to, a line for each.
use Rattle.std.specs.Prelude.{ℕ, zero, suc, ◌+◌, ◌/◌, ◌%◌, ◌^◌, List, [], ◌∷◌, ◌++◌, length, map, count_by, codes}
use Rattle.std.specs.Fmt.{decimal}
use Rattle.std.specs.List.{flat_map}
use Rattle.amo_kk.specs.Run.{done_jobs}
use Rattle.amo_kk.specs.World.{world_of, rounds}
use Rattle.amo_kk.specs.declared.event.Event.{Event}
use Rattle.amo_params.specs.declared.moves.Move.{Move}
use Rattle.amo_params.specs.declared.moves.Move.TheVariants.{Turn}
use Rattle.amo_kk.specs.declared.model.World.{World}
use Rattle.amo_world.specs.Answer.{verdict}
use Rattle.amo_world.specs.declared.answer.Verdict.{Verdict}
use Rattle.amo_plan.specs.Plan.{PlanSeen}
use Rattle.amo_render.specs.Happened.{is_end}
use Rattle.amo_render.specs.Least.{numbers_from, least_of}
use Rattle.amo_report.specs.Summary.{counts_part, verdict_part, least_line}

-- the worker of turn i, from 0, of schedule s: digit i of s, the lowest being digit 0, in the base
-- of m workers
abbrev pub worker_at : ℕ → ℕ → ℕ → ℕ
worker_at m s i = (s / m ^ i) % m + 1

-- schedule s of so many turns over m workers
abbrev pub schedule : ℕ → ℕ → ℕ → List Move
schedule m s zero = []
schedule m s (suc i) = schedule m s i ++ Turn (worker_at m s i) ∷ []

-- the world after schedule s of so many turns and the rounds of a plan, from the opening world; the
-- plan's own schedule has no part in it
abbrev pub explored_world : PlanSeen → ℕ → ℕ → World
explored_world p turns s =
    world_of p.givens (schedule p.givens.workers s turns ++ rounds p.givens.workers p.rounds)

-- what the judge says of its history
abbrev pub explored_verdict : PlanSeen → ℕ → ℕ → Verdict
explored_verdict p turns s = verdict p.givens (explored_world p turns s).history

-- how many performances it has
abbrev pub explored_dones : PlanSeen → ℕ → ℕ → ℕ
explored_dones p turns s = length (done_jobs (explored_world p turns s).history)

-- `schedule S claimed C done D ended E VERDICT`
unfoldable pub schedule_line : ℕ → List Event → Verdict → List ℕ
schedule_line s history judged =
    codes "schedule " ++ decimal s ++ counts_part history ++ codes " ended " ++ decimal (count_by is_end history) ++ verdict_part judged ++ codes "\n"

-- this of schedule s
abbrev pub explored_line : PlanSeen → ℕ → ℕ → List ℕ
explored_line p turns s = schedule_line s (explored_world p turns s).history (explored_verdict p turns s)

-- a line for each of so many schedules of so many turns, from the first on, and the least number of
-- performances
abbrev pub explore_of : PlanSeen → ℕ → ℕ → ℕ → List ℕ
explore_of p first count turns =
    flat_map (explored_line p turns) (numbers_from first count) ++ least_line (least_of (map (explored_dones p turns) (numbers_from first count)))
