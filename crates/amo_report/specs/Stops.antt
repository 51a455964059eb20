-- The text of stops: what becomes of a schedule that is cut off after each of its moves, a line for
-- each.
use Rattle.std.specs.Prelude.{ℕ, zero, suc, ◌+◌, max, List, ◌++◌, length, map, take, codes, nat_le, Result, Ok, if◌then◌else◌}
use Rattle.std.specs.Fmt.{decimal}
use Rattle.std.specs.List.{flat_map}
use Rattle.amo_kk.specs.Run.{done_jobs}
use Rattle.amo_kk.specs.World.{process, opening_world, world_after_turn, world_after_halt, world_after_moves}
use Rattle.amo_params.specs.Givens.{lone_bound}
use Rattle.amo_kk.specs.Alone.{claims_or_ends, world_after_turns}
use Rattle.amo_kk.specs.declared.event.Event.{Event}
use Rattle.amo_params.specs.declared.givens.Givens.{Givens}
use Rattle.amo_kk.specs.declared.model.World.{World}
use Rattle.amo_world.specs.Answer.{verdict}
use Rattle.amo_world.specs.declared.answer.Verdict.{Verdict}
use Rattle.amo_plan.specs.declared.fault.PlanFault.{PlanFault}
use Rattle.amo_plan.specs.declared.fault.PlanFault.TheVariants.{NoSuchWorker, TooLong}
use Rattle.amo_plan.specs.Passing.{unless}
use Rattle.amo_plan.specs.Plan.{PlanSeen}
use Rattle.amo_render.specs.Least.{numbers_from, least_of}
use Rattle.amo_report.specs.declared.stops.TheConstants.{MOST_STOPS}
use Rattle.amo_report.specs.Summary.{counts_part, verdict_part, least_line}

-- how many turns p takes, alone, to claim a job or end, of so many at most
abbrev pub lone_turns : Givens → ℕ → ℕ → World → ℕ
lone_turns g p zero w = 0
lone_turns g p (suc most) w = if claims_or_ends g w p then 1 else suc (lone_turns g p most (world_after_turn g w p))

-- a world, and the most turns that a worker has taken in one go to claim a job or end
pub record LoneRun : Type 0 where
  pub world : World
  pub most : ℕ

-- p, if it isn't gone, goes on alone until it claims a job or ends
unfoldable pub after_lone_run : Givens → ℕ → LoneRun → LoneRun
after_lone_run g p r =
    let turns = lone_turns g p (lone_bound g) r.world in
    if (process r.world p).gone
    then r
    else (let after : LoneRun = record { world = world_after_turns g r.world p turns; most = max r.most turns } in after)

-- the state after so many lone runs of p
abbrev pub after_lone_runs : Givens → ℕ → ℕ → LoneRun → LoneRun
after_lone_runs g p zero r = r
after_lone_runs g p (suc times) r = after_lone_run g p (after_lone_runs g p times r)

-- p goes on alone until it is gone: it claims each job at most once, and ends
abbrev pub run_out : Givens → ℕ → LoneRun → LoneRun
run_out g p r = after_lone_runs g p (g.jobs + 1) r

-- the first so many workers do this one after the other
abbrev pub all_run_out : Givens → ℕ → LoneRun → LoneRun
all_run_out g zero r = r
all_run_out g (suc before) r = run_out g (suc before) (all_run_out g before r)

-- the world in which p stops after the first k moves of a plan's schedule
abbrev pub stopped_world : PlanSeen → ℕ → ℕ → World
stopped_world plan p k = world_after_halt (world_after_moves plan.givens (opening_world plan.givens) (take k plan.moves)) p

-- the run in which the others go on alone after the crash, in the order of their numbers
abbrev pub stopped : PlanSeen → ℕ → ℕ → LoneRun
stopped plan p k = all_run_out plan.givens plan.givens.workers (record { world = stopped_world plan p k; most = 0 })

-- what the judge says of its history
abbrev pub stopped_verdict : PlanSeen → ℕ → ℕ → Verdict
stopped_verdict plan p k = verdict plan.givens (stopped plan p k).world.history

-- how many performances it has
abbrev pub stopped_dones : PlanSeen → ℕ → ℕ → ℕ
stopped_dones plan p k = length (done_jobs (stopped plan p k).world.history)

-- `stop K claimed C done D most T VERDICT`
unfoldable pub stop_line : ℕ → List Event → ℕ → Verdict → List ℕ
stop_line k history most judged = codes "stop " ++ decimal k ++ counts_part history ++ codes " most " ++ decimal most ++ verdict_part judged ++ codes "\n"

-- this of the stop after k moves
abbrev pub stopped_line : PlanSeen → ℕ → ℕ → List ℕ
stopped_line plan p k = stop_line k (stopped plan p k).world.history (stopped plan p k).most (stopped_verdict plan p k)

-- from 0 to the number of moves
abbrev pub all_stops : PlanSeen → List ℕ
all_stops plan = numbers_from 0 (length plan.moves + 1)

-- a line for each stop of p, and the least number of performances; the plan's rounds have no part
-- in it
abbrev pub stops_of : PlanSeen → ℕ → List ℕ
stops_of plan p = flat_map (stopped_line plan p) (all_stops plan) ++ least_line (least_of (map (stopped_dones plan p) (all_stops plan)))

-- the same, where p is a worker and there are not too many moves; 0 stands in the place of a word
-- of the schedule
unfoldable pub stops_in : PlanSeen → ℕ → Result (List ℕ) PlanFault
stops_in plan p = unless (nat_le p plan.givens.workers) (NoSuchWorker 0) (unless (nat_le (length plan.moves) MOST_STOPS) TooLong (Ok (stops_of plan p)))
