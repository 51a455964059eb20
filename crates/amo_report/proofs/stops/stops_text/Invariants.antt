-- The facts that each pass of a loop of `stops_text` keeps.
use Rattle.std.proofs.Common.{◌≡◌, map, string_bytes}
use Rattle.std.specs.List.{flat_map}
use Rattle.amo_plan.specs.PlanSeen.{plan_seen}
use Rattle.amo_render.specs.Least.{numbers_from, least_of}
use Rattle.amo_report.specs.Stops.{stopped_line, stopped_dones}
use Rattle.amo_report.proofs.stops.stops_text.Given as goal

-- the lines so far are written, and the least so far is known
abbrev pub invariant-loop-count : goal.invariant-loop-count
invariant-loop-count l = record {
  lines : string_bytes l.out ≡ flat_map (stopped_line (plan_seen l.plan) l.p) (numbers_from 0 l.count);
  least : l.least ≡ least_of (map (stopped_dones (plan_seen l.plan) l.p) (numbers_from 0 l.count));
}
