-- The facts that each pass of a loop of `explore` keeps.
use Rattle.std.proofs.Common.{◌≡◌, map, string_bytes}
use Rattle.std.specs.List.{flat_map}
use Rattle.amo_plan.specs.PlanSeen.{plan_seen}
use Rattle.amo_render.specs.Least.{numbers_from, least_of}
use Rattle.amo_report.specs.Explorer.{explored_line, explored_dones}
use Rattle.amo_report.proofs.explorer.explore.Given as goal

-- the lines so far are written, and the least so far is known
abbrev pub invariant-loop-before : goal.invariant-loop-before
invariant-loop-before l = record {
  lines : string_bytes l.out ≡ flat_map (explored_line (plan_seen l.plan) l.length) (numbers_from l.from l.before);
  least : l.least ≡ least_of (map (explored_dones (plan_seen l.plan) l.length) (numbers_from l.from l.before));
}
