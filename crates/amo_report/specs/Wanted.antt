-- Which texts there are of a plan.
use Rattle.std.specs.Prelude.{ℕ, ◌≤◌, List, Result, Ok}
use Rattle.amo_plan.specs.Plan.{PlanSeen}
use Rattle.amo_plan.specs.declared.fault.PlanFault.{PlanFault}
use Rattle.amo_report.specs.Check.{check_of}
use Rattle.amo_report.specs.Explorer.{explore_of}
use Rattle.amo_report.specs.Stops.{stops_in}
use Rattle.amo_report.specs.Texts.{report_of}
use Rattle.amo_plan.specs.declared.limits.TheConstants.{MOST_FIRST, MOST_COUNT, MOST_TURNS}
use Rattle.amo_report.specs.declared.wanted.Wanted.{Wanted}
use Rattle.amo_report.specs.declared.wanted.Wanted.TheVariants.{Report, Check, Explored, Stops}

-- the text that is wanted of a plan, or the fault for which the plan has none
abbrev pub text_of : Wanted → PlanSeen → Result (List ℕ) PlanFault
text_of Report plan = Ok (report_of plan)
text_of Check plan = Ok (check_of plan)
text_of (Explored from count turns) plan = Ok (explore_of plan from count turns)
text_of (Stops worker) plan = stops_in plan worker

-- its numbers are within their ranges
abbrev pub IsWithinRanges : Wanted → Type 0
IsWithinRanges (Explored from count turns) = (from ≤ MOST_FIRST) × (1 ≤ count) × (count ≤ MOST_COUNT) × (turns ≤ MOST_TURNS)
IsWithinRanges (Stops worker) = 1 ≤ worker
IsWithinRanges text = Unit {0}
