-- Which texts show the run of a plan.
use Rattle.std.specs.Prelude.{ℕ, List, Result, Ok}
use Rattle.amo_plan.specs.Plan.{PlanSeen}
use Rattle.amo_plan.specs.declared.fault.PlanFault.{PlanFault}
use Rattle.amo_svg.specs.Picture.{picture_of}
use Rattle.amo_trace.specs.Trace.{trace_of}
use Rattle.amo_show_commands.specs.declared.shown.Shown.{Shown}
use Rattle.amo_show_commands.specs.declared.shown.Shown.TheVariants.{Trace, Picture}

-- the text that is wanted of a plan; each plan has it
abbrev pub text_of : Shown → PlanSeen → Result (List ℕ) PlanFault
text_of Trace plan = Ok (trace_of plan)
text_of Picture plan = Ok (picture_of plan)
