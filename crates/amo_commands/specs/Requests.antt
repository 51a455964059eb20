-- The effect of a request: the text that it writes, and the streams that it leaves.
use Rattle.std.specs.Prelude.{ℕ, List, Option, option_map}
use Rattle.std.specs.Io.KnownBytes.{Keeps}
use Rattle.amo_plan.specs.declared.fault.PlanFault.{PlanFault}
use Rattle.amo_report.specs.Wanted.{text_of}
use Rattle.amo_render.specs.declared.writing.ReplayFault.{ReplayFault}
use Rattle.amo_render.specs.declared.writing.ReplayFault.TheVariants as replay
use Rattle.amo_render.specs.Written.{Writes, Refuses}
use Rattle.amo_run_plan.specs.declared.started.Started.TheVariants.{All, NotAll}
use Rattle.amo_run_plan.specs.Runs.{WritesRun, RefusesRun}
use Rattle.amo_cli.specs.Statuses.{Left}
use Rattle.amo_args.specs.Commands as requests
use Rattle.amo_args.specs.Commands.{asked_after_name}
use Rattle.amo_args.specs.declared.request.Request.{Request}
use Rattle.amo_args.specs.declared.request.Request.TheVariants.{Write, Run}
use Rattle.amo_commands.specs.declared.working.AmoCommand.{AmoCommand}

-- the command that does what is asked for
abbrev pub command_of : Request → AmoCommand
command_of request = record { request = request }

-- what all words that the program is given ask for, its own name first, as the command that does it
abbrev pub asked_command : List (List ℕ) → Option AmoCommand
asked_command words = option_map command_of (asked_after_name words)

-- the numbers of the text that is wanted are within their ranges
abbrev pub IsWithinRanges : AmoCommand → Type 0
IsWithinRanges command = requests.IsWithinRanges command.request

-- A request writes this, of the plan of a source with these bytes, and nothing else. It is the
-- wanted text, or the text of a run whose threads were all started. A plan has more than one text
-- of a run.
abbrev pub written_for : Request → Left
written_for (Write text) = Writes (text_of text)
written_for Run = WritesRun All

-- what a request leaves if its text was not written whole
abbrev pub left_for : Request → ReplayFault → Left
left_for (Write text) fault = Refuses (text_of text) fault
left_for Run fault = RefusesRun fault

-- what a request writes if some thread could not be started: the text of what came of the others;
-- texts start none
abbrev pub others_for : Request → Left
others_for (Write text) known old new = ⊥
others_for Run known old new = WritesRun NotAll known old new

-- what a command writes
abbrev pub writes : AmoCommand → Left
writes command = written_for command.request

-- what a command leaves if its text was not written whole
abbrev pub refuses : AmoCommand → ReplayFault → Left
refuses command = left_for command.request

-- what a command writes if some thread could not be started
abbrev pub others : AmoCommand → Left
others command = others_for command.request

-- if the plan was refused, a request wrote nothing
pub kept_for : (request : Request) (f : PlanFault) (known old new : Option (List ℕ)) → left_for request (replay.Plan f) known old new → Keeps old new
kept_for (Write text) f known old new h = h.2
kept_for Run f known old new h = h.2

-- if the plan was refused, a command wrote nothing
pub plan_keeps : (command : AmoCommand) (f : PlanFault) (known old new : Option (List ℕ)) → refuses command (replay.Plan f) known old new → Keeps old new
plan_keeps command = kept_for command.request
