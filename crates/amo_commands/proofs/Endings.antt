-- The streams after memory was refused.
use Rattle.std.proofs.Common.{ℕ, List, Option}
use Rattle.std.specs.Io.KnownBytes.{Keeps}
use Rattle.amo_render.specs.declared.writing.ReplayFault.TheVariants as replay
use Rattle.amo_args.specs.declared.request.Request.{Request}
use Rattle.amo_args.specs.declared.request.Request.TheVariants.{Write, Run}
use Rattle.amo_commands.specs.Requests.{left_for, refuses}
use Rattle.amo_commands.specs.declared.working.AmoCommand.{AmoCommand}

kept_for : (request : Request) (known old new : Option (List ℕ)) → left_for request replay.NoMemory known old new → Keeps old new
kept_for (Write text) known old new h = h
kept_for Run known old new h = h

-- where memory was refused nothing was written, whatever was wanted
pub memory_keeps : (command : AmoCommand) (known old new : Option (List ℕ)) → refuses command replay.NoMemory known old new → Keeps old new
memory_keeps command = kept_for command.request
