-- The streams after memory was refused.
use Rattle.std.proofs.Common.{ℕ, List, Option}
use Rattle.std.specs.Io.KnownBytes.{Keeps}
use Rattle.amo_render.specs.declared.writing.ReplayFault.TheVariants as replay
use Rattle.amo_show_commands.specs.declared.show.Show.{Show}
use Rattle.amo_show_commands.specs.declared.show.Show.TheVariants.{Run, Explain, Judge, JudgeRun, Worst, All}
use Rattle.amo_show_commands.specs.Shows.{refuses}

-- where memory was refused nothing was written, whatever was wanted
pub memory_keeps : (show : Show) (known old new : Option (List ℕ)) → refuses show replay.NoMemory known old new → Keeps old new
memory_keeps (Run shown) known old new h = h
memory_keeps Explain known old new h = h
memory_keeps Judge known old new h = h
memory_keeps JudgeRun known old new h = h
memory_keeps Worst known old new h = h
memory_keeps All known old new h = h
