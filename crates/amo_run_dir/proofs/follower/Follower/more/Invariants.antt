-- The facts that each pass of a loop of `Follower::more` keeps.
use Rattle.std.proofs.Common.{◌<◌}
use Rattle.amo_run_dir.proofs.follower.Follower.more.Given as goal

abbrev pub invariant-loop-look : goal.invariant-loop-look
invariant-loop-look g l = l.fn.self.reads < l.self.reads
