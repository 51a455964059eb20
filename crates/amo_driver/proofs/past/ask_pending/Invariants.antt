-- The facts that each pass of a loop of `ask_pending` keeps.
use Rattle.std.proofs.Common.{drop}
use Rattle.amo_driver.specs.Stage.{Asking}
use Rattle.amo_driver.proofs.past.ask_pending.Given as goal

-- those from place k on are still to be asked for
abbrev pub invariant-loop-k : goal.invariant-loop-k
invariant-loop-k g l = g.P.Past.stands l.past (Asking (drop l.k l.fn.pending))
