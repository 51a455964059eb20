-- The facts that each pass of the loop of `lines_digest` keeps.
use Rattle.std.proofs.Common.{take}
use Rattle.sha2.specs.Hashers.{Holds256}
use Rattle.amo_call_log.specs.Shown.{lines_text}
use Rattle.amo_call_log.proofs.shown.lines_digest.Given as goal

-- the hasher has the lines so far
abbrev pub invariant-hashing : goal.invariant-hashing
invariant-hashing l = Holds256 l.hasher (lines_text (take l.attempt-index l.attempts))
