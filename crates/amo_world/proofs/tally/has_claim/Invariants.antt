-- The facts that each pass of a loop of `has_claim` keeps.
use Rattle.std.proofs.Common.{◌≡◌, drop}
use Rattle.amo_sets.specs.Sets.{has}
use Rattle.amo_kk.specs.Run.{claimed_jobs}
use Rattle.amo_world.proofs.tally.has_claim.Given as goal

abbrev pub invariant-loop-event : goal.invariant-loop-event
invariant-loop-event l = has (claimed_jobs (drop l.event-index l.history)) l.j ≡ has (claimed_jobs l.history) l.j
