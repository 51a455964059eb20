-- The facts that each pass of a loop of `unclaimed_jobs` keeps.
use Rattle.std.proofs.Common.{◌≡◌, not}
use Rattle.amo_sets.specs.Sets.{has, members}
use Rattle.amo_kk.specs.Run.{claimed_jobs}
use Rattle.amo_svg.proofs.unclaimed.unclaimed_jobs.Given as goal

-- the unclaimed jobs so far
abbrev pub invariant-loop-before : goal.invariant-loop-before
invariant-loop-before l = l.jobs.items ≡ members l.before (λ j. not (has (claimed_jobs l.world.world.history) j))
