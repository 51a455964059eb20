-- The facts that each pass of a loop of `check_jobs` keeps.
use Rattle.std.proofs.Common.{◌≡◌, ◌+◌, List, [], drop}
use Rattle.std.specs.Prelude.{is_some}
use Rattle.std.specs.BTreeMap.{get_by}
use Rattle.std.specs.Cmp.Lexicographic.{slice_cmp}
use Rattle.std.specs.Ordering.{nat_cmp}
use Rattle.amo_plan.specs.Tree.{Key, is_known}
use Rattle.amo_plan.specs.Jobs.{fine_jobs}
use Rattle.amo_plan.proofs.naming.check_jobs.Given as goal

-- the map has the names of the jobs so far, and those to come decide
abbrev pub invariant-loop-i : goal.invariant-loop-i
invariant-loop-i l =
    (earlier : List Key)
    × ((q : Key) → is_some (get_by (λ k. slice_cmp nat_cmp q k.now) l.names) ≡ is_known earlier q)
    × (fine_jobs earlier (l.i + 1) (drop l.i l.jobs) ≡ fine_jobs [] 1 l.jobs)
