-- The facts that each pass of a loop of `extent_in` keeps.
use Rattle.std.proofs.Common.{◌≡◌, drop}
use Rattle.amo_run_journals.specs.Extents.{extent_named}
use Rattle.amo_run_journals.proofs.logs.extent_in.Given as goal

abbrev pub invariant-loop-extent : goal.invariant-loop-extent
invariant-loop-extent l = extent_named l.name l.extents ≡ extent_named l.name (drop l.extent-index l.extents)
