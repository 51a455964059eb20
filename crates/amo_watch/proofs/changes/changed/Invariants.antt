-- The facts that each pass of a loop of `changed` keeps.
use Rattle.std.proofs.Common.{◌≡◌, ◌++◌, drop}
use Rattle.amo_watch.specs.Changes.{changed}
use Rattle.amo_watch.proofs.changes.changed.Given as goal

abbrev pub invariant-loop-i : goal.invariant-loop-i
invariant-loop-i l = l.found.items ++ changed (drop l.i l.shown) (drop l.i l.rows) ≡ changed l.shown l.rows
