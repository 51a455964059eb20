-- The facts that each pass of a loop of `rows_of` keeps.
use Rattle.std.proofs.Common.{◌≡◌, ◌++◌, drop}
use Rattle.std.specs.List.{filter}
use Rattle.amo_svg.specs.Rows.{acts}
use Rattle.amo_svg.proofs.picturing.rows_of.Given as goal

-- the rows so far and those of the transitions to come are all rows
abbrev pub invariant-loop-transition : goal.invariant-loop-transition
invariant-loop-transition l = l.rows.items ++ filter (λ s. acts s.act) (drop l.transition-index l.transitions) ≡ filter (λ s. acts s.act) l.transitions
