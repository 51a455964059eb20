-- The facts that each pass of a loop of `push_unmarked` keeps.
use Rattle.std.proofs.Common.{◌≡◌, ◌++◌, not, false, string_bytes}
use Rattle.amo_sets.specs.Lists.{numbered}
use Rattle.amo_sets.specs.Sets.{members}
use Rattle.amo_render.specs.Numbers.{spaced}
use Rattle.amo_render.proofs.unclaimed.push_unmarked.Given as goal

-- the unmarked jobs so far are written
abbrev pub invariant-loop-i : goal.invariant-loop-i
invariant-loop-i l = string_bytes l.out ≡ string_bytes l.fn.out ++ spaced (members l.i (λ k. not (numbered false l.marks k)))
