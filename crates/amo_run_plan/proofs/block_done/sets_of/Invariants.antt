-- The facts that each pass of a loop of `sets_of` keeps.
use Rattle.std.proofs.Common.{ℕ, Vec, Global, take}
use Rattle.std.specs.List.{AllZip}
use Rattle.amo_run_plan.specs.Noted.{IsSetOf}
use Rattle.amo_run_plan.proofs.block_done.sets_of.Given as goal

-- the sets so far are those of the lists so far
abbrev pub invariant-loop-list : goal.invariant-loop-list
invariant-loop-list l = AllZip (λ (v : Vec ℕ Global). IsSetOf l.jobs v.items) (take l.list-index l.lists) l.sets.items
