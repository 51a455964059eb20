-- The facts that each pass of a loop of `push_turns` keeps.
use Rattle.std.proofs.Common.{◌≡◌, ◌++◌, replicate}
use Rattle.amo_params.specs.declared.moves.Move.TheVariants.{Turn}
use Rattle.amo_plan.proofs.schedule.push_turns.Given as goal

abbrev pub invariant-loop-i : goal.invariant-loop-i
invariant-loop-i l = l.moves.items ≡ l.fn.moves.items ++ replicate l._i (Turn l.worker)
