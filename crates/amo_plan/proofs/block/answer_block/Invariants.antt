-- The facts that each pass of a loop of `answer_block` keeps.
use Rattle.std.proofs.Common.{◌≡◌, ◌≤◌, ◌+◌, map, length, vec_len, vec_capacity}
use Rattle.std.specs.Vec.Iter.{into_iter_items}
use Rattle.amo_plan.specs.Results.{capped_answer}
use Rattle.amo_plan.proofs.block.answer_block.Given as goal

-- the answers so far, and room for those to come
abbrev pub invariant-loop-task : goal.invariant-loop-task
invariant-loop-task l = record {
  answered : l.answers.items ≡ map capped_answer l.yielded;
  room : vec_len l.answers + length (into_iter_items l.task-iterator) ≤ vec_capacity l.answers;
}
