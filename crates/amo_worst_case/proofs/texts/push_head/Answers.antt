-- `push_head`: its promises, directly from definitions and clauses.
use Rattle.std.proofs.Common.{append_assoc}
use Rattle.amo_worst_case.specs.Text.{head_lines}
use Rattle.amo_worst_case.proofs.texts.push_head.Goals as goal

pub returns : goal.returns
unfolding head_lines
returns c = simp append_assoc at (rw (c.as_str.ensures.value, c.in_ok-schedule.ensures, c.in_ok-push_block.ensures, c.in_ok-writeln.ensures.bytes) at c.writeln-2.ensures.bytes)
