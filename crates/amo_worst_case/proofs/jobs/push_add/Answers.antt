-- `push_add`: its promises, directly from definitions and clauses.
use Rattle.std.proofs.Common.{append_assoc}
use Rattle.amo_worst_case.specs.Text.{add_lines}
use Rattle.amo_worst_case.proofs.jobs.push_add.Goals as goal

pub returns : goal.returns
unfolding add_lines
returns c = simp append_assoc at (rw (c.in_ok-push_listed.ensures, c.in_ok-push_str.ensures.bytes) at c.writeln.ensures.bytes)
