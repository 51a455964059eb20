-- The facts that each pass of a loop of `is_id` keeps.
use Rattle.std.proofs.Common.{◌≡◌, drop}
use Rattle.amo_run_faults.specs.Id.{are_hex}
use Rattle.amo_run_faults.proofs.id.is_id.Given as goal

abbrev pub invariant-loop-i : goal.invariant-loop-i
invariant-loop-i l = are_hex (drop l.i l.text) ≡ are_hex l.text
