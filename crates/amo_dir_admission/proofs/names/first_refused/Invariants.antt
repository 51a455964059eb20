-- The facts that each pass of a loop of `first_refused` keeps.
use Rattle.std.proofs.Common.{◌≡◌, drop}
use Rattle.amo_dir_admission.specs.Names.{first_refused}
use Rattle.amo_dir_admission.proofs.names.first_refused.Given as goal

abbrev pub invariant-loop-i : goal.invariant-loop-i
invariant-loop-i l = first_refused (drop l.i l.found) ≡ first_refused l.found
