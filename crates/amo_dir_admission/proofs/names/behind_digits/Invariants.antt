-- The facts that each pass of a loop of `behind_digits` keeps.
use Rattle.std.proofs.Common.{◌≡◌, drop}
use Rattle.amo_dir_admission.specs.Names.{behind_digits}
use Rattle.amo_dir_admission.proofs.names.behind_digits.Given as goal

abbrev pub invariant-loop-i : goal.invariant-loop-i
invariant-loop-i l = behind_digits (drop l.i l.name) ≡ behind_digits l.name
