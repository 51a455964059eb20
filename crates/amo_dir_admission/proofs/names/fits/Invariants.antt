-- The facts that each pass of a loop of `fits` keeps.
use Rattle.std.proofs.Common.{◌≡◌, drop, Some}
use Rattle.amo_dir_admission.specs.Names.{fits_rest}
use Rattle.amo_dir_admission.proofs.names.fits.Given as goal

abbrev pub invariant-loop-i : goal.invariant-loop-i
invariant-loop-i l = fits_rest (drop l.i l.pattern) (Some l.rest) ≡ fits_rest l.pattern (Some l.fn.name)
