-- The facts that each pass of a loop of `known_lines` keeps.
use Rattle.std.proofs.Common.{◌≡◌, ◌<◌, ℕ, [], get_or, take, None}
use Rattle.amo_run_files.specs.Known.{HasJust}
use Rattle.amo_run_files.specs.Lines.{lines_in}
use Rattle.amo_run_files.specs.Refusals.{why_not}
use Rattle.amo_run_files.proofs.known.known_lines.Given as goal

abbrev pub invariant-loop-i : goal.invariant-loop-i
invariant-loop-i l = HasJust l.known (take l.i (lines_in l.bytes)) × ((k : ℕ) → k < l.i → why_not (take k (lines_in l.bytes)) (get_or (lines_in l.bytes) k []) ≡ None)
