-- The facts that each pass of a loop of `extents_of` keeps.
use Rattle.std.proofs.Common.{◌≡◌, ◌++◌, drop, map}
use Rattle.std.specs.Prelude.{option_map}
use Rattle.amo_run_log.specs.Numbers.{read_all}
use Rattle.amo_run_files.specs.Extents.{extent_said, extent_in}
use Rattle.amo_run_files.proofs.round_file.extents_of.Given as goal

abbrev pub invariant-loop-text : goal.invariant-loop-text
invariant-loop-text l = option_map (λ more. map extent_said l.extents.items ++ more) (read_all extent_in (map (λ text. text.items) (drop l.text-index l.texts))) ≡ read_all extent_in (map (λ text. text.items) l.texts)
