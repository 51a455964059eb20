-- The facts that each pass of a loop of `texts_of` keeps.
use Rattle.std.proofs.Common.{◌≡◌, ◌++◌, [], drop, map}
use Rattle.std.specs.Prelude.{option_map}
use Rattle.amo_run_files.specs.Records.{texts_from}
use Rattle.amo_run_files.proofs.header.texts_of.Given as goal

abbrev pub invariant-loop-b : goal.invariant-loop-b
invariant-loop-b l = option_map (λ more. map (λ text. text.items) l.texts.items ++ more) (texts_from (drop l.b-index l.bytes) l.begun.items) ≡ texts_from l.bytes []
