-- The facts that each pass of a loop of `listed` keeps.
use Rattle.std.proofs.Common.{◌≡◌, ◌++◌}
use Rattle.std.specs.Vec.Iter.{into_iter_items}
use Rattle.amo_cli.proofs.words.listed.Given as goal

abbrev pub invariant-loop-word : goal.invariant-loop-word
invariant-loop-word l = l.list.items ++ into_iter_items l.word-iterator ≡ into_iter_items l.fn.words
