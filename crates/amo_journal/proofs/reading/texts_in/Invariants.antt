-- The facts that each pass of a loop of `texts_in` keeps.
use Rattle.std.proofs.Common.{◌≡◌, ◌++◌, length}
use Rattle.amo_journal.specs.Logs.{records_of}
use Rattle.amo_journal.specs.Texts.{texts_in}
use Rattle.amo_journal.proofs.reading.texts_in.Given as goal

abbrev pub invariant-loop-text : goal.invariant-loop-text
invariant-loop-text l = records_of l.texts.items ++ texts_in l.rest ≡ texts_in l.bytes

abbrev pub decreases-loop-text : goal.decreases-loop-text
decreases-loop-text l = length l.rest
