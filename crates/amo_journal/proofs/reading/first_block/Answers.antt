-- `first_block`: its promises, by the lemmas of Blocks.
use Rattle.std.proofs.Common.{rules}
use Rattle.amo_journal.proofs.Blocks.{no_block}
use Rattle.amo_journal.proofs.reading.first_block.Goals as goal

pub returns-clause-none : goal.returns-clause-none
returns-clause-none c = no_block c.args.bytes.now c.first_line.result c.in-43.len_at_least (search rules) c.first_line.ensures.none
