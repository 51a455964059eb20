-- `counts`: its promises, by the lemmas of OneKind.
use Rattle.std.proofs.Common.{arith}
use Rattle.amo_status.proofs.OneKind.{all_counted}
use Rattle.amo_status.proofs.counting.counts.Goals as goal

pub returns-clause-all : goal.returns-clause-all
returns-clause-all c =
    omega (arith, all_counted c.args.standings.now, c.count_of.ensures, c.count_of-2.ensures, c.count_of-3.ensures, c.count_of-4.ensures, c.count_of-5.ensures, c.count_of-6.ensures)
