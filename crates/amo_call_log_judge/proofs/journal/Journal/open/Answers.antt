-- `Journal::open`: its promises, by the lemmas of Steps.
use Rattle.std.proofs.Common.{rules}
use Rattle.amo_call_log_judge.proofs.Steps.{none_to_open, set_opened}
use Rattle.amo_call_log_judge.proofs.journal.Journal.open.Goals as goal

pub returns-then-not-has-clause-kept : goal.returns-then-not-has-clause-kept
returns-then-not-has-clause-kept c = none_to_open c.args.self.now.kept.items c.args.serial c.has.result c.has.ensures (search rules)

pub returns-clause-kept : goal.returns-clause-kept
returns-clause-kept c = set_opened c.args.self.now.kept.items c.args.serial c.index.result.now c.has.result c.has.ensures (search rules) c.index.ensures
