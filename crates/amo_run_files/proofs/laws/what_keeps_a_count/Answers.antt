-- `what_keeps_a_count`: its promises, by the lemmas of KeptCounts.
use Rattle.amo_run_files.proofs.KeptCounts.{keeps, fewer, differs}
use Rattle.amo_run_files.proofs.laws.what_keeps_a_count.Goals as goal

pub returns-clause-kept : goal.returns-clause-kept
returns-clause-kept c count first checksums many same = keeps count first checksums many same

pub returns-clause-fewer : goal.returns-clause-fewer
returns-clause-fewer c count first checksums few = fewer count first checksums few

pub returns-clause-differs : goal.returns-clause-differs
returns-clause-differs c count first checksums isnt = differs count first checksums isnt
