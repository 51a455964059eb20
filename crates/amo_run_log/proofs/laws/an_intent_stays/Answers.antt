-- `an_intent_stays`: its promises, by the lemmas of ClosingWins.
use Rattle.std.proofs.Common.{[], refl}
use Rattle.amo_run_log.proofs.ClosingWins.{has_more}
use Rattle.amo_run_log.proofs.laws.an_intent_stays.Goals as goal

pub returns-clause-first : goal.returns-clause-first
returns-clause-first c entries serial line time = (entries, time, [], refl, tt)

pub returns-clause-later : goal.returns-clause-later
returns-clause-later c entries more serial line has opens = has_more 0 [] line serial entries more has opens
