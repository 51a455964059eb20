-- `who_has_which_seat`: its promises, by the lemmas of SeatLaws.
use Rattle.amo_run_files.proofs.SeatLaws.{one_each, in_range, first_seat, each_taken}
use Rattle.amo_run_files.proofs.laws.who_has_which_seat.Goals as goal

pub returns-clause-one_each : goal.returns-clause-one_each
returns-clause-one_each c one other first workers shared seat le h k = one_each one other first workers shared seat le h k

pub returns-clause-in_range : goal.returns-clause-in_range
returns-clause-in_range c worker first workers shared seat le h = in_range worker first workers shared seat le h

pub returns-clause-first : goal.returns-clause-first
returns-clause-first c first workers shared from there some = first_seat first workers shared from there some

pub returns-clause-taken : goal.returns-clause-taken
returns-clause-taken c first workers shared seat from there few one shares = each_taken first workers shared seat from there few one shares
