-- `a_run_performs_no_line_twice`: its promises, directly from definitions and clauses.
use Rattle.amo_params.specs.declared.limits.TheConstants.{MAX_WORKERS}
use Rattle.amo_call_log_judge.proofs.laws.a_run_performs_no_line_twice.Goals as goal

pub returns : goal.returns
returns c text es is = c.lines_are_performed_once_by_journals_alone.ensures MAX_WORKERS es is.1
