-- `if_pending_attempts_open_a_line_is_performed_twice`: its promises, by the lemmas of Twice.
use Rattle.amo_safety_by_journals.proofs.Twice.{if_pending_opens}
use Rattle.amo_safety_by_journals.proofs.laws.if_pending_attempts_open_a_line_is_performed_twice.Goals as goal

pub returns : goal.returns
returns c = if_pending_opens
