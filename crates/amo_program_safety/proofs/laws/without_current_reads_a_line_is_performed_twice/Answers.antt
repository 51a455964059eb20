-- `without_current_reads_a_line_is_performed_twice`: its promises, by the lemmas of Twice.
use Rattle.amo_program_safety.proofs.Twice.{without_current_reads}
use Rattle.amo_program_safety.proofs.laws.without_current_reads_a_line_is_performed_twice.Goals as goal

pub returns : goal.returns
returns c = without_current_reads
