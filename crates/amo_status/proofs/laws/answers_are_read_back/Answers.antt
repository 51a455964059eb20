-- `answers_are_read_back`: its promises, by the lemmas of TextLists (amo_run_log) and SaidTexts.
use Rattle.std.proofs.Common.{map, ap, ◌∙◌}
use Rattle.amo_run_log.specs.Numbers.{read_all}
use Rattle.amo_run_log.proofs.TextLists.{reads_back, was_printed}
use Rattle.amo_status.specs.Said.{FitsSaid, lines_in, said_in, said_text}
use Rattle.amo_status.proofs.SaidTexts.{cuts, said_printed, said_reads, texts_lack}
use Rattle.amo_status.proofs.laws.answers_are_read_back.Goals as goal

pub returns-clause-back : goal.returns-clause-back
returns-clause-back c answers fit lack =
    ap (read_all said_in) (cuts (map said_text answers) (texts_lack answers fit lack)) ∙ reads_back said_in said_text FitsSaid said_reads answers fit

pub returns-clause-written : goal.returns-clause-written
returns-clause-written c file answers h = (was_printed said_in said_text FitsSaid said_printed (lines_in file) answers h).0
