-- `rows_are_answers`: its promises, by the lemmas of SaidTexts.
use Rattle.amo_status.proofs.SaidTexts.{row_is_answer}
use Rattle.amo_status.proofs.laws.rows_are_answers.Goals as goal

pub returns : goal.returns
returns c kind line s text v closed of_kind = row_is_answer kind line s text v closed of_kind
