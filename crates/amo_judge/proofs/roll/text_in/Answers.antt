-- `text_in`: its promises, by the lemmas of Texts.
use Rattle.amo_judge.proofs.Texts.{is_text, is_no_text}
use Rattle.amo_judge.proofs.roll.text_in.Goals as goal

pub returns-in-Ok : goal.returns-in-Ok
returns-in-Ok c = is_text c.args.bytes.now c.in-Ok.text.now c.in-Ok.ensures.cases.0 c.in-Ok.ensures.cases.1

pub returns-in-Err : goal.returns-in-Err
returns-in-Err c = is_no_text c.args.bytes.now c.in-Err.ensures.cases.0
