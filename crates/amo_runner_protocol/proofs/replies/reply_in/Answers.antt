-- `reply_in`: its promises, by the lemmas of ReplyTexts.
use Rattle.amo_runner_protocol.proofs.ReplyTexts.{heard, was_said, somebody}
use Rattle.amo_runner_protocol.proofs.replies.reply_in.Goals as goal

pub returns-clause-heard : goal.returns-clause-heard
returns-clause-heard c = heard c.args.said.now c.reply_of_bytes.result c.reply_of_bytes.ensures

pub returns-clause-was_said : goal.returns-clause-was_said
returns-clause-was_said c = was_said c.args.said.now c.reply_of_bytes.result c.reply_of_bytes.ensures

pub returns-clause-somebody : goal.returns-clause-somebody
returns-clause-somebody c = somebody c.args.said.now c.reply_of_bytes.result c.reply_of_bytes.ensures
