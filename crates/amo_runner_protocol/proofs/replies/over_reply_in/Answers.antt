-- `over_reply_in`: its promises, by the lemmas of ReplyTexts.
use Rattle.amo_runner_protocol.proofs.ReplyTexts.{way_heard, way_was_said}
use Rattle.amo_runner_protocol.proofs.replies.over_reply_in.Goals as goal

pub returns-clause-heard : goal.returns-clause-heard
returns-clause-heard c = way_heard c.args.said.now c.way_of.result c.way_of.ensures

pub returns-clause-was_said : goal.returns-clause-was_said
returns-clause-was_said c = way_was_said c.args.said.now c.way_of.result c.way_of.ensures
