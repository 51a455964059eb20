-- `findings_in`: its promises, by the lemmas of Unreadable.
use Rattle.std.proofs.Common.{map}
use Rattle.amo_operator.proofs.Unreadable.{unsaid_for}
use Rattle.amo_operator.proofs.probing.findings_in.Goals as goal

pub returns-in-Err-Refused-clause-refused : goal.returns-in-Err-Refused-clause-refused
returns-in-Err-Refused-clause-refused c =
    let it = c.in-Err-Refused in
    unsaid_for (map (λ text. text.items) c.args.answers.now) it.field-0 it.number it.field-0-is it.ensures.refused
