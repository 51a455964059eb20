-- `pends`: its promises, by the lemmas of Unreadable.
use Rattle.std.proofs.Common.{◌-◌, ◌^◌, map, ap}
use Rattle.std.specs.Prelude.{option_map}
use Rattle.amo_operator.specs.Knowing.{has_pending}
use Rattle.amo_operator.proofs.Unreadable.{unread_for}
use Rattle.amo_operator.proofs.reading.pends.Goals as goal

pub returns-in-Err-Refused-clause-refused : goal.returns-in-Err-Refused-clause-refused
returns-in-Err-Refused-clause-refused c =
    let it = c.in-Err-Refused in
    ap (option_map has_pending) (unread_for (2 ^ 64 - 1) (map (λ text. text.items) c.args.texts.now) it.field-0 it.number it.field-0-is it.ensures.refused)
