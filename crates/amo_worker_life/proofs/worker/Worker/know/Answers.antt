-- `Worker::know`: its promises, by the lemmas of Unreadable.
use Rattle.std.proofs.Common.{map, arith}
use Rattle.amo_worker_life.proofs.Unreadable.{unread_for}
use Rattle.amo_worker_life.proofs.worker.Worker.know.Goals as goal

pub returns-in-Err-Refused-clause-halts : goal.returns-in-Err-Refused-clause-halts
returns-in-Err-Refused-clause-halts g c =
    let it = c.in-Err-Refused in
    let none = unread_for c.count-count.result (map (λ text. text.items) c.deref.result.now) it.field-0 it.number it.field-0-is it.ensures.refused in
    grind (arith, none)
