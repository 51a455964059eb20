-- `next_serial`: its promises, by the lemmas of Serials.
use Rattle.std.proofs.Common.{◌+◌, ℕ, ap, ◌∙◌}
use Rattle.amo_worker_life.proofs.Serials.{next_past, next_there}
use Rattle.amo_worker_life.proofs.joining.next_serial.Goals as goal

pub returns-then-worker-journals : goal.returns-then-worker-journals
returns-then-worker-journals c =
    ap (λ (n : ℕ). n + 1) (c.len.ensures ∙ c.index-journals-worker.result.ok.0)
    ∙ next_there c.args.journals.now c.args.worker c.index-journals-worker.result c.if-worker-ge1.true c.if-worker-journals.true c.index-journals-worker.is

pub returns-else-worker-ge1 : goal.returns-else-worker-ge1
returns-else-worker-ge1 c = next_past c.args.journals.now c.args.worker c.else-worker-ge1.either
