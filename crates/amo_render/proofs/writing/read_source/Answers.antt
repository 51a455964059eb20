-- `read_source`: its promises, by the lemmas of Whole.
use Rattle.std.proofs.Common.{arith}
use Rattle.amo_render.proofs.Whole.{whole}
use Rattle.amo_render.proofs.writing.read_source.Goals as goal

pub returns-clause-plan : goal.returns-clause-plan
returns-clause-plan g c =
    let v = c.in-Ok.bytes in
    whole _ _ v.items _ c.in-Ok.ensures.ok (λ short. c.in-Ok.ensures.end (omega (arith, v.ok.0))) (rw c.deref.ensures.value at c.in_ok-plan.ensures.plan)
