-- `Unsettled::settle`: its promises, directly from definitions and clauses.
use Rattle.std.proofs.Common.{refl, subst}
use Rattle.amo_crew.specs.Unsettling.{UnsettledView, IsSettledOf}
use Rattle.amo_crew.proofs.settle.unsettled.Unsettled.settle.Goals as goal

pub returns-in-Ok-clause-settled : goal.returns-in-Ok-clause-settled
returns-in-Ok-clause-settled g c = let i = c.self.inside in
    subst (λ (u : UnsettledView g.row.P.Denot g.row.Out.Denot). IsSettledOf u record { settlement = c.in-Ok.settlement; ends = i.ends; outputs = i.outputs; in_hand = i.in_hand }) c.self.view_is
    (record { read = c.in-Ok.ensures.read; whole = c.in-Ok.ensures.whole; ends = refl; outputs = refl; in_hand = refl })
