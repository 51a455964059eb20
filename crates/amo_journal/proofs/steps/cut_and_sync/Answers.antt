-- `cut_and_sync`: its promises, by the lemmas of Moments and Ending.
use Rattle.amo_journal.specs.Device.{CutFrom}
use Rattle.amo_journal.proofs.Moments.{started, goes_on}
use Rattle.amo_journal.proofs.Ending.{cut_none}
use Rattle.amo_journal.proofs.steps.cut_and_sync.Goals as goal

pub returns-in_err-cut-clause-any_moment : goal.returns-in_err-cut-clause-any_moment
returns-in_err-cut-clause-any_moment g c =
    let d0 = c.args.device.now in
    let P = CutFrom c.args.len (g.D.Device.may_leave d0) in
    let at_start = started g.D.Device.moment g.D.Device.left_since d0 P (λ f left. (f, g.met.D.Device.only_now d0 f left, cut_none c.args.len f)) in
    goes_on g.D.Device.moment g.D.Device.left_since d0 d0 c.cut.new.self P _ at_start c.cut.ensures.time c.cut.ensures.crash
