-- `ended_puts_are_events`: its promises, by the lemmas of Shown.
use Rattle.amo_run_safety.proofs.Shown.{ended_shown}
use Rattle.amo_run_safety.proofs.laws.ended_puts_are_events.Goals as goal

pub returns : goal.returns
returns g c = λ old new entries more read each. ended_shown g.D.Device.seen g.D.Device.may_leave new entries more read
    (λ file may. each.each file (g.met.D.Device.counts_now new (g.D.Device.moment old) file each.later may))
