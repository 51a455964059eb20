-- `settled_journals_are_kept`: its promises, by the lemmas of Shown.
use Rattle.amo_run_safety.proofs.Shown.{rest_shown}
use Rattle.amo_run_safety.proofs.laws.settled_journals_are_kept.Goals as goal

pub returns : goal.returns
returns g c = λ device entries rest says. rest_shown g.D.Device.seen g.D.Device.may_leave g.D.Device.stale device entries rest says
