-- `settling_takes_what_a_stop_takes`: its promises, by the lemmas of Shown.
use Rattle.amo_run_safety.proofs.Shown.{settling_shown, kept_settling_shown}
use Rattle.amo_run_safety.proofs.laws.settling_takes_what_a_stop_takes.Goals as goal

pub returns-clause-kept : goal.returns-clause-kept
returns-clause-kept g c = λ old new first all entries file log says each left. kept_settling_shown first all (g.D.Device.seen old) entries file log says (each.each file left)

pub returns-clause-loose : goal.returns-clause-loose
returns-clause-loose g c = λ old new first all appends append file log says each left. settling_shown first all (g.D.Device.seen old) appends append file log says (each.each file left)
