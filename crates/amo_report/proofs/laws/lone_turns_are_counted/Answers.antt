-- `lone_turns_are_counted`: its promises, by the lemmas of Alone (amo_kk) and Stopped.
use Rattle.amo_params.specs.Givens.{lone_bound}
use Rattle.amo_kk.proofs.Alone.{claims_or_ends_soon}
use Rattle.amo_report.proofs.Stopped.{turns_are}
use Rattle.amo_report.proofs.laws.lone_turns_are_counted.Goals as goal

pub returns : goal.returns
returns c = λ g w p law here.
    let soon = claims_or_ends_soon g w p g.limits law here in
    (soon.0, soon.2, turns_are g soon.0 (lone_bound g) w p soon.1 soon.2)
