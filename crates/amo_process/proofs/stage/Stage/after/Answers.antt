-- `Stage::after`: its promises, directly from definitions and clauses.
use Rattle.std.proofs.Common.{sym, ap, ◌∙◌}
use Rattle.amo_process.specs.Stepped.{standing_after}
use Rattle.amo_process.specs.Stage.{standing_in_stage}
use Rattle.amo_process.proofs.stage.Stage.after.Goals as goal

pub returns-in-Stepping-clause-stands : goal.returns-in-Stepping-clause-stands
returns-in-Stepping-clause-stands c =
    c.stepped.ensures.stands c.args.own.now.items c.in-Stepping.field-1
    ∙ sym (ap (λ s. standing_after c.args.givens c.args.p c.args.v c.args.own.now.items (standing_in_stage c.args.givens c.args.p c.args.own.now.items s)) c.in-Stepping.is)

pub returns-in-Stepping-clause-fits : goal.returns-in-Stepping-clause-fits
returns-in-Stepping-clause-fits c = c.stepped.ensures.fits c.args.own.now.items
