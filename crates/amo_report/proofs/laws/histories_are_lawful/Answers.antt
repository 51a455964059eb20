-- `histories_are_lawful`: its promises, by the lemmas of Explored.
use Rattle.amo_kk.specs.Object.{first_object}
use Rattle.amo_kk.specs.World.{world_of}
use Rattle.amo_report.proofs.Explored.{lawful_history}
use Rattle.amo_report.proofs.laws.histories_are_lawful.Goals as goal

pub returns : goal.returns
returns c = λ g moves.
    let history = (world_of g moves).history in
    lawful_history g history ((c.first_bad_is_the_first.ensures.run g (first_object g) history).1 (c.history_is_a_run.ensures.run g moves))
