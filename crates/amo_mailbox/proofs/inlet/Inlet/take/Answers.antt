-- `Inlet::take`: the premises of its calls and its promises, by the lemmas of Passes.
use Rattle.std.proofs.Common.{List, [], ◌∷◌, ◌++◌, ap, ◌∙◌}
use Rattle.crossbeam_queue.specs.Passes.{view}
use Rattle.amo_mailbox.specs.declared.output.Output.{Output}
use Rattle.amo_mailbox.specs.Ports.{InletView}
use Rattle.amo_mailbox.proofs.Passes.{takes, learns}
use Rattle.amo_mailbox.proofs.inlet.Inlet.take.Goals as goal

pub pop_as-requires-clause-rule : goal.pop_as-requires-clause-rule
pop_as-requires-clause-rule g c = (takes _ _ _ _ _ (ap (λ (i : InletView g.row.Out.Denot). view i.pass) c.self.view_is ∙ c.requires.belong.view_is), learns _ _)

pub returns-in-Some-clause-took : goal.returns-in-Some-clause-took
returns-in-Some-clause-took g c = (
  c.in-Some.output,
  c.push_reserved.ensures.items ∙ ap (λ (l : List (Output g.row.Out.Denot)). l ++ c.in-Some.output ∷ []) (ap (λ (i : InletView g.row.Out.Denot). i.taken) c.self.view_is),
)
