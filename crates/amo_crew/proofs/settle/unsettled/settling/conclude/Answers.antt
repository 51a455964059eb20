-- `conclude`: its promises, by the lemmas of Crews.
use Rattle.std.proofs.Common.{sym, ap, ◌∙◌}
use Rattle.amo_crew.specs.Refusing.{any_refused}
use Rattle.amo_crew.proofs.Crews.{some_refused, all_started}
use Rattle.amo_crew.proofs.settle.unsettled.settling.conclude.Goals as goal

pub returns-then-has_refused-clause-refused : goal.returns-then-has_refused-clause-refused
returns-then-has_refused-clause-refused g c = (c.in-Ok.ensures.settled, some_refused c.in-Ok.outcome.ends.items (ap any_refused (sym c.as_slice.ensures.value) ∙ sym c.if-has_refused.ensures))

pub returns-else-has_refused-clause-done : goal.returns-else-has_refused-clause-done
returns-else-has_refused-clause-done g c = (c.in-Ok.ensures.settled, all_started c.in-Ok.outcome.ends.items (ap any_refused (sym c.as_slice.ensures.value) ∙ sym c.if-has_refused.ensures))
