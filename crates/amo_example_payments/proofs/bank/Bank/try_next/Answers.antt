-- `Bank::try_next`: its promises, by the lemmas of Floors and Fronts.
use Rattle.std.proofs.Common.{subst}
use Rattle.std.specs.Io.KnownBytes.{Appends}
use Rattle.amo_io.specs.Streams.{AppendsFront}
use Rattle.amo_example_payments.specs.Reports.{answer_lines}
use Rattle.amo_example_payments.proofs.Floors.{part_none, part_one, next_one}
use Rattle.amo_example_payments.proofs.Fronts.{on_err, whole}
use Rattle.amo_example_payments.proofs.bank.Bank.try_next.Goals as goal

pub returns-in_err-round-clause-part : goal.returns-in_err-round-clause-part
returns-in_err-round-clause-part g c = on_err _ (part_none _ _ _ _ _)

pub returns-in_err-rest-clause-part : goal.returns-in_err-rest-clause-part
returns-in_err-rest-clause-part g c = on_err _ (part_none _ _ _ _ _)

pub returns-in_err-tell_answers-clause-part : goal.returns-in_err-tell_answers-clause-part
returns-in_err-tell_answers-clause-part g c = on_err _ (part_one _ _ _ _ c.in_ok-round.round.items _ c.in_ok-rest.rest _ _ c.in_ok-round.ensures.round c.in_ok-rest.ensures.rest (subst (λ l. AppendsFront (g.O.Write.contents c.args.out.now) (g.O.Write.contents c.tell_answers.new.out) (answer_lines l)) c.deref.ensures.value c.in_err-tell_answers.ensures.front))

pub returns-in_err-add_free-clause-part : goal.returns-in_err-add_free-clause-part
returns-in_err-add_free-clause-part g c =
    on_err _ (part_one _ _ _ _ c.in_ok-round.round.items _ c.in_ok-rest.rest _ _ c.in_ok-round.ensures.round c.in_ok-rest.ensures.rest (whole _ _ _ (subst (λ l. Appends (g.O.Write.contents c.args.out.now) (g.O.Write.contents c.tell_answers.new.out) (answer_lines l)) c.deref.ensures.value c.in_ok-tell_answers.ensures.whole)))

pub returns-clause-told : goal.returns-clause-told
returns-clause-told g c = next_one _ _ _ _ c.in_ok-round.round.items _ _ _ c.in_ok-rest.rest _ _ c.in_ok-round.ensures.round c.in_ok-rest.ensures.rest c.in_ok-add_free.ensures
    (subst (λ l. Appends (g.O.Write.contents c.args.out.now) (g.O.Write.contents c.tell_answers.new.out) (answer_lines l)) c.deref.ensures.value c.in_ok-tell_answers.ensures.whole)
