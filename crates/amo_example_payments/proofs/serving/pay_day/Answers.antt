-- `pay_day`: its promises, by the lemmas of DayReports and Fronts.
use Rattle.std.proofs.Common.{codes, refl, subst}
use Rattle.std.specs.Io.KnownBytes.{Appends}
use Rattle.amo_io.specs.Streams.{AppendsFront}
use Rattle.amo_example_payments.specs.Reports.{lines_of}
use Rattle.amo_example_payments.proofs.DayReports.{made_of, doubtful_of, untried_of, at_first, at_before, at_doubt, at_rounds, at_floors, at_last, at_end}
use Rattle.amo_example_payments.proofs.Fronts.{on_err}
use Rattle.amo_example_payments.proofs.serving.pay_day.Goals as goal

pub returns-in_err-parts-clause-front : goal.returns-in_err-parts-clause-front
returns-in_err-parts-clause-front g c = on_err _ (at_first c.args.day c.args.ledger.attempts.items _ _ _ refl refl refl _)

pub returns-in_err-tell_each-clause-front : goal.returns-in_err-tell_each-clause-front
returns-in_err-tell_each-clause-front g c =
    on_err _ (at_before c.args.day c.args.ledger.attempts.items _ _ _ (made_of c.args.day c.args.ledger.attempts.items _ c.in_ok-parts.parts _ c.in_ok-parts.ensures c.attempts.ensures c.deref.ensures.value)
    (doubtful_of c.args.day c.args.ledger.attempts.items _ c.in_ok-parts.parts _ c.in_ok-parts.ensures c.attempts.ensures refl)
    (untried_of c.args.day c.args.ledger.attempts.items _ c.in_ok-parts.parts c.in_ok-parts.ensures c.attempts.ensures) _ _ c.in_err-tell_each.ensures.front)

pub returns-in_err-tell_each-2-clause-front : goal.returns-in_err-tell_each-2-clause-front
returns-in_err-tell_each-2-clause-front g c =
    on_err _ (at_doubt c.args.day c.args.ledger.attempts.items _ _ _ (made_of c.args.day c.args.ledger.attempts.items _ c.in_ok-parts.parts _ c.in_ok-parts.ensures c.attempts.ensures c.deref.ensures.value)
    (doubtful_of c.args.day c.args.ledger.attempts.items _ c.in_ok-parts.parts _ c.in_ok-parts.ensures c.attempts.ensures c.deref-2.ensures.value)
    (untried_of c.args.day c.args.ledger.attempts.items _ c.in_ok-parts.parts c.in_ok-parts.ensures c.attempts.ensures) _ _ _ c.in_ok-tell_each.ensures.whole c.in_err-tell_each-2.ensures.front)

pub returns-in_err-free-clause-front : goal.returns-in_err-free-clause-front
returns-in_err-free-clause-front g c =
    on_err _ (at_rounds c.args.day c.args.ledger.attempts.items _ _ _ (made_of c.args.day c.args.ledger.attempts.items _ c.in_ok-parts.parts _ c.in_ok-parts.ensures c.attempts.ensures c.deref.ensures.value)
    (doubtful_of c.args.day c.args.ledger.attempts.items _ c.in_ok-parts.parts _ c.in_ok-parts.ensures c.attempts.ensures c.deref-2.ensures.value)
    (untried_of c.args.day c.args.ledger.attempts.items _ c.in_ok-parts.parts c.in_ok-parts.ensures c.attempts.ensures) _ _ _ _ c.in_ok-tell_each.ensures.whole c.in_ok-tell_each-2.ensures.whole c.in_err-free.ensures.part)

pub returns-in_err-left-clause-front : goal.returns-in_err-left-clause-front
returns-in_err-left-clause-front g c =
    on_err _ (at_floors c.args.day c.args.ledger.attempts.items _ _ _ (made_of c.args.day c.args.ledger.attempts.items _ c.in_ok-parts.parts _ c.in_ok-parts.ensures c.attempts.ensures c.deref.ensures.value)
    (doubtful_of c.args.day c.args.ledger.attempts.items _ c.in_ok-parts.parts _ c.in_ok-parts.ensures c.attempts.ensures c.deref-2.ensures.value)
    (untried_of c.args.day c.args.ledger.attempts.items _ c.in_ok-parts.parts c.in_ok-parts.ensures c.attempts.ensures) _ _ _ _ _ _ c.in_ok-tell_each.ensures.whole c.in_ok-tell_each-2.ensures.whole c.in_ok-free.ensures.told c.in_err-left.ensures.part)

pub returns-in_err-tell_each-3-clause-front : goal.returns-in_err-tell_each-3-clause-front
returns-in_err-tell_each-3-clause-front g c =
    on_err _ (at_last c.args.day c.args.ledger.attempts.items _ _ _ (made_of c.args.day c.args.ledger.attempts.items _ c.in_ok-parts.parts _ c.in_ok-parts.ensures c.attempts.ensures c.deref.ensures.value)
    (doubtful_of c.args.day c.args.ledger.attempts.items _ c.in_ok-parts.parts _ c.in_ok-parts.ensures c.attempts.ensures c.deref-2.ensures.value)
    (untried_of c.args.day c.args.ledger.attempts.items _ c.in_ok-parts.parts c.in_ok-parts.ensures c.attempts.ensures) _ c.in_ok-left.left.items _ _ _ _ _ _ c.in_ok-tell_each.ensures.whole c.in_ok-tell_each-2.ensures.whole c.in_ok-free.ensures.told c.in_ok-left.ensures.told
    (subst (λ l. AppendsFront (g.O.Write.contents c.try_all.new.out) (g.O.Write.contents c.tell_each-3.new.out) (lines_of (codes "free") l)) c.deref-3.ensures.value c.in_err-tell_each-3.ensures.front))

pub returns-clause-whole : goal.returns-clause-whole
returns-clause-whole g c =
    at_end c.args.day c.args.ledger.attempts.items _ _ _ (made_of c.args.day c.args.ledger.attempts.items _ c.in_ok-parts.parts _ c.in_ok-parts.ensures c.attempts.ensures c.deref.ensures.value)
    (doubtful_of c.args.day c.args.ledger.attempts.items _ c.in_ok-parts.parts _ c.in_ok-parts.ensures c.attempts.ensures c.deref-2.ensures.value)
    (untried_of c.args.day c.args.ledger.attempts.items _ c.in_ok-parts.parts c.in_ok-parts.ensures c.attempts.ensures) _ c.in_ok-left.left.items _ _ _ _ _ _ c.in_ok-tell_each.ensures.whole c.in_ok-tell_each-2.ensures.whole c.in_ok-free.ensures.told c.in_ok-left.ensures.told
    (subst (λ l. Appends (g.O.Write.contents c.try_all.new.out) (g.O.Write.contents c.tell_each-3.new.out) (lines_of (codes "free") l)) c.deref-3.ensures.value c.in_ok-tell_each-3.ensures.whole)
