-- `serve`: its promises, by the lemmas of Ledgers.
use Rattle.std.proofs.Common.{◌≡◌, inr, Result, Err, Some, length, refl, sym, ap, subst, ◌∙◌, rules}
use Rattle.std.proofs.lemmas.Option.{IfSome_then}
use Rattle.std.proofs.lemmas.Result.{on_ok_weaker, on_err_weaker}
use Rattle.amo_example_payments.specs.declared.fault.Fault.{Fault}
use Rattle.amo_example_payments.specs.declared.fault.Fault.TheVariants.{Memory}
use Rattle.amo_example_payments.specs.Days.{IsDayOf}
use Rattle.amo_example_payments.specs.Faults.{is_of_input, is_of_journal, IsRefusedIn}
use Rattle.amo_example_payments.specs.Restarts.{journal_in}
use Rattle.amo_example_payments.proofs.Ledgers.{fault_in, none_of}
use Rattle.amo_example_payments.proofs.serving.serve.Goals as goal

pub returns-clause-whole : goal.returns-clause-whole
returns-clause-whole g c =
    let size : c.len.result ≡ length c.in_ok-day.day.payments.items = search rules in
    let known = subst (λ n. journal_in n (g.D.Device.seen c.args.device) ≡ Some c.in_ok-ledger.ledger.attempts.items) size c.in_ok-ledger.ensures.known in
    on_ok_weaker c.pay_day.result (λ h. (c.in_ok-day.day, c.in_ok-ledger.ledger.attempts.items, (c.in_ok-day.ensures.day, known), h)) c.pay_day.ensures.whole

pub returns-clause-front : goal.returns-clause-front
returns-clause-front g c =
    let size : c.len.result ≡ length c.in_ok-day.day.payments.items = search rules in
    let known = subst (λ n. journal_in n (g.D.Device.seen c.args.device) ≡ Some c.in_ok-ledger.ledger.attempts.items) size c.in_ok-ledger.ensures.known in
    on_err_weaker c.pay_day.result (λ h. inr (c.in_ok-day.day, c.in_ok-ledger.ledger.attempts.items, (c.in_ok-day.ensures.day, known), h)) c.pay_day.ensures.front

-- no day, and so no entry of its journal
pub returns-in_err-day-clause-entry : goal.returns-in_err-day-clause-entry
returns-in_err-day-clause-entry g c n h =
    let is : c.from_residual.result ≡ Err c.in_err-day.field-0.0 = search rules in
    absurd (none_of is_of_input _ _ c.in_err-day.ensures.fault (ap (λ (r : Result g.row.D.Denot Fault). fault_in r Memory) (sym is ∙ h)) refl refl)

pub returns-in_err-ledger-clause-line : goal.returns-in_err-ledger-clause-line
returns-in_err-ledger-clause-line g c h =
    let is : c.from_residual-in_err-ledger.result ≡ Err c.in_err-ledger.field-0.0 = search rules in
    absurd (none_of is_of_journal _ _ c.in_err-ledger.ensures.fault (ap (λ (r : Result g.row.D.Denot Fault). fault_in r Memory) (sym is ∙ h)) refl refl)

pub returns-in_err-ledger-clause-crew : goal.returns-in_err-ledger-clause-crew
returns-in_err-ledger-clause-crew g c h =
    let is : c.from_residual-in_err-ledger.result ≡ Err c.in_err-ledger.field-0.0 = search rules in
    absurd (none_of is_of_journal _ _ c.in_err-ledger.ensures.fault (ap (λ (r : Result g.row.D.Denot Fault). fault_in r Memory) (sym is ∙ h)) refl refl)

pub returns-in_err-ledger-clause-entry : goal.returns-in_err-ledger-clause-entry
returns-in_err-ledger-clause-entry g c n h =
    let is : c.from_residual-in_err-ledger.result ≡ Err c.in_err-ledger.field-0.0 = search rules in
    let size : c.len.result ≡ length c.in_ok-day.day.payments.items = search rules in
    let refused = subst (λ k. IsRefusedIn k (g.D.Device.seen c.args.device) n) size (c.in_err-ledger.ensures.refused n (ap Err (ap (λ (r : Result g.row.D.Denot Fault). fault_in r Memory) (sym is ∙ h)))) in
    IfSome_then (g.B.Read.remaining c.args.input.now) {P = λ text. IsDayOf text c.in_ok-day.day} c.in_ok-day.ensures.day (λ text is. (c.in_ok-day.day, is, refused))
