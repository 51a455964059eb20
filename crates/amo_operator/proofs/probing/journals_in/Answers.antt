-- `journals_in`: its promises, by the lemmas of Knowledge and Unreadable.
use Rattle.std.proofs.Common.{◌≡◌, ◌∙◌, None, map, subst, arith}
use Rattle.amo_run_log.specs.Journals.{attempts_in}
use Rattle.amo_operator.proofs.Knowledge.{unreadable}
use Rattle.amo_operator.proofs.Unreadable.{unread_for}
use Rattle.amo_operator.proofs.probing.journals_in.Goals as goal

pub returns-in-Err-Refused-clause-refused : goal.returns-in-Err-Refused-clause-refused
returns-in-Err-Refused-clause-refused c =
    let it = c.in-Err-Refused in
    let texts = c.index-journals-i.result in
    let none = unread_for c.args.count (map (λ text. text.items) c.deref.result.now) it.field-0 it.number it.field-0-is it.ensures.refused in
    c.loop-i.invariant.readable
    ∙ unreadable c.args.count c.args.journals.now c.loop-i.i texts (omega (arith, c.loop-i-test.true)) c.index-journals-i.is (subst (λ ts. attempts_in c.args.count (map (λ text. text.items) ts) ≡ None) c.deref.ensures.value none)
