-- `follow`: its promises, by the lemmas of Ledgers.
use Rattle.std.proofs.Common.{◌≡◌, Bool, true, false, not, refl, sym, ◌∙◌, subst, Some}
use Rattle.amo_run_log.specs.declared.entry.Entry.{Entry}
use Rattle.amo_run_log.specs.Journals.{noted}
use Rattle.amo_run_log.specs.Open.{opens}
use Rattle.amo_example_payments.proofs.Ledgers.{answer_stays}
use Rattle.amo_example_payments.proofs.restarting.follow.Goals as goal

is_false : (b : Bool) → not b ≡ true → b ≡ false
is_false true e = sym e
is_false false e = refl

pub returns-in-Answer : goal.returns-in-Answer
returns-in-Answer c kept lines old new more before id =
    let shut : opens c.in-Answer.answer ≡ false = sym c.opens.ensures ∙ is_false c.opens.result kept in
    before id ∙ sym (answer_stays old new _ c.in-Answer.answer id shut (subst (λ (e : Entry). noted lines old e ≡ Some new) c.in-Answer.is more))
