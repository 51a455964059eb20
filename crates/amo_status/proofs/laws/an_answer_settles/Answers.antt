-- `an_answer_settles`: its promises, by the lemmas of Quiets and Settling.
use Rattle.amo_status.specs.declared.refusal.Refusal.TheVariants.{AnsweredOtherwise, AnsweredSo}
use Rattle.amo_status.specs.Answers.{contrary, with_answer}
use Rattle.amo_status.proofs.Quiets.{refused_now}
use Rattle.amo_status.proofs.Settling.{law_done, law_not_done, law_otherwise, law_so}
use Rattle.amo_status.proofs.laws.an_answer_settles.Goals as goal

pub returns-clause-done : goal.returns-clause-done
returns-clause-done c findings journals finals worker serial line time m = law_done findings journals finals worker serial line m time

pub returns-clause-not_done : goal.returns-clause-not_done
returns-clause-not_done c findings journals finals worker serial line time m = law_not_done findings journals finals worker serial line m time

pub returns-clause-so : goal.returns-clause-so
returns-clause-so c quiet findings journals finals worker serial line time verdict m =
    refused_now quiet (with_answer findings verdict worker serial time) journals finals worker serial line verdict AnsweredSo (law_so findings journals finals worker serial line m verdict time)

pub returns-clause-otherwise : goal.returns-clause-otherwise
returns-clause-otherwise c quiet findings journals finals worker serial line time verdict m =
    refused_now quiet (with_answer findings verdict worker serial time) journals finals worker serial line (contrary verdict) AnsweredOtherwise (law_otherwise findings journals finals worker serial line m verdict time)
