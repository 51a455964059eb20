-- `settle`: its promises, by the lemmas of AttemptLemmas.
use Rattle.std.proofs.Common.{◌-◌, sym, ap, ◌∙◌, None, arith}
use Rattle.amo_run_log.specs.declared.journal.Attempt.{Attempt}
use Rattle.amo_run_log.specs.Journals.{answered_to}
use Rattle.amo_run_log.proofs.AttemptLemmas.{answered_at, answered_not, answered_past, serial, none_of}
use Rattle.amo_run_log.proofs.journal.settle.Goals as goal
use Rattle.amo_run_log.proofs.journal.settle.Goals.{then-serial-eq0-via-then-serial-eq0, then-serial-eq0-via-else-serial-eq0+then-serial-attempts}

abbrev blank : Attempt
blank = record { line = 0; time = 0; answer = None }

pub returns-then-serial-eq0-clause-refused : goal.returns-then-serial-eq0-clause-refused
returns-then-serial-eq0-clause-refused c _ = elim c.then-serial-eq0.branch [
  | then-serial-eq0-via-then-serial-eq0 w ↦ ap (λ s. answered_to c.args.attempts.now s c.args.answer) w.if-serial-eq0.true
  | then-serial-eq0-via-else-serial-eq0+then-serial-attempts w ↦
      serial c.args.attempts.now c.args.serial c.args.answer (omega arith) ∙ answered_past c.args.attempts.now (c.args.serial - 1) c.args.answer (omega arith)
]

pub returns-then-is_some-clause-refused : goal.returns-then-is_some-clause-refused
returns-then-is_some-clause-refused c _ =
    serial c.args.attempts.now c.args.serial c.args.answer (omega arith)
    ∙ answered_not c.args.attempts.now (c.args.serial - 1) c.args.answer blank (omega arith) (sym c.is_some.ensures ∙ c.if-is_some.true)

pub returns-clause-noted : goal.returns-clause-noted
returns-clause-noted c _ =
    serial c.args.attempts.now c.args.serial c.args.answer (omega arith)
    ∙ answered_at c.args.attempts.now (c.args.serial - 1) c.args.answer blank (omega arith) (none_of _ (sym c.is_some.ensures ∙ c.if-is_some.false))
