-- `journal_of`: what its loop keeps and its promises, by the lemmas of AttemptLemmas.
use Rattle.std.proofs.Common.{◌≡◌, ◌≢◌, ◌+◌, ◌-◌, ◌∙◌, None, take, subst, sym, arith}
use Rattle.amo_run_log.specs.Journals.{journal_of}
use Rattle.amo_run_log.proofs.AttemptLemmas.{journal_more, is_noted, isnt_noted}
use Rattle.amo_run_log.proofs.journal.journal_of.Goals as goal

pub returns-then-not-branch-clause-refused : goal.returns-then-not-branch-clause-refused
returns-then-not-branch-clause-refused c =
    let before : (c.loop-i.i + 1) - 1 ≡ c.loop-i.i = omega arith in (
      omega arith,
      omega (arith, c.loop-i-test.true),
      subst (λ k. journal_of c.args.count (take k c.args.entries.now) ≢ None) (sym before) (λ none. absurd (cc (c.loop-i.invariant, none))),
      journal_more c.args.count c.args.entries.now c.loop-i.i _ c.loop-i.attempts.items c.loop-i-test.true c.loop-i.invariant ∙ isnt_noted c.args.count c.in_ok-note.field-0 _ _ _ c.if-not-branch.true c.in_ok-note.ensures.noted,
    )

pub loop-i-preserved : goal.loop-i-preserved
loop-i-preserved c =
    journal_more c.args.count c.args.entries.now c.loop-i.i _ c.loop-i.attempts.items c.loop-i-test.true c.loop-i.invariant ∙ is_noted c.args.count c.in_ok-note.field-0 _ _ _ c.if-not-branch.false c.in_ok-note.ensures.noted
