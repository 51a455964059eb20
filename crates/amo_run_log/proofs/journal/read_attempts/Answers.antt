-- `read_attempts`: what its loop keeps and its promises, by the lemmas of AttemptTexts.
use Rattle.std.proofs.Common.{sym, ap, ◌∙◌}
use Rattle.amo_run_log.specs.Entries.{append_in}
use Rattle.amo_run_log.proofs.AttemptTexts.{notes_on, refused_there, refused_unread}
use Rattle.amo_run_log.proofs.journal.read_attempts.Goals as goal

pub returns-in_default-clause-refused : goal.returns-in_default-clause-refused
returns-in_default-clause-refused c =
    refused_unread c.args.count c.args.texts.now c.loop-i.i c.loop-i.noted.items c.index-texts-i.result c.loop-i-test.true c.index-texts-i.is c.loop-i.invariant
    (ap append_in (sym c.deref.ensures.value) ∙ sym c.in_default.ensures.exact)

pub returns-then-not-branch-clause-refused : goal.returns-then-not-branch-clause-refused
returns-then-not-branch-clause-refused c =
    refused_there c.args.count c.args.texts.now c.loop-i.i c.loop-i.noted.items c.note_append.new.attempts.items c.index-texts-i.result c.in-Some.append c.in_ok-note_append.field-0 c.loop-i-test.true c.index-texts-i.is
    c.loop-i.invariant (ap append_in (sym c.deref.ensures.value) ∙ sym c.in-Some.ensures.exact) c.if-not-branch.true c.in_ok-note_append.ensures.noted

pub loop-i-preserved : goal.loop-i-preserved
loop-i-preserved c =
    notes_on c.args.count c.args.texts.now c.loop-i.i c.loop-i.noted.items c.note_append.new.attempts.items c.index-texts-i.result c.in-Some.append c.in_ok-note_append.field-0 c.loop-i-test.true c.index-texts-i.is
    c.loop-i.invariant (ap append_in (sym c.deref.ensures.value) ∙ sym c.in-Some.ensures.exact) c.if-not-branch.false c.in_ok-note_append.ensures.noted
