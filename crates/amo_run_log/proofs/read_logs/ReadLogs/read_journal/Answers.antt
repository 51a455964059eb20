-- `ReadLogs::read_journal`: what its loop keeps and its promises, by the lemmas of ByLine,
-- LogReadings and TextLists.
use Rattle.std.proofs.Common.{◌+◌, ◌≤◌, ℕ, true, false, List, length, map, drop, sym, ap, subst, ◌∙◌, arith}
use Rattle.amo_run_log.specs.Entries.{append_in, entries_of_append}
use Rattle.amo_run_log.specs.ReadLogs.{journals_after, NotesEntries}
use Rattle.amo_run_log.proofs.ByLine.{attempts_in}
use Rattle.amo_run_log.proofs.LogReadings.{text_more, text_next, text_refused, texts_all, no_text, kept_length}
use Rattle.amo_run_log.proofs.TextLists.{bytes_of}
use Rattle.amo_run_log.proofs.read_logs.ReadLogs.read_journal.Goals as goal

pub returns-then-not-branch-clause-read : goal.returns-then-not-branch-clause-read
returns-then-not-branch-clause-read c =
    let texts = c.args.texts.now in
    let i = c.loop-text.text-index in
    let rest : List (List ℕ) = map bytes_of (drop (i + 1) texts) in
    let count = length c.args.self.now.attempts.lines.items in
    let before = attempts_in c.loop-text.self.attempts.journals.items in
    let after = attempts_in c.note_append.new.self.journals.items in
    let text = c.text-item.result in
    sym c.loop-text.invariant.left
    ∙ ap (journals_after count before c.args.worker) (text_next texts i text c.loop-text-test.true c.text-item.is)
    ∙ text_refused count before after c.args.worker text.items rest c.in-Some.append (ap append_in (sym c.deref.ensures.value) ∙ sym c.in-Some.ensures.exact)
    (subst (λ (n : ℕ). NotesEntries n false before c.args.worker (entries_of_append c.in-Some.append) after) c.loop-text.invariant.lines
    (subst (λ b. NotesEntries (length c.loop-text.self.attempts.lines.items) b before c.args.worker (entries_of_append c.in-Some.append) after) c.if-not-branch.true c.in_ok-note_append.ensures.noted))

pub loop-text-preserved : goal.loop-text-preserved
loop-text-preserved c =
    let texts = c.args.texts.now in
    let i = c.loop-text.text-index in
    let rest : List (List ℕ) = map bytes_of (drop (i + 1) texts) in
    let count = length c.args.self.now.attempts.lines.items in
    let before = attempts_in c.loop-text.self.attempts.journals.items in
    let after = attempts_in c.note_append.new.self.journals.items in
    let text = c.text-item.result in
    let notes : NotesEntries count true before c.args.worker (entries_of_append c.in-Some.append) after =
    subst (λ (n : ℕ). NotesEntries n true before c.args.worker (entries_of_append c.in-Some.append) after) c.loop-text.invariant.lines
    (subst (λ b. NotesEntries (length c.loop-text.self.attempts.lines.items) b before c.args.worker (entries_of_append c.in-Some.append) after) c.if-not-branch.false c.in_ok-note_append.ensures.noted) in
    record {
      left =
          sym (text_more count before after c.args.worker text.items rest c.in-Some.append (ap append_in (sym c.deref.ensures.value) ∙ sym c.in-Some.ensures.exact) notes)
          ∙ ap (journals_after count before c.args.worker) (sym (text_next texts i text c.loop-text-test.true c.text-item.is))
          ∙ c.loop-text.invariant.left;
      lines = c.note_append.ensures.lines ∙ c.loop-text.invariant.lines;
      low = c.loop-text.invariant.low;
      high = subst (λ (n : ℕ). c.args.worker ≤ n) (sym (kept_length count before after c.args.worker (entries_of_append c.in-Some.append) notes)) c.loop-text.invariant.high;
      same = c.loop-text.invariant.same;
    }

pub returns-clause-read : goal.returns-clause-read
returns-clause-read c =
    let texts = c.args.texts.now in
    let count = length c.args.self.now.attempts.lines.items in
    let now = attempts_in c.loop-text.self.attempts.journals.items in
    sym c.loop-text.invariant.left
    ∙ ap (journals_after count now c.args.worker) (no_text texts c.loop-text.text-index (omega (arith, c.loop-text-test.false)))
    ∙ texts_all count now c.args.worker c.loop-text.invariant.low c.loop-text.invariant.high
