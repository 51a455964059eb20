-- `AttemptsByLine::note_append`: its promises, by the lemmas of ByLine, LogReadings and OpenLines.
use Rattle.std.proofs.Common.{ℕ, length, sym, subst}
use Rattle.amo_run_log.specs.declared.append.Append.{Append}
use Rattle.amo_run_log.specs.ByLine.{NotesIn}
use Rattle.amo_run_log.specs.Entries.{entries_of_append}
use Rattle.amo_run_log.specs.ReadLogs.{NotesEntries}
use Rattle.amo_run_log.proofs.ByLine.{attempts_in}
use Rattle.amo_run_log.proofs.LogReadings.{notes_two}
use Rattle.amo_run_log.proofs.OpenLines.{in_ok}
use Rattle.amo_run_log.proofs.attempts_by_line.AttemptsByLine.note_append.Goals as goal

pub returns-then-branch-clause-noted : goal.returns-then-branch-clause-noted
returns-then-branch-clause-noted c = in_ok c.note-then-branch.result c.note-then-branch.ensures.noted (λ done notes.
    let old = c.args.self.now in
    let mid = c.note-in-Two.new.self in
    let new = c.note-then-branch.new.self in
    subst (λ (a : Append). NotesEntries (length old.lines.items) done (attempts_in old.journals.items) c.args.worker (entries_of_append a) (attempts_in new.journals.items)) (sym c.in-Two.is)
    (notes_two (length old.lines.items) done (attempts_in old.journals.items) (attempts_in mid.journals.items) (attempts_in new.journals.items) c.args.worker c.in-Two.first c.in-Two.second
    (subst (λ b. NotesIn (length old.lines.items) b (attempts_in old.journals.items) c.args.worker c.in-Two.first (attempts_in mid.journals.items)) c.if-branch.true c.in_ok-note-in-Two.ensures.noted)
    (subst (λ (count : ℕ). NotesIn count done (attempts_in mid.journals.items) c.args.worker c.in-Two.second (attempts_in new.journals.items)) c.note-in-Two.ensures.lines notes)))
