-- `AttemptsByLine::note`: what its type keeps and its promises, by the lemmas of ByLine and
-- OpenLines.
use Rattle.std.proofs.Common.{◌≡◌, ◌-◌, ℕ, length, set, subst, arith}
use Rattle.amo_run_log.specs.ByLine.{NotesIn}
use Rattle.amo_run_log.proofs.ByLine.{attempts_in, index_of_note, notes_in, on_err, same_journals}
use Rattle.amo_run_log.proofs.OpenLines.{in_ok}
use Rattle.amo_run_log.proofs.attempts_by_line.AttemptsByLine.note.Goals as goal

pub invariant_of-self : goal.invariant_of-self
invariant_of-self c = record { indexed = λ line worker serial e a. c.list.ensures.stays line worker serial (c.args.self.now.indexed line worker serial e a) }

pub invariant_of-self-2 : goal.invariant_of-self-2
invariant_of-self-2 c = record {
  indexed = index_of_note c.list.new.lines.items c.args.self.now.journals.items c.len-count.result c.args.worker c.args.entry c.index_mut.result.now c.note.new.attempts c.note.result
      (λ line worker serial e a. c.list.ensures.stays line worker serial (c.args.self.now.indexed line worker serial e a)) c.in_ok-list.ensures.listed
      (omega arith) (omega arith) (omega arith) c.index_mut.ensures.value c.note.ensures.noted c.note.ensures.refused;
}

pub returns-clause-noted : goal.returns-clause-noted
returns-clause-noted c = in_ok c.note.result c.note.ensures.noted (λ done notes.
    let many : c.len-count.result ≡ length c.args.self.now.lines.items = omega arith in
    subst (λ (count : ℕ). NotesIn count done (attempts_in c.args.self.now.journals.items) c.args.worker c.args.entry (attempts_in (set c.args.self.now.journals.items (c.args.worker - 1) c.note.new.attempts))) many
    (notes_in c.len-count.result c.args.worker c.args.entry c.args.self.now.journals.items c.index_mut.result.now c.note.new.attempts done (omega arith) (omega arith) c.index_mut.ensures.value notes))

pub returns-clause-refused : goal.returns-clause-refused
returns-clause-refused c = on_err c.note.result c.note.ensures.refused (λ same. same_journals c.args.self.now.journals.items (c.args.worker - 1) c.index_mut.result.now c.note.new.attempts c.index_mut.ensures.value same)
