-- `append_entries`: the premises of its calls and its promises, by the lemmas of Journaling
-- (amo_journal), AppendTexts, EntryBytes and Puts.
use Rattle.std.proofs.Common.{◌≡◌, ℕ, List, Some, inl, sym, ap, subst, ◌∙◌}
use Rattle.amo_journal.specs.Appends.{records_in}
use Rattle.amo_journal.specs.Device.{LeavesOnly}
use Rattle.amo_journal.specs.Journal.{HasOneMoreOrNot}
use Rattle.amo_journal.specs.Texts.{IsOneLine}
use Rattle.amo_journal.proofs.Journaling.{nothing_done}
use Rattle.amo_run_log.specs.Entries.{append_in, entries_of_append, text_of_append}
use Rattle.amo_run_log.specs.Puts.{entries_of, StandsForMoreOrNot, IsClosedIn}
use Rattle.amo_run_log.proofs.AppendTexts.{append_reads}
use Rattle.amo_run_log.proofs.EntryBytes.{one_line}
use Rattle.amo_run_log.proofs.Puts.{PutsAppend, puts_append, puts_one, leaves, started, law_crash, law_put, on_ok_both}
use Rattle.amo_run_log.proofs.put.append_entries.Goals as goal
use Rattle.amo_run_log.proofs.put.append_entries.Goals.{After-append}

pub append-requires-clause-one_line : goal.append-requires-clause-one_line
append-requires-clause-one_line g c = subst IsOneLine (sym (c.as_bytes.ensures.value ∙ c.in-Ok.ensures.text)) (one_line c.args.append c.print.ensures.fits)

puts : (g : _) (c : After-append g) → PutsAppend g.D.Device.moment g.D.Device.left_since g.D.Device.seen c.args.journal.now.device c.append.new.self.device c.append.result c.args.append
puts g c =
    let reads : append_in c.as_bytes.result.now ≡ Some c.args.append = ap append_in (c.as_bytes.ensures.value ∙ c.in-Ok.ensures.text) ∙ append_reads c.args.append c.print.ensures.fits in
    puts_append g.D.Device.moment g.D.Device.left_since g.D.Device.seen c.args.journal.now.device c.append.new.self.device c.append.result c.args.append
    (puts_one c.args.journal.now.first.digits append_in g.D.Device.moment g.D.Device.left_since g.D.Device.seen c.args.journal.now.device c.append.new.self.device c.append.result c.as_bytes.result.now c.args.append reads
    c.append.ensures.acknowledged c.append.ensures.any_moment c.append.ensures.read)

pub returns-clause-closes : goal.returns-clause-closes
returns-clause-closes g c count findings before after serial line entries has are found =
    on_ok_both c.append.result c.append.ensures.recovered ((puts g (goal.at.returns-clause-closes g c).After-append).acknowledged entries are)
    (λ recovered more file left. law_put count findings line before after serial entries (entries_of_append c.args.append) has found file
    (ap entries_of (recovered.file.durable file left) ∙ more))

pub returns-clause-keeps_closed : goal.returns-clause-keeps_closed
returns-clause-keeps_closed g c count findings before after serial line entries are has opens found =
    leaves g.D.Device.moment g.D.Device.left_since c.args.journal.now.device c.append.new.self.device (StandsForMoreOrNot entries (entries_of_append c.args.append)) (IsClosedIn count findings before after line)
    ((puts g (goal.at.returns-clause-keeps_closed g c).After-append).any_moment entries are) (law_crash count findings line before after serial entries (entries_of_append c.args.append) has opens found)

-- if the text could not be made, the file is as it was
pub returns-in_default-clause-keeps_closed : goal.returns-in_default-clause-keeps_closed
returns-in_default-clause-keeps_closed g c count findings before after serial line entries are has opens found =
    started g.D.Device.moment g.D.Device.left_since c.args.journal.now.device (IsClosedIn count findings before after line)
    (λ file left. law_crash count findings line before after serial entries (entries_of_append c.args.append) has opens found file
    (inl (ap entries_of (c.requires.file.durable file (g.met.D.Device.only_now c.args.journal.now.device file left)) ∙ are)))

pub returns-clause-acknowledged : goal.returns-clause-acknowledged
returns-clause-acknowledged g c = (puts g (goal.at.returns-clause-acknowledged g c).After-append).acknowledged

pub returns-clause-any_moment : goal.returns-clause-any_moment
returns-clause-any_moment g c = (puts g (goal.at.returns-clause-any_moment g c).After-append).any_moment

pub returns-clause-read : goal.returns-clause-read
returns-clause-read g c = (puts g (goal.at.returns-clause-read g c).After-append).read

-- each file that is left is read
pub returns-clause-log : goal.returns-clause-log
returns-clause-log g c =
    let first = c.args.journal.now.first.digits in
    let all = records_in (g.D.Device.seen c.args.journal.now.device) in
    subst (λ (r : List ℕ). LeavesOnly g.D.Device.moment g.D.Device.left_since c.args.journal.now.device c.append.new.self.device (HasOneMoreOrNot first all r))
    (c.as_bytes.ensures.value ∙ c.in-Ok.ensures.text) c.append.ensures.any_moment

pub returns-in_default-clause-log : goal.returns-in_default-clause-log
returns-in_default-clause-log g c =
    nothing_done g.D.Device.moment g.D.Device.left_since g.D.Device.seen g.D.Device.may_leave g.D.Device.stale c.args.journal.now c.requires (text_of_append c.args.append) (g.met.D.Device.only_now c.args.journal.now.device)
