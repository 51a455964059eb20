-- `append_finding`: the premises of its calls and its promises, by the lemmas of Journaling
-- (amo_journal), FindingTexts and Puts.
use Rattle.std.proofs.Common.{◌≡◌, ℕ, List, Some, sym, ap, subst, ◌∙◌}
use Rattle.amo_journal.specs.Appends.{records_in}
use Rattle.amo_journal.specs.Device.{LeavesOnly}
use Rattle.amo_journal.specs.Journal.{HasOneMoreOrNot}
use Rattle.amo_journal.specs.Texts.{IsOneLine}
use Rattle.amo_journal.proofs.Journaling.{nothing_done}
use Rattle.amo_run_log.specs.Findings.{finding_in, text_of_finding}
use Rattle.amo_run_log.proofs.FindingTexts.{finding_reads}
use Rattle.amo_run_log.proofs.Puts.{PutsOne, one_line_of_finding, puts_one}
use Rattle.amo_run_log.proofs.put.append_finding.Goals as goal
use Rattle.amo_run_log.proofs.put.append_finding.Goals.{After-append}

pub append-requires-clause-one_line : goal.append-requires-clause-one_line
append-requires-clause-one_line g c = subst IsOneLine (sym (c.as_bytes.ensures.value ∙ c.in-Ok.ensures.text)) (one_line_of_finding c.args.finding c.print.ensures.fits)

one : (g : _) (c : After-append g) → PutsOne finding_in g.D.Device.moment g.D.Device.left_since g.D.Device.seen c.args.journal.now.device c.append.new.self.device c.append.result c.args.finding
one g c =
    let reads : finding_in c.as_bytes.result.now ≡ Some c.args.finding = ap finding_in (c.as_bytes.ensures.value ∙ c.in-Ok.ensures.text) ∙ finding_reads c.args.finding c.print.ensures.fits in
    puts_one c.args.journal.now.first.digits finding_in g.D.Device.moment g.D.Device.left_since g.D.Device.seen c.args.journal.now.device c.append.new.self.device c.append.result c.as_bytes.result.now c.args.finding reads
    c.append.ensures.acknowledged c.append.ensures.any_moment c.append.ensures.read

pub returns-clause-acknowledged : goal.returns-clause-acknowledged
returns-clause-acknowledged g c = (one g (goal.at.returns-clause-acknowledged g c).After-append).acknowledged

pub returns-clause-any_moment : goal.returns-clause-any_moment
returns-clause-any_moment g c = (one g (goal.at.returns-clause-any_moment g c).After-append).any_moment

pub returns-clause-read : goal.returns-clause-read
returns-clause-read g c = (one g (goal.at.returns-clause-read g c).After-append).read

-- each file that is left is read
pub returns-clause-log : goal.returns-clause-log
returns-clause-log g c =
    let first = c.args.journal.now.first.digits in
    let all = records_in (g.D.Device.seen c.args.journal.now.device) in
    subst (λ (r : List ℕ). LeavesOnly g.D.Device.moment g.D.Device.left_since c.args.journal.now.device c.append.new.self.device (HasOneMoreOrNot first all r))
    (c.as_bytes.ensures.value ∙ c.in-Ok.ensures.text) c.append.ensures.any_moment

pub returns-in_default-clause-log : goal.returns-in_default-clause-log
returns-in_default-clause-log g c =
    nothing_done g.D.Device.moment g.D.Device.left_since g.D.Device.seen g.D.Device.may_leave g.D.Device.stale c.args.journal.now c.requires (text_of_finding c.args.finding) (g.met.D.Device.only_now c.args.journal.now.device)
