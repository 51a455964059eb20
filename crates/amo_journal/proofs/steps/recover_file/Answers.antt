-- `recover_file`: the premises of its calls and its promises, by the lemmas of Logs, Moments,
-- Opening and Results.
use Rattle.std.proofs.Common.{◌≡◌, ℕ, List, Option, Some, None, length, inl, sym, ◌∙◌, ap, subst}
use Rattle.std.specs.Prelude.{IfSome}
use Rattle.amo_journal.specs.Appends.{IsLog, lines_from}
use Rattle.amo_journal.specs.Device.{LeavesOnly}
use Rattle.amo_journal.specs.Logs.{records_of}
use Rattle.amo_journal.specs.Texts.{texts_in, blocks}
use Rattle.amo_journal.specs.Journal.{AllWhole, HasLast, IsWhole, MayRecover, StaysNear}
use Rattle.amo_journal.proofs.Logs.{appends_blocks, has_last, log_texts, log_whole}
use Rattle.amo_journal.proofs.Moments.{started, goes_on, joined}
use Rattle.amo_journal.proofs.Opening.{near_stays, stays_more}
use Rattle.amo_journal.proofs.Results.{on_err}
use Rattle.amo_journal.proofs.steps.recover_file.Goals as goal
use Rattle.amo_journal.proofs.steps.recover_file.Goals.{After-close_end, After-last_line, After-open_again}

-- up to the gate that is written again
opened : (g : _) (c : After-open_again g)
    → LeavesOnly g.D.Device.moment g.D.Device.left_since c.args.device.now c.open_again.new.device (StaysNear (g.D.Device.may_leave c.args.device.now) (texts_in (g.D.Device.seen c.args.device.now)))
opened g c =
    let d0 = c.args.device.now in
    let d1 = c.read.new.self in
    let may0 = g.D.Device.may_leave d0 in
    let may1 = g.D.Device.may_leave d1 in
    let texts = texts_in (g.D.Device.seen d0) in
    let P = StaysNear may0 texts in
    let here = λ (f : List ℕ) (now : may0 f). near_stays texts may0 f (c.requires.near f now) now in
    let at_start = started g.D.Device.moment g.D.Device.left_since d0 P (λ f left. here f (g.met.D.Device.only_now d0 f left)) in
    let read = goes_on g.D.Device.moment g.D.Device.left_since d0 d0 d1 P may1 at_start c.read.ensures.time (λ f now. here f (c.read.ensures.crash f now)) in
    let wider = λ (f : List ℕ) (stays : StaysNear may1 (texts_in (g.D.Device.seen d1)) f). stays_more texts may1 may0 f c.read.ensures.crash
    (subst (λ (ts : List (List ℕ)). StaysNear may1 ts f) (ap texts_in c.read.ensures.seen) stays) in
    joined g.D.Device.moment g.D.Device.left_since d0 d1 c.open_again.new.device P _ P read c.open_again.ensures.any_moment (λ f is. is) wider

-- to the end
ended : (g : _) (c : After-close_end g)
    → LeavesOnly g.D.Device.moment g.D.Device.left_since c.args.device.now c.open_again.new.device (StaysNear (g.D.Device.may_leave c.args.device.now) (texts_in (g.D.Device.seen c.args.device.now)))
    → LeavesOnly g.D.Device.moment g.D.Device.left_since c.args.device.now c.close_end.new.device (StaysNear (g.D.Device.may_leave c.args.device.now) (texts_in (g.D.Device.seen c.args.device.now)))
ended g c so_far =
    let same = ap texts_in c.open_again.ensures.seen ∙ ap texts_in c.read.ensures.seen in
    joined g.D.Device.moment g.D.Device.left_since c.args.device.now c.open_again.new.device c.close_end.new.device _ _ _ so_far c.close_end.ensures.any_moment (λ f is. is) (λ f is. inl (is ∙ same))

pub returns-in_err-open_again-clause-any_moment : goal.returns-in_err-open_again-clause-any_moment
returns-in_err-open_again-clause-any_moment g c = opened g (goal.at.returns-in_err-open_again-clause-any_moment g c).After-open_again

pub returns-in_err-close_end-clause-any_moment : goal.returns-in_err-close_end-clause-any_moment
returns-in_err-close_end-clause-any_moment g c = let at = goal.at.returns-in_err-close_end-clause-any_moment g c in ended g at.After-close_end (opened g at.After-open_again)

pub returns-clause-any_moment : goal.returns-clause-any_moment
returns-clause-any_moment g c = let at = goal.at.returns-clause-any_moment g c in ended g at.After-close_end (opened g at.After-open_again)

-- what was read is the log
the_log : (g : _) (c : After-last_line g) → IsLog c.args.first.now.digits (records_of c.in_ok-log.log.records.items) (g.D.Device.seen c.args.device.now)
the_log g c = subst (IsLog c.args.first.now.digits (records_of c.in_ok-log.log.records.items)) (c.deref.ensures.value ∙ c.in_ok-bytes.ensures.bytes) c.in_ok-log.ensures.exact

lines_are : (g : _) (c : After-last_line g) → texts_in (g.D.Device.seen c.args.device.now) ≡ lines_from c.args.first.now.digits (records_of c.in_ok-log.log.records.items)
lines_are g c = log_texts c.args.first.now.digits (records_of c.in_ok-log.log.records.items) (g.D.Device.seen c.args.device.now) (the_log g c)

end_is : (g : _) (c : After-last_line g) → c.in_ok-log.log.end ≡ length (blocks (texts_in (g.D.Device.seen c.args.device.now)))
end_is g c =
    c.in_ok-log.ensures.end ∙ ap length (appends_blocks c.args.first.now.digits (records_of c.in_ok-log.log.records.items)) ∙ ap (λ (ts : List (List ℕ)). length (blocks ts)) (sym (lines_are g c))

if_some_map : (r : Option ℕ) (P Q : ℕ → Type 0) → ((n : ℕ) → P n → Q n) → IfSome r P → IfSome r Q
if_some_map None P Q f so = tt
if_some_map (Some n) P Q f so = f n so

pub open_again-requires-clause-last : goal.open_again-requires-clause-last
open_again-requires-clause-last g c =
    let first = c.args.first.now.digits in
    let all = records_of c.in_ok-log.log.records.items in
    let texts = ap texts_in c.read.ensures.seen ∙ lines_are g c in
    if_some_map c.last_line.result _ _ (λ n has. subst (HasLast n) (sym texts) (has_last first all has.0 has.1 n has.2 has.3)) c.last_line.ensures.some

pub open_again-requires-clause-end : goal.open_again-requires-clause-end
open_again-requires-clause-end g c = end_is g c ∙ ap (λ (f : List ℕ). length (blocks (texts_in f))) (sym c.read.ensures.seen)

-- each crash so far leaves a file that is read
were_whole : (g : _) (c : After-open_again g) → AllWhole (g.D.Device.may_leave c.args.device.now) → AllWhole (g.D.Device.may_leave c.read.new.self)
were_whole g c were = λ f now. were f (c.read.ensures.crash f now)

opened_whole : (g : _) (c : After-open_again g) → AllWhole (g.D.Device.may_leave c.args.device.now) → LeavesOnly g.D.Device.moment g.D.Device.left_since c.args.device.now c.open_again.new.device IsWhole
opened_whole g c were =
    let d0 = c.args.device.now in
    let d1 = c.read.new.self in
    let at_start = started g.D.Device.moment g.D.Device.left_since d0 IsWhole (λ f left. were f (g.met.D.Device.only_now d0 f left)) in
    let read = goes_on g.D.Device.moment g.D.Device.left_since d0 d0 d1 IsWhole (g.D.Device.may_leave d1) at_start c.read.ensures.time (were_whole g c were) in
    joined g.D.Device.moment g.D.Device.left_since d0 d1 c.open_again.new.device IsWhole IsWhole IsWhole read (c.open_again.ensures.whole (were_whole g c were)).0 (λ f is. is) (λ f is. is)

pub returns-in_err-open_again-clause-whole : goal.returns-in_err-open_again-clause-whole
returns-in_err-open_again-clause-whole g c were =
    let opened = (goal.at.returns-in_err-open_again-clause-whole g c).After-open_again in
    (opened_whole g opened were, (opened.open_again.ensures.whole (were_whole g opened were)).1)

same_seen : (g : _) (c : After-open_again g) → g.D.Device.seen c.open_again.new.device ≡ g.D.Device.seen c.args.device.now
same_seen g c = c.open_again.ensures.seen ∙ c.read.ensures.seen

pub close_end-requires-clause-end : goal.close_end-requires-clause-end
close_end-requires-clause-end g c =
    let at = goal.at.close_end-requires-clause-end g c in
    end_is g at.After-last_line ∙ ap (λ (f : List ℕ). length (blocks (texts_in f))) (sym (same_seen g at.After-open_again))

-- and so do those of the last step
ends_whole : (g : _) (c : After-close_end g) → LeavesOnly g.D.Device.moment g.D.Device.left_since c.args.device.now c.open_again.new.device IsWhole
    → IsWhole (g.D.Device.seen c.open_again.new.device) → AllWhole (g.D.Device.may_leave c.open_again.new.device)
    → LeavesOnly g.D.Device.moment g.D.Device.left_since c.args.device.now c.close_end.new.device IsWhole × AllWhole (g.D.Device.may_leave c.close_end.new.device)
ends_whole g c so_far read were =
    let last = c.close_end.ensures.whole read were in
    (joined g.D.Device.moment g.D.Device.left_since c.args.device.now c.open_again.new.device c.close_end.new.device IsWhole IsWhole IsWhole so_far last.0 (λ f is. is) (λ f is. is), last.1)

read_whole : (g : _) (c : After-last_line g) (opened : After-open_again g) → g.D.Device.seen opened.open_again.new.device ≡ g.D.Device.seen c.args.device.now → IsWhole (g.D.Device.seen opened.open_again.new.device)
read_whole g c opened same = subst IsWhole (sym same) (log_whole c.args.first.now.digits (records_of c.in_ok-log.log.records.items) (g.D.Device.seen c.args.device.now) (the_log g c))

pub returns-in_err-close_end-clause-again : goal.returns-in_err-close_end-clause-again
returns-in_err-close_end-clause-again g c =
    on_err c.from_residual-in_err-close_end.result (MayRecover g.D.Device.seen g.D.Device.may_leave g.D.Device.stale c.close_end.new.device) c.in_err-close_end.ensures.again

pub returns-in_err-close_end-clause-whole : goal.returns-in_err-close_end-clause-whole
returns-in_err-close_end-clause-whole g c were =
    let at = goal.at.returns-in_err-close_end-clause-whole g c in
    let opened = at.After-open_again in
    ends_whole g at.After-close_end (opened_whole g opened were) (read_whole g at.After-last_line opened (same_seen g opened)) (opened.open_again.ensures.whole (were_whole g opened were)).1

pub returns-clause-end : goal.returns-clause-end
returns-clause-end g c = end_is g (goal.at.returns-clause-end g c).After-last_line

pub returns-clause-whole : goal.returns-clause-whole
returns-clause-whole g c were =
    let at = goal.at.returns-clause-whole g c in
    let opened = at.After-open_again in
    ends_whole g at.After-close_end (opened_whole g opened were) (read_whole g at.After-last_line opened (same_seen g opened)) (opened.open_again.ensures.whole (were_whole g opened were)).1
