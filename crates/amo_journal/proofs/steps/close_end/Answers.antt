-- `close_end`: the premises of its calls and its promises, by the lemmas of Moments, Whole, Parts,
-- Results and Ending.
use Rattle.std.proofs.Common.{◌∷◌, [], ℕ, ◌≤◌, List, length, refl, ap, arith, length-take}
use Rattle.amo_journal.specs.Device.{AgreesBut, Holds, IsOutside, LeavesOnly}
use Rattle.amo_journal.specs.Texts.{texts_in}
use Rattle.amo_journal.specs.Journal.{AllWhole, IsAtRest, IsWhole, MayRecover}
use Rattle.amo_journal.proofs.Moments.{IsCut, KeepsTexts, joined, leaves_weaker}
use Rattle.amo_journal.proofs.Whole.{cut_whole, close_whole, close_read_whole}
use Rattle.amo_journal.proofs.Parts.{texts_are_one_line}
use Rattle.amo_journal.proofs.Results.{on_err, on_ok_three}
use Rattle.amo_journal.proofs.Ending.{within, cut_keeps, cut_near, cut_off, is_cut_off, cut_some, closed, is_closed, write_some}
use Rattle.amo_journal.proofs.steps.close_end.Goals as goal
use Rattle.amo_journal.proofs.steps.close_end.Goals.{After-cut_and_sync, After-write_and_sync}

first : (g : _) (c : After-cut_and_sync g)
    → KeepsTexts g.D.Device.moment g.D.Device.left_since g.D.Device.seen g.D.Device.may_leave g.D.Device.stale (texts_in (g.D.Device.seen c.args.device.now)) c.args.device.now c.cut_and_sync.new.device
first g c =
    cut_off g.D.Device.moment g.D.Device.left_since g.D.Device.seen g.D.Device.may_leave g.D.Device.stale c.args.device.now c.cut_and_sync.new.device c.args.end c.kept_len.result (cut_near (texts_in (g.D.Device.seen c.args.device.now)) (texts_are_one_line (g.D.Device.seen c.args.device.now)) c.args.end c.requires.end (g.D.Device.seen c.args.device.now) c.kept_len.result c.args.len refl c.requires.len c.kept_len.ensures.near).0
    c.requires.end c.requires.kept c.requires.fresh c.cut_and_sync.ensures.front c.cut_and_sync.ensures.crash c.cut_and_sync.ensures.stale c.cut_and_sync.ensures.any_moment

-- at most one byte follows the blocks
cut : (g : _) (c : After-write_and_sync g) → IsCut g.D.Device.seen g.D.Device.may_leave g.D.Device.stale (texts_in (g.D.Device.seen c.args.device.now)) c.cut_and_sync.new.device
cut g c =
    let at = cut_near (texts_in (g.D.Device.seen c.args.device.now)) (texts_are_one_line (g.D.Device.seen c.args.device.now)) c.args.end c.requires.end (g.D.Device.seen c.args.device.now) c.kept_len.result c.args.len refl c.requires.len c.kept_len.ensures.near in
    is_cut_off g.D.Device.moment g.D.Device.left_since g.D.Device.seen g.D.Device.may_leave g.D.Device.stale c.args.device.now c.cut_and_sync.new.device c.args.end c.kept_len.result at.0 at.1
    c.requires.end c.requires.kept c.requires.fresh c.cut_and_sync.ensures.front c.in_ok-cut_and_sync.ensures.cut c.cut_and_sync.ensures.crash c.in_ok-cut_and_sync.ensures.durable c.in_ok-cut_and_sync.ensures.fresh

second : (g : _) (c : After-write_and_sync g)
    → KeepsTexts g.D.Device.moment g.D.Device.left_since g.D.Device.seen g.D.Device.may_leave g.D.Device.stale (texts_in (g.D.Device.seen c.args.device.now)) c.cut_and_sync.new.device c.write_and_sync.new.device
second g c =
    let seen0 = g.D.Device.seen c.args.device.now in
    closed g.D.Device.moment g.D.Device.left_since g.D.Device.seen g.D.Device.may_leave g.D.Device.stale (texts_in seen0) c.cut_and_sync.new.device c.write_and_sync.new.device c.args.end
    (texts_are_one_line seen0) c.requires.end (cut g c) c.write_and_sync.ensures.front c.write_and_sync.ensures.crash c.write_and_sync.ensures.stale c.write_and_sync.ensures.any_moment

-- the cut leaves a byte
some_left : (g : _) (c : After-cut_and_sync g) → 1 ≤ length (g.D.Device.seen c.args.device.now) → 1 ≤ length (g.D.Device.seen c.cut_and_sync.new.device)
some_left g c some =
    let keeps = c.kept_len.ensures.some (omega (arith, some, c.requires.len)) in
    cut_some c.kept_len.result (g.D.Device.seen c.args.device.now) (g.D.Device.seen c.cut_and_sync.new.device) keeps c.cut_and_sync.ensures.front some

-- and the place of the gate
room : (g : _) (c : After-write_and_sync g) → c.args.end ≤ length (g.D.Device.seen c.cut_and_sync.new.device)
room g c =
    let seen0 = g.D.Device.seen c.args.device.now in
    let inside = within (texts_in seen0) (texts_are_one_line seen0) c.args.end c.requires.end seen0 refl in
    let keeps = (cut_near (texts_in (g.D.Device.seen c.args.device.now)) (texts_are_one_line (g.D.Device.seen c.args.device.now)) c.args.end c.requires.end (g.D.Device.seen c.args.device.now) c.kept_len.result c.args.len refl c.requires.len c.kept_len.ensures.near).0 in
    omega (arith, ap length c.in_ok-cut_and_sync.ensures.cut, length-take c.kept_len.result seen0, inside, keeps)

-- the cut leaves what is read
cut_all : (g : _) (c : After-cut_and_sync g) → AllWhole (g.D.Device.may_leave c.args.device.now)
    → LeavesOnly g.D.Device.moment g.D.Device.left_since c.args.device.now c.cut_and_sync.new.device IsWhole × AllWhole (g.D.Device.may_leave c.cut_and_sync.new.device)
cut_all g c were =
    let texts = texts_in (g.D.Device.seen c.args.device.now) in
    let all = texts_are_one_line (g.D.Device.seen c.args.device.now) in
    let keeps = (cut_near texts all c.args.end c.requires.end (g.D.Device.seen c.args.device.now) c.kept_len.result c.args.len refl c.requires.len c.kept_len.ensures.near).0 in
    let whole = λ (f : List ℕ) (from : _). cut_whole texts all c.args.end c.requires.end c.kept_len.result from.0 f keeps (c.requires.kept from.0 from.1) (were from.0 from.1) from.2 in
    (leaves_weaker g.D.Device.moment g.D.Device.left_since c.args.device.now c.cut_and_sync.new.device _ IsWhole c.cut_and_sync.ensures.any_moment whole, λ f now. whole f (c.cut_and_sync.ensures.crash f now))

-- so does closing the commit byte
close_all : (g : _) (c : After-write_and_sync g) → IsWhole (g.D.Device.seen c.args.device.now) → AllWhole (g.D.Device.may_leave c.cut_and_sync.new.device)
    → LeavesOnly g.D.Device.moment g.D.Device.left_since c.cut_and_sync.new.device c.write_and_sync.new.device IsWhole × AllWhole (g.D.Device.may_leave c.write_and_sync.new.device)
close_all g c read were =
    let seen0 = g.D.Device.seen c.args.device.now in
    let seen1 = g.D.Device.seen c.cut_and_sync.new.device in
    let texts = texts_in seen0 in
    let all = texts_are_one_line seen0 in
    let keeps = (cut_near texts all c.args.end c.requires.end seen0 c.kept_len.result c.args.len refl c.requires.len c.kept_len.ensures.near).0 in
    let is_cut = cut g c in
    let read_cut = cut_whole texts all c.args.end c.requires.end c.kept_len.result seen0 seen1 keeps refl read c.cut_and_sync.ensures.front in
    let read_closed = close_read_whole texts all c.args.end c.requires.end seen1 (g.D.Device.seen c.write_and_sync.new.device) is_cut.read read_cut c.write_and_sync.ensures.front in
    let texts_of = λ (f : List ℕ) (now : g.D.Device.may_leave c.cut_and_sync.new.device f). let from = c.cut_and_sync.ensures.crash f now in
    cut_keeps texts all c.args.end c.requires.end c.kept_len.result from.0 f keeps (c.requires.kept from.0 from.1) from.2 in
    let whole = λ (f : List ℕ) (from : _). close_whole texts all c.args.end c.requires.end (g.D.Device.seen c.write_and_sync.new.device) from.0 f (is_cut.crash from.0 from.1) (were from.0 from.1)
    (texts_of from.0 from.1) read_closed (second g c).read from.2 in
    (leaves_weaker g.D.Device.moment g.D.Device.left_since c.cut_and_sync.new.device c.write_and_sync.new.device _ IsWhole c.write_and_sync.ensures.any_moment whole, λ f now. whole f (c.write_and_sync.ensures.crash f now))

pub returns-in_err-cut_and_sync-clause-whole : goal.returns-in_err-cut_and_sync-clause-whole
returns-in_err-cut_and_sync-clause-whole g c read were = cut_all g (goal.at.returns-in_err-cut_and_sync-clause-whole g c).After-cut_and_sync were

pub returns-clause-whole : goal.returns-clause-whole
returns-clause-whole g c read were =
    let at = goal.at.returns-clause-whole g c in
    let first = cut_all g at.After-cut_and_sync were in
    let second = close_all g at.After-write_and_sync read first.1 in
    (joined g.D.Device.moment g.D.Device.left_since c.args.device.now c.cut_and_sync.new.device c.write_and_sync.new.device IsWhole IsWhole IsWhole first.0 second.0 (λ f is. is) (λ f is. is), second.1)

pub cut_and_sync-requires : goal.cut_and_sync-requires
cut_and_sync-requires g c = omega (arith, c.kept_len.ensures.within, c.requires.len)

pub write_and_sync-requires : goal.write_and_sync-requires
write_and_sync-requires g c =
    let seen0 = g.D.Device.seen c.args.device.now in
    let inside = within (texts_in seen0) (texts_are_one_line seen0) c.args.end c.requires.end seen0 refl in
    let keeps = (cut_near (texts_in (g.D.Device.seen c.args.device.now)) (texts_are_one_line (g.D.Device.seen c.args.device.now)) c.args.end c.requires.end (g.D.Device.seen c.args.device.now) c.kept_len.result c.args.len refl c.requires.len c.kept_len.ensures.near).0 in
    omega (arith, ap length c.in_ok-cut_and_sync.ensures.cut, length-take c.kept_len.result seen0, inside, keeps)

pub returns-in_err-cut_and_sync-clause-same : goal.returns-in_err-cut_and_sync-clause-same
returns-in_err-cut_and_sync-clause-same g c = (first g (goal.at.returns-in_err-cut_and_sync-clause-same g c).After-cut_and_sync).read

pub returns-in_err-cut_and_sync-clause-some : goal.returns-in_err-cut_and_sync-clause-some
returns-in_err-cut_and_sync-clause-some g c = some_left g (goal.at.returns-in_err-cut_and_sync-clause-some g c).After-cut_and_sync

pub returns-in_err-cut_and_sync-clause-any_moment : goal.returns-in_err-cut_and_sync-clause-any_moment
returns-in_err-cut_and_sync-clause-any_moment g c = (first g (goal.at.returns-in_err-cut_and_sync-clause-any_moment g c).After-cut_and_sync).any_moment

pub returns-in_err-cut_and_sync-clause-again : goal.returns-in_err-cut_and_sync-clause-again
returns-in_err-cut_and_sync-clause-again g c =
    on_err c.from_residual.result (MayRecover g.D.Device.seen g.D.Device.may_leave g.D.Device.stale c.cut_and_sync.new.device) (first g (goal.at.returns-in_err-cut_and_sync-clause-again g c).After-cut_and_sync).again

pub returns-clause-same : goal.returns-clause-same
returns-clause-same g c = (second g (goal.at.returns-clause-same g c).After-write_and_sync).read

pub returns-clause-some : goal.returns-clause-some
returns-clause-some g c =
    let at = goal.at.returns-clause-some g c in
    λ some. write_some c.args.end (g.D.Device.seen c.cut_and_sync.new.device) (g.D.Device.seen c.write_and_sync.new.device) (room g at.After-write_and_sync) c.write_and_sync.ensures.front (some_left g at.After-cut_and_sync some)

pub returns-clause-any_moment : goal.returns-clause-any_moment
returns-clause-any_moment g c =
    let at = goal.at.returns-clause-any_moment g c in
    joined g.D.Device.moment g.D.Device.left_since c.args.device.now c.cut_and_sync.new.device c.write_and_sync.new.device _ _ _ (first g at.After-cut_and_sync).any_moment (second g at.After-write_and_sync).any_moment
    (λ f is. is) (λ f is. is)

pub returns-clause-again : goal.returns-clause-again
returns-clause-again g c =
    on_err c.write_and_sync.result (MayRecover g.D.Device.seen g.D.Device.may_leave g.D.Device.stale c.write_and_sync.new.device) (second g (goal.at.returns-clause-again g c).After-write_and_sync).again

pub returns-clause-at_rest : goal.returns-clause-at_rest
returns-clause-at_rest g c =
    let seen0 = g.D.Device.seen c.args.device.now in
    let d1 = c.cut_and_sync.new.device in
    let d2 = c.write_and_sync.new.device in
    let Durable : Type 0 = (f : List ℕ) → g.D.Device.may_leave d2 f → AgreesBut (λ i. g.D.Device.stale d1 i × IsOutside c.args.end 1 i) (g.D.Device.seen d2) f in
    let Fresh : Type 0 = (i : ℕ) → g.D.Device.stale d2 i → g.D.Device.stale d1 i × IsOutside c.args.end 1 i in
    on_ok_three c.write_and_sync.result (Holds (g.D.Device.seen d1) c.args.end (45 ∷ []) (g.D.Device.seen d2)) Durable Fresh (IsAtRest g.D.Device.seen g.D.Device.may_leave g.D.Device.stale d2)
    (is_closed g.D.Device.moment g.D.Device.left_since g.D.Device.seen g.D.Device.may_leave g.D.Device.stale (texts_in seen0) d1 d2 c.args.end (texts_are_one_line seen0) c.requires.end
    (cut g (goal.at.returns-clause-at_rest g c).After-write_and_sync))
    c.write_and_sync.ensures.written c.write_and_sync.ensures.durable c.write_and_sync.ensures.fresh
