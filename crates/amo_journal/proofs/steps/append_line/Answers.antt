-- `append_line`: its promises, by the lemmas of Moments, Parts, Putting, Results and Whole.
use Rattle.std.proofs.Common.{◌≡◌, ◌⊎◌, ◌+◌, ◌++◌, [], ◌∷◌, List, ℕ, length, take, inl, ◌∙◌, ap, subst}
use Rattle.std.specs.Prelude.{OnOk}
use Rattle.amo_journal.specs.Device.{LeavesOnly, TornFrom, WritesFront}
use Rattle.amo_journal.specs.Texts.{at_rest, texts_in}
use Rattle.amo_journal.specs.Journal.{IsAtRest, IsBeforeOrAfter, IsWhole, MayRecover}
use Rattle.amo_journal.proofs.Moments.{IsOnDisk, KeepsTexts, joined, leaves_weaker}
use Rattle.amo_journal.proofs.Parts.{texts_are_one_line}
use Rattle.amo_journal.proofs.Putting.{IsTried, behind, staged, begun, is_staged, tried, is_put, read_rest, gate_read}
use Rattle.amo_journal.proofs.Results.{on_err, on_ok_map, on_ok_three}
use Rattle.amo_journal.proofs.Whole.{gate_crash_whole, gate_read_whole, stage_crash_whole, stage_read_whole}
use Rattle.amo_journal.proofs.steps.append_line.Goals as goal
use Rattle.amo_journal.proofs.steps.append_line.Goals.{After-write_and_sync, After-write_and_sync-2}

first : (g : _) (c : After-write_and_sync g) → KeepsTexts g.D.Device.moment g.D.Device.left_since g.D.Device.seen g.D.Device.may_leave g.D.Device.stale (texts_in (g.D.Device.seen c.args.device.now)) c.args.device.now c.write_and_sync.new.device
first g c =
    begun g.D.Device.moment g.D.Device.left_since g.D.Device.seen g.D.Device.may_leave g.D.Device.stale c.args.device.now c.write_and_sync.new.device c.args.gate c.deref.result.now
    c.requires.at_rest c.requires.gate c.write_and_sync.ensures.front c.write_and_sync.ensures.crash c.write_and_sync.ensures.stale c.write_and_sync.ensures.any_moment

behind_gate : (g : _) (c : After-write_and_sync-2 g) → IsOnDisk g.D.Device.seen g.D.Device.may_leave g.D.Device.stale (staged (texts_in (g.D.Device.seen c.args.device.now)) c.args.line.now) c.write_and_sync.new.device
behind_gate g c =
    is_staged g.D.Device.moment g.D.Device.left_since g.D.Device.seen g.D.Device.may_leave g.D.Device.stale c.args.device.now c.write_and_sync.new.device c.args.gate c.args.line.now c.deref.result.now
    c.requires.at_rest c.requires.gate (c.deref.ensures.value ∙ c.in_ok-behind.ensures.bytes) c.in_ok-write_and_sync.ensures.written c.in_ok-write_and_sync.ensures.durable c.in_ok-write_and_sync.ensures.fresh

second : (g : _) (c : After-write_and_sync-2 g)
    → IsTried g.D.Device.moment g.D.Device.left_since g.D.Device.seen g.D.Device.may_leave g.D.Device.stale (texts_in (g.D.Device.seen c.args.device.now)) c.args.line.now c.write_and_sync.new.device c.write_and_sync-2.new.device
second g c =
    let seen0 = g.D.Device.seen c.args.device.now in
    tried g.D.Device.moment g.D.Device.left_since g.D.Device.seen g.D.Device.may_leave g.D.Device.stale (texts_in seen0) c.args.line.now c.write_and_sync.new.device c.write_and_sync-2.new.device c.args.gate
    (texts_are_one_line seen0) c.requires.one_line c.requires.gate (behind_gate g c) c.write_and_sync-2.ensures.front c.write_and_sync-2.ensures.crash c.write_and_sync-2.ensures.stale c.write_and_sync-2.ensures.any_moment

pub returns-in_err-write_and_sync-clause-any_moment : goal.returns-in_err-write_and_sync-clause-any_moment
returns-in_err-write_and_sync-clause-any_moment g c =
    let w = (goal.at.returns-in_err-write_and_sync-clause-any_moment g c).After-write_and_sync in
    leaves_weaker g.D.Device.moment g.D.Device.left_since w.args.device.now w.write_and_sync.new.device _ (IsBeforeOrAfter (texts_in (g.D.Device.seen w.args.device.now)) w.args.line.now) (first g w).any_moment (λ f is. inl is)

pub returns-in_err-write_and_sync-clause-read : goal.returns-in_err-write_and_sync-clause-read
returns-in_err-write_and_sync-clause-read g c = inl (first g (goal.at.returns-in_err-write_and_sync-clause-read g c).After-write_and_sync).read

pub returns-in_err-write_and_sync-clause-again : goal.returns-in_err-write_and_sync-clause-again
returns-in_err-write_and_sync-clause-again g c =
    on_err c.from_residual-in_err-write_and_sync.result (MayRecover g.D.Device.seen g.D.Device.may_leave g.D.Device.stale c.write_and_sync.new.device)
    (first g (goal.at.returns-in_err-write_and_sync-clause-again g c).After-write_and_sync).again

pub returns-clause-any_moment : goal.returns-clause-any_moment
returns-clause-any_moment g c =
    let at = goal.at.returns-clause-any_moment g c in
    joined g.D.Device.moment g.D.Device.left_since c.args.device.now c.write_and_sync.new.device c.write_and_sync-2.new.device _ _ (IsBeforeOrAfter (texts_in (g.D.Device.seen c.args.device.now)) c.args.line.now)
    (first g at.After-write_and_sync).any_moment (second g at.After-write_and_sync-2).any_moment (λ f is. inl is) (λ f is. is)

pub returns-clause-read : goal.returns-clause-read
returns-clause-read g c = (second g (goal.at.returns-clause-read g c).After-write_and_sync-2).read

pub returns-clause-again : goal.returns-clause-again
returns-clause-again g c =
    on_err c.write_and_sync-2.result (MayRecover g.D.Device.seen g.D.Device.may_leave g.D.Device.stale c.write_and_sync-2.new.device)
    (second g (goal.at.returns-clause-again g c).After-write_and_sync-2).again

-- what the first write leaves is read
bytes_are : (g : _) (c : After-write_and_sync g) → c.deref.result.now ≡ behind c.args.line.now
bytes_are g c = c.deref.ensures.value ∙ c.in_ok-behind.ensures.bytes

front_of : (g : _) (c : After-write_and_sync g) → WritesFront (at_rest (texts_in (g.D.Device.seen c.args.device.now))) (c.args.gate + 1) (behind c.args.line.now) (g.D.Device.seen c.write_and_sync.new.device)
front_of g c =
    let seen1 = g.D.Device.seen c.write_and_sync.new.device in
    subst (λ (bs : List ℕ). WritesFront (at_rest (texts_in (g.D.Device.seen c.args.device.now))) (c.args.gate + 1) bs seen1) (bytes_are g c)
    (subst (λ (f : List ℕ). WritesFront f (c.args.gate + 1) c.deref.result.now seen1) c.requires.at_rest.file c.write_and_sync.ensures.front)

read_first : (g : _) (c : After-write_and_sync g) → g.D.Device.seen c.write_and_sync.new.device ≡ at_rest (texts_in (g.D.Device.seen c.args.device.now)) ++ take (front_of g c).count (behind c.args.line.now)
read_first g c =
    let seen0 = g.D.Device.seen c.args.device.now in
    read_rest (texts_in seen0) (texts_are_one_line seen0) c.args.gate c.requires.gate (behind c.args.line.now) (g.D.Device.seen c.write_and_sync.new.device) (front_of g c)

torn_first : (g : _) (c : After-write_and_sync g) (f : List ℕ) → TornFrom (c.args.gate + 1) (length c.deref.result.now) (g.D.Device.seen c.write_and_sync.new.device) (g.D.Device.may_leave c.args.device.now) f → IsWhole f
torn_first g c f from =
    let seen0 = g.D.Device.seen c.args.device.now in
    stage_crash_whole (texts_in seen0) (texts_are_one_line seen0) c.args.gate c.requires.gate c.args.line.now c.requires.one_line c.requires.short (front_of g c).count (length c.deref.result.now)
    (g.D.Device.seen c.write_and_sync.new.device) from.0 f (ap length (bytes_are g c)) (c.requires.at_rest.durable from.0 from.1 ∙ c.requires.at_rest.file) (read_first g c) from.2

whole_first : (g : _) (c : After-write_and_sync g) → LeavesOnly g.D.Device.moment g.D.Device.left_since c.args.device.now c.write_and_sync.new.device IsWhole
whole_first g c = leaves_weaker g.D.Device.moment g.D.Device.left_since c.args.device.now c.write_and_sync.new.device _ IsWhole c.write_and_sync.ensures.any_moment (torn_first g c)

pub returns-in_err-write_and_sync-clause-whole : goal.returns-in_err-write_and_sync-clause-whole
returns-in_err-write_and_sync-clause-whole g c = whole_first g (goal.at.returns-in_err-write_and_sync-clause-whole g c).After-write_and_sync

pub returns-in_err-write_and_sync-clause-whole_after : goal.returns-in_err-write_and_sync-clause-whole_after
returns-in_err-write_and_sync-clause-whole_after g c f now =
    torn_first g (goal.at.returns-in_err-write_and_sync-clause-whole_after g c).After-write_and_sync f (c.write_and_sync.ensures.crash f now)

pub returns-in_err-write_and_sync-clause-whole_read : goal.returns-in_err-write_and_sync-clause-whole_read
returns-in_err-write_and_sync-clause-whole_read g c =
    let seen0 = g.D.Device.seen c.args.device.now in
    let w = (goal.at.returns-in_err-write_and_sync-clause-whole_read g c).After-write_and_sync in
    stage_read_whole (texts_in seen0) (texts_are_one_line seen0) c.args.gate c.requires.gate c.args.line.now c.requires.one_line c.requires.short (front_of g w).count (g.D.Device.seen c.write_and_sync.new.device) (read_first g w)

-- so is what the second leaves
read_second : (g : _) (c : After-write_and_sync-2 g)
    → (g.D.Device.seen c.write_and_sync-2.new.device ≡ staged (texts_in (g.D.Device.seen c.args.device.now)) c.args.line.now)
    ⊎ (g.D.Device.seen c.write_and_sync-2.new.device ≡ at_rest (texts_in (g.D.Device.seen c.args.device.now) ++ c.args.line.now ∷ []))
read_second g c =
    let seen0 = g.D.Device.seen c.args.device.now in
    let seen2 = g.D.Device.seen c.write_and_sync-2.new.device in
    gate_read (texts_in seen0) (texts_are_one_line seen0) c.args.gate c.requires.gate c.args.line.now seen2
    (subst (λ (f : List ℕ). WritesFront f c.args.gate (43 ∷ []) seen2) (behind_gate g c).file_is c.write_and_sync-2.ensures.front)

torn_second : (g : _) (c : After-write_and_sync-2 g) (f : List ℕ) → TornFrom c.args.gate 1 (g.D.Device.seen c.write_and_sync-2.new.device) (g.D.Device.may_leave c.write_and_sync.new.device) f → IsWhole f
torn_second g c f from =
    let seen0 = g.D.Device.seen c.args.device.now in
    gate_crash_whole (texts_in seen0) (texts_are_one_line seen0) c.args.gate c.requires.gate c.args.line.now c.requires.one_line c.requires.short
    (g.D.Device.seen c.write_and_sync-2.new.device) from.0 f ((behind_gate g c).durable from.0 from.1) (read_second g c) from.2

pub returns-clause-whole : goal.returns-clause-whole
returns-clause-whole g c =
    let at = goal.at.returns-clause-whole g c in
    let second = leaves_weaker g.D.Device.moment g.D.Device.left_since c.write_and_sync.new.device c.write_and_sync-2.new.device _ IsWhole c.write_and_sync-2.ensures.any_moment (torn_second g at.After-write_and_sync-2) in
    joined g.D.Device.moment g.D.Device.left_since c.args.device.now c.write_and_sync.new.device c.write_and_sync-2.new.device IsWhole IsWhole IsWhole (whole_first g at.After-write_and_sync) second (λ f is. is) (λ f is. is)

pub returns-clause-whole_after : goal.returns-clause-whole_after
returns-clause-whole_after g c f now = torn_second g (goal.at.returns-clause-whole_after g c).After-write_and_sync-2 f (c.write_and_sync-2.ensures.crash f now)

pub returns-clause-whole_read : goal.returns-clause-whole_read
returns-clause-whole_read g c =
    let seen0 = g.D.Device.seen c.args.device.now in
    gate_read_whole (texts_in seen0) (texts_are_one_line seen0) c.args.gate c.requires.gate c.args.line.now c.requires.one_line c.requires.short
    (g.D.Device.seen c.write_and_sync-2.new.device) (read_second g (goal.at.returns-clause-whole_read g c).After-write_and_sync-2)

-- the line is there
done : (g : _) (c : After-write_and_sync-2 g)
    → OnOk c.write_and_sync-2.result (IsAtRest g.D.Device.seen g.D.Device.may_leave g.D.Device.stale c.write_and_sync-2.new.device
    × (texts_in (g.D.Device.seen c.write_and_sync-2.new.device) ≡ texts_in (g.D.Device.seen c.args.device.now) ++ c.args.line.now ∷ []))
done g c =
    let seen0 = g.D.Device.seen c.args.device.now in
    on_ok_three c.write_and_sync-2.result _ _ _ _
    (is_put g.D.Device.moment g.D.Device.left_since g.D.Device.seen g.D.Device.may_leave g.D.Device.stale (texts_in seen0) c.args.line.now c.write_and_sync.new.device c.write_and_sync-2.new.device c.args.gate
    (texts_are_one_line seen0) c.requires.one_line c.requires.gate (behind_gate g c))
    c.write_and_sync-2.ensures.written c.write_and_sync-2.ensures.durable c.write_and_sync-2.ensures.fresh

pub returns-clause-at_rest : goal.returns-clause-at_rest
returns-clause-at_rest g c = on_ok_map c.write_and_sync-2.result _ _ (λ both. both.0) (done g (goal.at.returns-clause-at_rest g c).After-write_and_sync-2)

pub returns-clause-acknowledged : goal.returns-clause-acknowledged
returns-clause-acknowledged g c = on_ok_map c.write_and_sync-2.result _ _ (λ both. both.1) (done g (goal.at.returns-clause-acknowledged g c).After-write_and_sync-2)
