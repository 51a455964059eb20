-- `Journal::append`: the premises of its calls and its promises, by the lemmas of Blocks, Chains,
-- Journaling and Logs.
use Rattle.std.proofs.Common.{◌≡◌, ◌++◌, [], ◌∷◌, ℕ, List, length, inl, sym, ◌∙◌, ap, subst, arith, rules}
use Rattle.amo_journal.specs.Appends.{checksum_after, line_of, lines_from, next_checksum, records_in}
use Rattle.amo_journal.specs.Texts.{AreOneLine, IsOneLine, texts_in, blocks}
use Rattle.amo_journal.proofs.Blocks.{all_push, length-blocks_push}
use Rattle.amo_journal.proofs.Chains.{checksum_after-push}
use Rattle.amo_journal.proofs.Journaling.{added, added_lines, added_read, nothing_done, recovered_log}
use Rattle.amo_journal.proofs.Logs.{line_one_line, lines_records}
use Rattle.amo_journal.proofs.journal.Journal.append.Goals as goal
use Rattle.amo_journal.proofs.journal.Journal.append.Goals.{After-deref}

pub returns-then-self-ge-MAX_BYTES-clause-any_moment : goal.returns-then-self-ge-MAX_BYTES-clause-any_moment
returns-then-self-ge-MAX_BYTES-clause-any_moment g c = nothing_done g.D.Device.moment g.D.Device.left_since g.D.Device.seen g.D.Device.may_leave g.D.Device.stale c.args.self.now c.requires.recovered c.args.records.now (g.met.D.Device.only_now c.args.self.now.device)

pub returns-then-self-ge-MAX_BYTES-clause-read : goal.returns-then-self-ge-MAX_BYTES-clause-read
returns-then-self-ge-MAX_BYTES-clause-read g c = inl (recovered_log g.D.Device.moment g.D.Device.left_since g.D.Device.seen g.D.Device.may_leave g.D.Device.stale c.args.self.now c.requires.recovered)

pub returns-in_err-line-clause-any_moment : goal.returns-in_err-line-clause-any_moment
returns-in_err-line-clause-any_moment g c = nothing_done g.D.Device.moment g.D.Device.left_since g.D.Device.seen g.D.Device.may_leave g.D.Device.stale c.args.self.now c.requires.recovered c.args.records.now (g.met.D.Device.only_now c.args.self.now.device)

pub returns-in_err-line-clause-read : goal.returns-in_err-line-clause-read
returns-in_err-line-clause-read g c = inl (recovered_log g.D.Device.moment g.D.Device.left_since g.D.Device.seen g.D.Device.may_leave g.D.Device.stale c.args.self.now c.requires.recovered)

line_is : (g : _) (c : After-deref g) → c.deref.result.now ≡ line_of c.args.self.now.last.digits c.args.records.now
line_is g c = c.deref.ensures.value ∙ c.in_ok-line.ensures.bytes ∙ ap (λ (d : List ℕ). c.args.records.now ++ 32 ∷ d) c.next-next.ensures

pub append_line-requires-clause-one_line : goal.append_line-requires-clause-one_line
append_line-requires-clause-one_line g c = subst IsOneLine (sym (line_is g c)) (line_one_line c.args.self.now.last.digits c.args.records.now c.requires.one_line)

pub returns-in_err-append_line-clause-any_moment : goal.returns-in_err-append_line-clause-any_moment
returns-in_err-append_line-clause-any_moment g c =
    added g.D.Device.moment g.D.Device.left_since g.D.Device.seen g.D.Device.may_leave g.D.Device.stale c.args.self.now c.requires.recovered c.append_line.new.device c.args.records.now c.deref.result.now c.requires.one_line
    (line_is g (goal.at.returns-in_err-append_line-clause-any_moment g c).After-deref) c.append_line.ensures.any_moment c.append_line.ensures.whole

pub returns-in_err-append_line-clause-read : goal.returns-in_err-append_line-clause-read
returns-in_err-append_line-clause-read g c =
    added_read g.D.Device.moment g.D.Device.left_since g.D.Device.seen g.D.Device.may_leave g.D.Device.stale c.args.self.now c.requires.recovered (g.D.Device.seen c.append_line.new.device) c.args.records.now c.deref.result.now c.requires.one_line
    (line_is g (goal.at.returns-in_err-append_line-clause-read g c).After-deref) c.append_line.ensures.read c.append_line.ensures.whole_read

pub returns-clause-any_moment : goal.returns-clause-any_moment
returns-clause-any_moment g c =
    added g.D.Device.moment g.D.Device.left_since g.D.Device.seen g.D.Device.may_leave g.D.Device.stale c.args.self.now c.requires.recovered c.append_line.new.device c.args.records.now c.deref.result.now c.requires.one_line
    (line_is g (goal.at.returns-clause-any_moment g c).After-deref) c.append_line.ensures.any_moment c.append_line.ensures.whole

pub returns-clause-read : goal.returns-clause-read
returns-clause-read g c =
    added_read g.D.Device.moment g.D.Device.left_since g.D.Device.seen g.D.Device.may_leave g.D.Device.stale c.args.self.now c.requires.recovered (g.D.Device.seen c.append_line.new.device) c.args.records.now c.deref.result.now c.requires.one_line
    (line_is g (goal.at.returns-clause-read g c).After-deref) c.append_line.ensures.read c.append_line.ensures.whole_read

pub returns-clause-recovered : goal.returns-clause-recovered
returns-clause-recovered g c =
    let first = c.args.self.now.first.digits in
    let seen0 = g.D.Device.seen c.args.self.now.device in
    let seen1 = g.D.Device.seen c.append_line.new.device in
    let all = records_in seen0 in
    let records = c.args.records.now in
    let line = c.deref.result.now in
    let is = line_is g (goal.at.returns-clause-recovered g c).After-deref in
    let are = added_lines g.D.Device.moment g.D.Device.left_since g.D.Device.seen g.D.Device.may_leave g.D.Device.stale c.args.self.now c.requires.recovered seen1 records line is c.in_ok-append_line.ensures.acknowledged in
    let same : records_in seen1 ≡ all ++ records ∷ [] = lines_records first (all ++ records ∷ []) seen1 are in
    let long : c.len.result ≡ length line = search rules in
    record {
      file = c.in_ok-append_line.ensures.at_rest;
      gate = omega (arith, c.requires.recovered.gate, long, length-blocks_push (texts_in seen0) line, ap (λ (ts : List (List ℕ)). length (blocks ts)) c.in_ok-append_line.ensures.acknowledged);
      chained = are ∙ ap (lines_from first) (sym same);
      last = c.next-next.ensures ∙ ap (λ (d : List ℕ). next_checksum d records) c.requires.recovered.last ∙ sym (checksum_after-push first all records) ∙ ap (checksum_after first) (sym same);
      one_line = subst AreOneLine (sym same) (all_push all records c.requires.recovered.one_line c.requires.one_line);
    }

pub returns-clause-acknowledged : goal.returns-clause-acknowledged
returns-clause-acknowledged g c =
    let is = line_is g (goal.at.returns-clause-acknowledged g c).After-deref in
    lines_records c.args.self.now.first.digits _ (g.D.Device.seen c.append_line.new.device)
    (added_lines g.D.Device.moment g.D.Device.left_since g.D.Device.seen g.D.Device.may_leave g.D.Device.stale c.args.self.now c.requires.recovered (g.D.Device.seen c.append_line.new.device) c.args.records.now c.deref.result.now is c.in_ok-append_line.ensures.acknowledged)
