-- `Journal::recover`: its promises, by the lemmas of Journaling, Logs, Moments, Opening and Parts.
use Rattle.std.proofs.Common.{◌≡◌, ℕ, List, length, ⊎_elim, sym, ◌∙◌, ap, subst}
use Rattle.amo_journal.specs.Appends.{IsLog, checksum_after, lines_from, records_in}
use Rattle.amo_journal.specs.Device.{LeavesOnly}
use Rattle.amo_journal.specs.Journal.{AllWhole, HasAllOrAllButLast, HasAllOrNotTheLast}
use Rattle.amo_journal.specs.Logs.{records_of}
use Rattle.amo_journal.specs.Texts.{AreOneLine, texts_in, blocks}
use Rattle.amo_journal.proofs.Journaling.{both_leave, has_all, last_checksum}
use Rattle.amo_journal.proofs.Logs.{is_log, lines_records, log_texts, log_whole}
use Rattle.amo_journal.proofs.Moments.{leaves_weaker}
use Rattle.amo_journal.proofs.Opening.{stays_texts, stays_open}
use Rattle.amo_journal.proofs.Parts.{texts_are_one_line}
use Rattle.amo_journal.proofs.journal.Journal.recover.Goals as goal
use Rattle.amo_journal.proofs.journal.Journal.recover.Goals.{After-recover_file}

some_left : (g : _) (c : After-recover_file g) (all : List (List ℕ)) → IsLog c.args.self.now.first.digits all (g.D.Device.seen c.args.self.now.device) → AllWhole (g.D.Device.may_leave c.args.self.now.device)
    → LeavesOnly g.D.Device.moment g.D.Device.left_since c.args.self.now.device c.recover_file.new.device (HasAllOrNotTheLast c.args.self.now.first.digits all)
some_left g c all log were =
    let d0 = c.args.self.now.device in
    let d1 = c.recover_file.new.device in
    let first = c.args.self.now.first.digits in
    let seen0 = g.D.Device.seen d0 in
    let are = log_texts first all seen0 log in
    leaves_weaker g.D.Device.moment g.D.Device.left_since d0 d1 _ _ (both_leave g.D.Device.moment g.D.Device.left_since d0 d1 _ _ c.recover_file.ensures.any_moment (c.recover_file.ensures.whole were).0)
    (λ f both. has_all first all f log.one_line both.1 (subst (λ (ts : List (List ℕ)). HasAllOrAllButLast ts f) are (stays_texts (texts_in seen0) (g.D.Device.may_leave d0) f (texts_are_one_line seen0) both.0)))

all_left : (g : _) (c : After-recover_file g) (all : List (List ℕ)) → IsLog c.args.self.now.first.digits all (g.D.Device.seen c.args.self.now.device)
    → ((f : List ℕ) → g.D.Device.may_leave c.args.self.now.device f → IsLog c.args.self.now.first.digits all f)
    → LeavesOnly g.D.Device.moment g.D.Device.left_since c.args.self.now.device c.recover_file.new.device (IsLog c.args.self.now.first.digits all)
all_left g c all log kept =
    let d0 = c.args.self.now.device in
    let d1 = c.recover_file.new.device in
    let first = c.args.self.now.first.digits in
    let seen0 = g.D.Device.seen d0 in
    let are = log_texts first all seen0 log in
    let same = λ (f : List ℕ) (now : g.D.Device.may_leave d0 f). log_texts first all f (kept f now) ∙ sym are in
    leaves_weaker g.D.Device.moment g.D.Device.left_since d0 d1 _ _ (both_leave g.D.Device.moment g.D.Device.left_since d0 d1 _ _ c.recover_file.ensures.any_moment (c.recover_file.ensures.whole (λ f now. log_whole first all f (kept f now))).0)
    (λ f both. is_log first all f log.one_line both.1 (stays_open (texts_in seen0) (g.D.Device.may_leave d0) f (texts_are_one_line seen0) same both.0 ∙ are))

pub returns-in_err-log-clause-any_moment : goal.returns-in_err-log-clause-any_moment
returns-in_err-log-clause-any_moment g c all log were = some_left g (goal.at.returns-in_err-log-clause-any_moment g c).After-recover_file all log were

pub returns-in_err-log-clause-stays : goal.returns-in_err-log-clause-stays
returns-in_err-log-clause-stays g c all log kept = all_left g (goal.at.returns-in_err-log-clause-stays g c).After-recover_file all log kept

pub returns-clause-any_moment : goal.returns-clause-any_moment
returns-clause-any_moment g c all log were = some_left g (goal.at.returns-clause-any_moment g c).After-recover_file all log were

pub returns-clause-stays : goal.returns-clause-stays
returns-clause-stays g c all log kept = all_left g (goal.at.returns-clause-stays g c).After-recover_file all log kept

pub returns-clause-recovered : goal.returns-clause-recovered
returns-clause-recovered g c =
    let first = c.args.self.now.first.digits in
    let seen0 = g.D.Device.seen c.args.self.now.device in
    let seen1 = g.D.Device.seen c.recover_file.new.device in
    let all = records_of c.in_ok-log.log.records.items in
    let log = c.in_ok-log.ensures.log in
    let are : texts_in seen1 ≡ lines_from first all = c.recover_file.ensures.same ∙ log_texts first all seen0 log in
    let records : records_in seen1 ≡ all = lines_records first all seen1 are in
    let last : c.last_checksum-self.result.digits ≡ checksum_after first all = ⊎_elim
    (λ none. c.last_checksum-self.ensures.none (c.in_ok-log.ensures.checksums ∙ none.0) ∙ sym none.1)
    (λ some. c.last_checksum-self.ensures.some some.0 (checksum_after first all) (c.in_ok-log.ensures.checksums ∙ some.1))
    (last_checksum first all) in
    record {
      file = c.in_ok-log.ensures.at_rest;
      gate = c.in_ok-log.ensures.end ∙ ap (λ (ts : List (List ℕ)). length (blocks ts)) (sym c.recover_file.ensures.same);
      chained = are ∙ ap (lines_from first) (sym records);
      last = last ∙ ap (checksum_after first) (sym records);
      one_line = subst AreOneLine (sym records) log.one_line;
    }
