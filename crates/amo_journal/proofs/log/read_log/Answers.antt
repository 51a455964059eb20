-- `read_log`: what its loop keeps, by the lemmas of Blocks and Chains.
use Rattle.std.proofs.Common.{rules, ◌≡◌, ◌++◌, ◌∷◌, [], List, ℕ, length, sym, ap, subst, ◌∙◌, arith, length-append}
use Rattle.amo_journal.specs.Appends.{appends, line_of, next_checksum, checksum_after}
use Rattle.amo_journal.specs.Logs.{records_of, checksums_of, checksums_from}
use Rattle.amo_journal.specs.Texts.{AreOneLine}
use Rattle.amo_journal.proofs.Blocks.{all_push}
use Rattle.amo_journal.proofs.Chains.{records_of-push, checksums_of-push, checksum_after-push, checksums_from-push, appends-push, records_one_line}
use Rattle.amo_journal.proofs.log.read_log.Goals as goal

pub loop-line-preserved : goal.loop-line-preserved
loop-line-preserved c =
    let first = c.args.first.now.digits in
    let all = records_of c.loop-line.all.items in
    let records = c.in-Some-records_in.records.now in
    let line = c.in-Some.line.now in
    let behind = c.in-Some.behind.now in
    let last = checksum_after first all in
    let same : c.in_ok-to_vec.field-0.items ≡ records = search rules in
    let pushed : records_of c.push.new.self.items ≡ all ++ records ∷ [] =
    ap records_of c.in_ok-push.ensures.items ∙ records_of-push c.loop-line.all.items _ ∙ ap (λ (t : List ℕ). all ++ t ∷ []) same in
    let line_is : line ≡ line_of last records = c.in-Some-records_in.ensures.found ∙ ap (λ (d : List ℕ). line_of d records) c.loop-line.invariant.last in
    let next_is : c.in-Some-records_in.next.digits ≡ next_checksum last records =
    c.in-Some-records_in.ensures.checksum ∙ ap (λ (d : List ℕ). next_checksum d records) c.loop-line.invariant.last in
    let rest_is : c.loop-line.rest.now ≡ 43 ∷ line_of last records ++ 10 ∷ behind = c.in-Some.ensures.found ∙ ap (λ (l : List ℕ). 43 ∷ l ++ 10 ∷ behind) line_is in
    let file : c.args.bytes.now ≡ appends first (all ++ records ∷ []) ++ behind =
    c.loop-line.invariant.file ∙ ap (λ (l : List ℕ). appends first all ++ l) rest_is ∙ sym (appends-push first all records behind) in
    record {
      file = file ∙ ap (λ (rs : List (List ℕ)). appends first rs ++ behind) (sym pushed);
      size = omega (arith, ap length file, length-append (appends first (all ++ records ∷ [])) behind, ap (λ (rs : List (List ℕ)). length (appends first rs)) pushed);
      last = next_is ∙ sym (checksum_after-push first all records) ∙ ap (checksum_after first) (sym pushed);
      checksums =
          ap checksums_of c.in_ok-push-2.ensures.items ∙ checksums_of-push c.loop-line.checksums.items _ ∙ ap (λ (d : List ℕ). checksums_of c.loop-line.checksums.items ++ d ∷ []) next_is
          ∙ ap (λ (ds : List (List ℕ)). ds ++ next_checksum last records ∷ []) c.loop-line.invariant.checksums
          ∙ sym (checksums_from-push first all records) ∙ ap (checksums_from first) (sym pushed);
      one_line = subst AreOneLine (sym pushed) (all_push all records c.loop-line.invariant.one_line (records_one_line last records line line_is c.in-Some.ensures.one_line));
    }
