-- `Place::moved`: that its numbers fit and its promises, by the lemmas of Chains and Following.
use Rattle.std.proofs.Common.{rules, ◌≡◌, ◌+◌, ◌-◌, ℕ, length, take, drop, ap, ◌∙◌, arith, length-append}
use Rattle.std.proofs.lemmas.List.{length-map}
use Rattle.amo_journal.specs.Appends.{appends, checksum_after, next_checksum}
use Rattle.amo_journal.specs.Logs.{records_of, checksums_from}
use Rattle.amo_journal.proofs.Chains.{checksums_from-push}
use Rattle.amo_journal.proofs.Following.{block_place, length-appends, moves}
use Rattle.amo_journal.proofs.follow.Place.moved.Goals as goal

pub overflow_add-at : goal.overflow_add-at
overflow_add-at c =
    let checksum = c.args.self.now.checksum.digits in
    let more = records_of c.args.log.now.records.items in
    let split = c.in-Some.ensures.some in
    omega (
      arith,
      block_place checksum more split.0 split.1 c.args.rest.now c.requires.is.end c.in-Some.line c.args.log.now.end split.2 split.3 c.requires.end,
      c.requires.end,
      ap length c.requires.is.file_is,
      length-append (appends checksum more) c.requires.is.end,
      c.requires.start,
    )

pub overflow_sub-at : goal.overflow_sub-at
overflow_sub-at c =
    let checksum = c.args.self.now.checksum.digits in
    let more = records_of c.args.log.now.records.items in
    let split = c.in-Some.ensures.some in
    omega (arith, block_place checksum more split.0 split.1 c.args.rest.now c.requires.is.end c.in-Some.line c.args.log.now.end split.2 split.3 c.requires.end)

pub overflow_add-result : goal.overflow_add-result
overflow_add-result c =
    let checksum = c.args.self.now.checksum.digits in
    let more = records_of c.args.log.now.records.items in
    let long : c.len.result ≡ length c.args.log.now.records.items = search rules in
    omega (
      arith,
      long,
      length-map c.args.log.now.records.items (λ records. records.items),
      length-appends checksum more,
      ap length c.requires.is.file_is,
      length-append (appends checksum more) c.requires.is.end,
      c.requires.count,
    )

pub returns : goal.returns
returns c first all at =
    let checksum = c.args.self.now.checksum.digits in
    let more = records_of c.args.log.now.records.items in
    let split = c.in-Some.ensures.some in
    let long : c.len.result ≡ length c.args.log.now.records.items = search rules in
    let line : ℕ = c.in-Some.line in
    let end : ℕ = c.args.log.now.end in
    let bytes : c.in_ok-to_vec-2.field-0.items ≡ take (end - (end - (line + 2))) (drop (end - (line + 2)) c.args.rest.now) = search rules in
    let size : c.len-2.result ≡ length c.args.self.now.append.items = search rules in
    let digits : c.last_checksum.result.digits ≡ next_checksum (checksum_after checksum split.0) split.1 =
    c.last_checksum.ensures.some (checksums_from checksum split.0) _ (c.requires.checksums ∙ ap (checksums_from checksum) split.2 ∙ checksums_from-push checksum split.0 split.1) in
    moves first all c.args.self.now at more split.0 split.1 c.args.rest.now line end _ split.2 split.3 c.requires.end c.requires.is
    (omega (arith, long, length-map c.args.log.now.records.items (λ records. records.items))) (ap (λ (n : ℕ). c.args.self.now.start + n + (end - (line + 2))) size) bytes digits
