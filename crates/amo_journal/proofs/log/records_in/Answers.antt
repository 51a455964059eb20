-- `records_in`: its promises, by the lemmas of Checksums.
use Rattle.std.proofs.Common.{◌≡◌, ◌+◌, ◌-◌, ◌<◌, drop, length, ap, arith, rules}
use Rattle.amo_journal.proofs.Checksums.{length-line_of, parts_of_line}
use Rattle.amo_journal.proofs.log.records_in.Goals as goal
use Rattle.amo_journal.proofs.log.records_in.Goals.{else-line-at-eq32-via-then-line-at-eq32+else-eq, else-line-at-eq32-via-else-line-at-eq32}

pub returns-then-line-lt-LINE_END-clause-none : goal.returns-then-line-lt-LINE_END-clause-none
returns-then-line-lt-LINE_END-clause-none c records is =
    let short : length c.args.line.now < 9 = search rules in
    omega (arith, short, ap length is, length-line_of c.args.before.now.digits records)

pub returns-else-line-at-eq32-clause-none : goal.returns-else-line-at-eq32-clause-none
returns-else-line-at-eq32-clause-none c records is =
    let line = c.args.line.now in
    let parts = parts_of_line line c.args.before.now.digits records is in
    elim c.else-line-at-eq32.branch [
      | else-line-at-eq32-via-then-line-at-eq32+else-eq w ↦
          let digits : c.next-next.result.digits ≡ drop (length line - 9 + 1) line = search rules in
          search rules
      | else-line-at-eq32-via-else-line-at-eq32 w ↦ w.if-line-at-eq32.false parts.1
    ]
