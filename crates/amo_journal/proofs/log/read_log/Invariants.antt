-- The facts that each pass of a loop of `read_log` keeps.
use Rattle.std.proofs.Common.{◌≡◌, ◌+◌, ◌++◌, length}
use Rattle.amo_journal.specs.Appends.{appends, checksum_after}
use Rattle.amo_journal.specs.Logs.{records_of, checksums_of, checksums_from}
use Rattle.amo_journal.specs.Texts.{AreOneLine}
use Rattle.amo_journal.proofs.log.read_log.Given as goal

abbrev pub invariant-loop-line : goal.invariant-loop-line
invariant-loop-line l = record {
  file : l.bytes ≡ appends l.first.digits (records_of l.all.items) ++ l.rest;
  size : length (appends l.first.digits (records_of l.all.items)) + length l.rest ≡ length l.bytes;
  last : l.last.digits ≡ checksum_after l.first.digits (records_of l.all.items);
  checksums : checksums_of l.checksums.items ≡ checksums_from l.first.digits (records_of l.all.items);
  one_line : AreOneLine (records_of l.all.items);
}

abbrev pub decreases-loop-line : goal.decreases-loop-line
decreases-loop-line l = length l.rest
