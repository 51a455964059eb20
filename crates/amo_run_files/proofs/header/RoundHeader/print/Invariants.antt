-- The facts that each pass of a loop of `RoundHeader::print` keeps.
use Rattle.std.proofs.Common.{◌≡◌, ◌++◌, drop, map}
use Rattle.std.specs.Fmt.{decimal}
use Rattle.amo_run_log.specs.Texts.{ended}
use Rattle.amo_run_files.specs.Records.{said_by, text_of_record}
use Rattle.amo_run_files.proofs.header.RoundHeader.print.Given as goal

abbrev pub invariant-loop-line : goal.invariant-loop-line
invariant-loop-line l = l.text.items ++ ended (map (λ line. decimal line) (drop l.line-index l.self.lines.items)) ≡ text_of_record (said_by l.self)
