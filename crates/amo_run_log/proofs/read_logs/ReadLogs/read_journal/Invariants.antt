-- The facts that each pass of a loop of `ReadLogs::read_journal` keeps.
use Rattle.std.proofs.Common.{◌≡◌, ◌≤◌, length, map, drop}
use Rattle.amo_run_log.specs.ReadLogs.{journals_after}
use Rattle.amo_run_log.proofs.ByLine.{attempts_in}
use Rattle.amo_run_log.proofs.read_logs.ReadLogs.read_journal.Given as goal

-- what is left to read leads to the journals to which all texts lead
abbrev pub invariant-loop-text : goal.invariant-loop-text
invariant-loop-text l =
    record {
      left : journals_after (length l.fn.self.attempts.lines.items) (attempts_in l.self.attempts.journals.items) l.worker (map (λ text. text.items) (drop l.text-index l.texts))
          ≡ journals_after (length l.fn.self.attempts.lines.items) (attempts_in l.fn.self.attempts.journals.items) l.worker (map (λ text. text.items) l.texts);
      lines : length l.self.attempts.lines.items ≡ length l.fn.self.attempts.lines.items;
      low : 1 ≤ l.worker;
      high : l.worker ≤ length (attempts_in l.self.attempts.journals.items);
      same : l.self.findings ≡ l.fn.self.findings;
    }
