-- The facts that each pass of a loop of `ReadLogs::read_answers` keeps.
use Rattle.std.proofs.Common.{◌≡◌, map, drop}
use Rattle.amo_run_log.specs.ReadLogs.{findings_after}
use Rattle.amo_run_log.proofs.read_logs.ReadLogs.read_answers.Given as goal

-- what is left to read leads to the findings to which all texts lead
abbrev pub invariant-loop-text : goal.invariant-loop-text
invariant-loop-text l =
    record {
      left : findings_after l.self.findings.items (map (λ text. text.items) (drop l.text-index l.texts)) ≡ findings_after l.fn.self.findings.items (map (λ text. text.items) l.texts);
      same : l.self.attempts ≡ l.fn.self.attempts;
    }
