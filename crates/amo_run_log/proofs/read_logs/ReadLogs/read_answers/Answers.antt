-- `ReadLogs::read_answers`: what its loop keeps, by the lemmas of LogReadings and TextLists.
use Rattle.std.proofs.Common.{◌+◌, ℕ, List, map, drop, sym, ap, ◌∙◌}
use Rattle.amo_run_log.specs.declared.finding.Finding.{Finding}
use Rattle.amo_run_log.specs.Findings.{finding_in}
use Rattle.amo_run_log.specs.ReadLogs.{findings_after}
use Rattle.amo_run_log.proofs.LogReadings.{finding_more, text_next}
use Rattle.amo_run_log.proofs.TextLists.{bytes_of}
use Rattle.amo_run_log.proofs.read_logs.ReadLogs.read_answers.Goals as goal

pub loop-text-preserved : goal.loop-text-preserved
loop-text-preserved c =
    let texts = c.args.texts.now in
    let i = c.loop-text.text-index in
    let rest : List (List ℕ) = map bytes_of (drop (i + 1) texts) in
    let before = c.loop-text.self.findings.items in
    let text = c.text-item.result in
    record {
      left =
          ap (λ (xs : List Finding). findings_after xs rest) c.in_ok-push.ensures.items
          ∙ sym (finding_more before text.items rest c.in-Some.finding (ap finding_in (sym c.deref.ensures.value) ∙ sym c.in-Some.ensures.exact))
          ∙ ap (findings_after before) (sym (text_next texts i text c.loop-text-test.true c.text-item.is))
          ∙ c.loop-text.invariant.left;
      same = c.loop-text.invariant.same;
    }
