-- `first_lines`: the lines that were passed, counted byte by byte.
use Rattle.std.proofs.Common.{inr, sym, ◌∙◌}
use Rattle.amo_run_views.proofs.Lines.{passed_end, passed_other, ends_there}
use Rattle.amo_run_views.proofs.readable.first_lines.Goals.{then-byte-eq10, else-byte-eq10}
use Rattle.amo_run_views.proofs.readable.first_lines.Goals as goal

pub loop-i-preserved : goal.loop-i-preserved
loop-i-preserved c = elim c.if-byte-eq10.branch [
  | then-byte-eq10 w ↦ record {
    lines = passed_end c.args.bytes.now c.loop-i.i c.loop-i.left c.if-byte-eq10.left c.args.count c.loop-i-test.true w.if-byte-eq10.true c.if-left-eq0.false w.left-is c.loop-i.invariant.lines;
    last = λ none. inr (ends_there c.args.bytes.now c.loop-i.i c.loop-i-test.true w.if-byte-eq10.true);
  }
  | else-byte-eq10 w ↦ record {
    lines = passed_other c.args.bytes.now c.loop-i.i c.loop-i.left c.if-byte-eq10.left c.args.count c.loop-i-test.true w.if-byte-eq10.false w.left-is c.loop-i.invariant.lines;
    last = λ none. absurd (c.if-left-eq0.false (sym w.left-is ∙ none));
  }
]
