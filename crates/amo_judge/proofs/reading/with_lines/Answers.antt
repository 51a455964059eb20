-- `with_lines`: what its loop keeps, by the lemmas of NextLine.
use Rattle.std.proofs.Common.{◌+◌, ℕ, List, [], Bor, get_or, sym, ap, ◌∙◌}
use Rattle.amo_judge.proofs.NextLine.{is_taken, one_event, one_line}
use Rattle.amo_judge.proofs.reading.with_lines.Goals as goal

pub loop-i-preserved : goal.loop-i-preserved
loop-i-preserved c =
    let h = c.loop-i.history in
    let more = c.add.new.self in
    let none : Bor (List ℕ) = record { ref_ptr = (0, 0); now = [] } in
    let line : List ℕ = (get_or c.args.lines.now c.loop-i.i none).now in
    let taken = is_taken h more c.in_ok-wrong.field-0 line c.in_default.is c.in_ok-wrong.ensures in
    record {
      many = one_event h more line taken ∙ ap (λ (n : ℕ). n + 1) c.loop-i.invariant.many;
      rest = sym (one_line h more c.args.lines.now c.loop-i.i none c.loop-i-test.true taken) ∙ c.loop-i.invariant.rest;
    }
