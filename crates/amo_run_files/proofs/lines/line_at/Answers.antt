-- `line_at`: that its numbers fit, that its places exist and its promises, by the lemmas of Ends.
use Rattle.std.proofs.Common.{get_or, arith}
use Rattle.amo_run_files.proofs.Ends.{IsLineFrom, line_part}
use Rattle.amo_run_files.proofs.lines.line_at.Goals as goal
use Rattle.amo_run_files.proofs.lines.line_at.Goals.{After-start_of-start}

part : (c : After-start_of-start) → IsLineFrom c.args.bytes.now c.args.i c.start_of-start.result (get_or c.args.ends.now c.args.i 0)
part c = line_part c.args.bytes.now c.args.ends.now c.args.i c.start_of-start.result c.requires.ends c.requires.there c.start_of-start.ensures

pub overflow_sub-result : goal.overflow_sub-result
overflow_sub-result c = omega (arith, (part (goal.at.overflow_sub-result c).After-start_of-start).some)

pub slice_bounds-result-count : goal.slice_bounds-result-count
slice_bounds-result-count c = omega (arith, (part (goal.at.slice_bounds-result-count c).After-start_of-start).some)

pub slice_bounds-result-start : goal.slice_bounds-result-start
slice_bounds-result-start c = omega (arith, (part (goal.at.slice_bounds-result-start c).After-start_of-start).some)

pub slice_bounds-result-end : goal.slice_bounds-result-end
slice_bounds-result-end c = omega (arith, (part (goal.at.slice_bounds-result-end c).After-start_of-start).within)

pub returns : goal.returns
returns c = (part (goal.at.returns c).After-start_of-start).is
