-- `remainder_of`: the premises of its calls and its promises, by the lemmas of Ends.
use Rattle.std.proofs.Common.{◌∙◌}
use Rattle.amo_run_files.specs.Lines.{lines_in}
use Rattle.amo_run_files.proofs.Ends.{remainder_from_end}
use Rattle.amo_run_files.proofs.lines.remainder_of.Goals as goal

pub split_at-requires : goal.split_at-requires
split_at-requires c = (remainder_from_end c.args.bytes.now c.last_end.result (c.last_end.ensures (lines_in c.args.bytes.now) c.requires)).0

pub returns : goal.returns
returns c = c.split_at.ensures.back ∙ (remainder_from_end c.args.bytes.now c.last_end.result (c.last_end.ensures (lines_in c.args.bytes.now) c.requires)).1
