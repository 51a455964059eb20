-- `start_of`: its promises, by the lemmas of Ends.
use Rattle.std.proofs.Common.{ℕ, ◌-◌, List, length, get_or, ap, ◌∙◌, arith}
use Rattle.amo_run_files.proofs.Ends.{length_ends, begin_at}
use Rattle.amo_run_files.proofs.lines.start_of.Goals as goal

pub returns : goal.returns
returns c lines are =
    ap (λ (es : List ℕ). get_or es (c.args.i - 1) 0) are
    ∙ begin_at lines c.args.i 0 (omega (arith, c.if-i-eq0.false)) (omega (arith, c.requires, ap length are, length_ends 0 lines))
