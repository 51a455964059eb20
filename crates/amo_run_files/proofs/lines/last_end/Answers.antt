-- `last_end`: its promises, by the lemmas of Ends.
use Rattle.std.proofs.Common.{ℕ, ◌-◌, List, Option, length, get_or, unwrap_or, ap, ◌∙◌, arith}
use Rattle.amo_run_files.proofs.Ends.{last_at}
use Rattle.amo_run_files.proofs.lines.last_end.Goals as goal

pub returns : goal.returns
returns c lines are =
    c.unwrap_or.ensures ∙ ap (λ (o : Option ℕ). unwrap_or o 0) c.copied.ensures ∙ c.last.ensures.item.4 (omega arith) 0
    ∙ ap (λ (es : List ℕ). get_or es (length es - 1) 0) are ∙ last_at lines
