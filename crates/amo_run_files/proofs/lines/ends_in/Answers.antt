-- `ends_in`: its promises, by the lemmas of Ends.
use Rattle.std.proofs.Common.{◌++◌, List, ℕ, sym, ap, ◌∙◌, append-nil}
use Rattle.std.proofs.lemmas.List.{at_drop_all}
use Rattle.amo_run_files.proofs.Ends.{ends_from, ends_in_are}
use Rattle.amo_run_files.proofs.lines.ends_in.Goals as goal

pub returns : goal.returns
returns c =
    sym (append-nil c.loop-i.ends.items)
    ∙ ap (λ (es : List ℕ). c.loop-i.ends.items ++ es) (sym (at_drop_all (ends_from c.loop-i.i) c.args.bytes.now c.loop-i.i c.loop-i-test.false))
    ∙ c.loop-i.invariant ∙ ends_in_are c.args.bytes.now
