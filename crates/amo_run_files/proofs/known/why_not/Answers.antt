-- `why_not`: its promises, by the lemmas of KnownLines.
use Rattle.std.proofs.Common.{sym, ◌∙◌}
use Rattle.std.specs.BTreeSet.{contains}
use Rattle.std.proofs.lemmas.Bool.{not-true, not-false}
use Rattle.amo_run_files.proofs.KnownLines.{line_cmp, contained, one_more, is_repeated, is_new}
use Rattle.amo_run_files.proofs.known.why_not.Goals as goal

pub returns-then-not-added-clause-exact : goal.returns-then-not-added-clause-exact
returns-then-not-added-clause-exact c before has =
    is_repeated before c.args.line.now (sym c.in_default.ensures)
    (sym (contained c.args.known.now c.args.line before has) ∙ not-false (contains line_cmp c.args.known.now c.args.line) (sym c.in_ok-added.ensures.added ∙ c.if-not-added.true))

pub returns-clause-exact : goal.returns-clause-exact
returns-clause-exact c before has =
    is_new before c.args.line.now (sym c.in_default.ensures)
    (sym (contained c.args.known.now c.args.line before has) ∙ not-true (contains line_cmp c.args.known.now c.args.line) (sym c.in_ok-added.ensures.added ∙ c.if-not-added.false))

pub returns-clause-known : goal.returns-clause-known
returns-clause-known c before has = one_more c.args.known.now c.insert.new.self c.args.line before has c.in_ok-added.ensures.updates
