-- `read_one`: its promises, by the lemmas of SaidTexts.
use Rattle.std.proofs.Common.{ap, ◌∙◌}
use Rattle.amo_status.specs.Said.{words_in}
use Rattle.amo_status.proofs.SaidTexts.{words_found, words_none}
use Rattle.amo_status.proofs.said.read_one.Goals as goal

pub returns-clause-exact : goal.returns-clause-exact
returns-clause-exact c =
    c.words_of.ensures
    ∙ ap (λ x. words_in x c.as_bytes-2.result.now c.as_bytes-3.result.now) c.as_bytes.ensures.value
    ∙ ap (λ x. words_in c.args.intent.now x c.as_bytes-3.result.now) c.as_bytes-2.ensures.value
    ∙ ap (λ x. words_in c.args.intent.now c.args.line.now x) c.as_bytes-3.ensures.value

pub returns-clause-found : goal.returns-clause-found
returns-clause-found c = words_found c.args.intent.now c.args.line.now c.args.verdict.now c.words_of.result (returns-clause-exact c)

pub returns-clause-none : goal.returns-clause-none
returns-clause-none c = words_none c.args.intent.now c.args.line.now c.args.verdict.now c.words_of.result (returns-clause-exact c)
