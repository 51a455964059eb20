-- `day_of`: what its loop keeps and its promises, by the lemmas of DayLemmas.
use Rattle.std.proofs.Common.{◌∷◌, [], ◌++◌, ◌∙◌, ap, sym, map, List, ℕ}
use denote.Bor.{Bor}
use Rattle.amo_example_payments.proofs.DayLemmas.{day_more, said_more, broken}
use Rattle.amo_example_payments.proofs.day.day_of.Goals as goal

pub returns-in_default-clause-line : goal.returns-in_default-clause-line
returns-in_default-clause-line c _ =
    broken (λ (w : Bor (List ℕ)). w.now) c.deref-words-items.result.now c.loop-words.words-index _ c.args.text.now (ap (map (λ (w : Bor (List ℕ)). w.now)) c.deref-words-items.ensures.value ∙ c.in_ok-lines.ensures) c.loop-words-test.true
    (sym c.in_default.ensures)

pub loop-words-preserved : goal.loop-words-preserved
loop-words-preserved c =
    let said = c.loop-words.invariant in (
      said.0 ++ c.in-Some.line ∷ [],
      said_more (λ (w : Bor (List ℕ)). w.now) c.deref-words-items.result.now c.loop-words.words-index _ said.0 c.in-Some.line c.loop-words-test.true (sym c.in-Some.ensures) said.1,
      day_more said.0 c.in-Some.line c.loop-words.day c.add.new.self said.2 c.in_ok-add.ensures,
    )
