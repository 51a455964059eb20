-- `Worker::step`: the premises of its calls, by the lemmas of Workers.
use Rattle.std.proofs.Common.{◌≡◌, arith, ap, sym, ◌∙◌, subst}
use Rattle.amo_kk.specs.Fits.{WantFits}
use Rattle.amo_kk.specs.Words.{done_word}
use Rattle.amo_kk.specs.declared.phase.Want.TheVariants.{LoadDone}
use Rattle.amo_words.proofs.Workers.{done_within}
use Rattle.amo_words.proofs.floor.Worker.step.Goals as goal

pub hear-requires-in-LoadDone-clause-inside : goal.hear-requires-in-LoadDone-clause-inside
hear-requires-in-LoadDone-clause-inside g c =
    let w = c.self.inside in
    let is = c.self.invariant in
    let q = c.in-LoadDone.q in
    let k = c.in-LoadDone.k in
    let fits : WantFits w.local.givens w.local.number (LoadDone q k) = subst (WantFits w.local.givens w.local.number) c.in-LoadDone.is c.want.ensures.fits in
    let within = done_within w.local.givens q k fits.0.worker fits.2 in
    let word : c.done_word-word.result ≡ done_word w.local.givens q k = c.done_word-word.ensures ∙ ap (λ gg. done_word gg q k) c.givens.ensures in
    let tied = ap (λ f. f.table_id) c.self.view_is ∙ c.requires.table ∙ sym (ap (λ f. f.table_id) c.floor.view_is) in
    let z = ap (λ t. t.words) tied in
    let n = is.words in
    omega (arith, word, within, z, n)
