-- `Worker::store_done`: the premises of its calls and what its type keeps, by the lemmas of Holding
-- (amo_kk), Workers and Moves.
use Rattle.std.proofs.Common.{◌≡◌, arith, refl, ap, ◌∙◌, set}
use Rattle.amo_kk.specs.Step.{want}
use Rattle.amo_kk.specs.Words.{done_word}
use Rattle.amo_kk.specs.declared.phase.Want.TheVariants.{StoreDone}
use Rattle.amo_kk.proofs.Holding.{hears_zero}
use Rattle.amo_words.proofs.Workers.{at_table, done_within, fits, working_after}
use Rattle.amo_words.proofs.Moves.{stores}
use Rattle.amo_words.proofs.floor.Worker.store_done.Goals as goal

pub done_word-word-requires-clause-place : goal.done_word-word-requires-clause-place
done_word-word-requires-clause-place g c =
    let few = (fits _ _ _ _ _ c.self.invariant c.self.view_is (StoreDone c.args.k c.args.j) c.requires.wants).1.2 in
    let same = ap (λ gg. gg.jobs) c.givens.ensures in
    omega (arith, few, same)

pub store-requires : goal.store-requires
store-requires g c =
    let w = c.self.inside in
    let is = c.self.invariant in
    let wants = fits _ _ _ _ _ is c.self.view_is (StoreDone c.args.k c.args.j) c.requires.wants in
    let few = wants.1.2 in
    let word : c.done_word-word.result ≡ done_word w.local.givens w.local.number c.args.k = c.done_word-word.ensures ∙ (λ i. done_word (c.givens.ensures i) (c.number.ensures.number i) c.args.k) in
    let there = at_table _ _ _ _ _ is c.self.view_is _ c.requires.table _ _ word (done_within w.local.givens w.local.number c.args.k is.worker (omega arith)) in
    (there.0, there.1, stores c.args.words.now.key _ _ _ w.local is.role _ _ (StoreDone c.args.k c.args.j) wants.0 refl refl (λ ws. ap (λ i. set ws i c.args.j) word))

pub invariant_of-self : goal.invariant_of-self
invariant_of-self g c =
    let w = c.self.inside in
    working_after w.seat.me.0 c.store.new.seat.me.0 w.seat.table_id _ w.local c.stored.new.self c.self.invariant c.store.ensures.0
    0 c.store.ensures.2.0 (hears_zero w.local.givens (want w.local.state)) c.stored.ensures.record
