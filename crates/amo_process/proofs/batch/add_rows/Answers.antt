-- `add_rows`: what its loop keeps and its promises, by the lemmas of Others.
use Rattle.std.proofs.Common.{◌≡◌, ◌+◌, ◌++◌, [], ◌∷◌, refl, sym, ap, ◌∙◌, length, arith}
use Rattle.std.specs.Prelude.{map}
use Rattle.std.proofs.lemmas.List.{length_push}
use Rattle.amo_sets.specs.Lists.{numbered}
use Rattle.amo_kk.specs.Words.{done_word}
use Rattle.amo_process.specs.declared.batch.Item.TheVariants.{LoadUntilZero}
use Rattle.amo_process.specs.Batch.{row_item, last_word, others_above}
use Rattle.amo_process.proofs.Others.{others_up, added_same, added_other, added_past, above_up}
use Rattle.amo_process.proofs.batch.add_rows.Goals.{then-other-p, else-other-p}
use Rattle.amo_process.proofs.batch.add_rows.Goals as goal

pub loop-other-preserved : goal.loop-other-preserved
loop-other-preserved c =
    let above = others_up c.number-p.result (c.loop-other.other + 1) (c.givens-givens.result.workers + 1) in
    elim c.if-other-p.branch [
      | then-other-p w ↦
          let place : w.done_word-word.result + 1 ≡ done_word c.givens-givens.result c.loop-other.other (numbered 0 c.args.local.now.state.fronts c.loop-other.other + 1) =
          let a = w.done_word-word.ensures.place in let b = w.read_of.ensures in omega arith in
          let item : w.row_from.result ≡ row_item c.givens-givens.result c.args.local.now.state.fronts c.loop-other.other =
          w.row_from.ensures ∙ ap (λ k. LoadUntilZero k (last_word c.givens-givens.result c.loop-other.other)) place in
          record {
            added = rw w.items-is (ap (λ l. l ++ map (row_item c.givens-givens.result c.args.local.now.state.fronts) above) w.push_reserved.ensures.items
                ∙ ap (λ x. (c.loop-other.items.items ++ x ∷ []) ++ map (row_item c.givens-givens.result c.args.local.now.state.fronts) above) item
                ∙ added_other (row_item c.givens-givens.result c.args.local.now.state.fronts) c.loop-other.items.items c.number-p.result c.loop-other.other (c.givens-givens.result.workers + 1) c.loop-other-test.true w.if-other-p.true
                ∙ c.loop-other.invariant.added);
            few = rw w.items-is (let e = ap length w.push_reserved.ensures.items ∙ length_push c.loop-other.items.items _ in let i = c.loop-other.invariant.few in let t = c.loop-other-test.true in omega arith);
            room = rw w.items-is (w.push_reserved.ensures.capacity ∙ c.loop-other.invariant.room);
          }
      | else-other-p w ↦
          record {
            added = rw w.items-is (added_same (row_item c.givens-givens.result c.args.local.now.state.fronts) c.loop-other.items.items c.number-p.result c.loop-other.other (c.givens-givens.result.workers + 1) c.loop-other-test.true w.if-other-p.false
                ∙ c.loop-other.invariant.added);
            few = rw w.items-is (let i = c.loop-other.invariant.few in let t = c.loop-other-test.true in omega arith);
            room = rw w.items-is c.loop-other.invariant.room;
          }
    ]

pub returns-clause-items : goal.returns-clause-items
returns-clause-items c =
    sym (added_past (row_item c.givens-givens.result c.args.local.now.state.fronts) c.loop-other.items.items c.number-p.result c.loop-other.other (c.givens-givens.result.workers + 1) c.loop-other-test.false)
    ∙ c.loop-other.invariant.added
    ∙ ap (λ l. c.args.items.now.items ++ map (row_item c.givens-givens.result c.args.local.now.state.fronts) l) (sym (above_up c.givens-givens.result c.number-p.result c.args.q (c.args.q + 1) refl))
    ∙ (λ i. c.args.items.now.items ++ map (row_item (c.givens-givens.ensures i) c.args.local.now.state.fronts) (others_above (c.givens-givens.ensures i) (c.number-p.ensures.number i) c.args.q))
