-- `add_loads`: what its loop keeps and its promises, by the lemmas of Others.
use Rattle.std.proofs.Common.{◌+◌, ◌++◌, refl, sym, ap, ◌∙◌, arith, length}
use Rattle.std.specs.Prelude.{map}
use Rattle.std.proofs.lemmas.List.{length_push}
use Rattle.amo_kk.specs.Words.{next_word}
use Rattle.amo_process.specs.declared.batch.Item.TheVariants.{Load}
use Rattle.amo_process.proofs.Others.{others_up, added_same, added_other, added_past, above_up}
use Rattle.amo_process.proofs.batch.add_loads.Goals.{then-other-p, else-other-p}
use Rattle.amo_process.proofs.batch.add_loads.Goals as goal

pub loop-other-preserved : goal.loop-other-preserved
loop-other-preserved c =
    let above = others_up c.args.p (c.loop-other.other + 1) (c.args.givens.workers + 1) in
    elim c.if-other-p.branch [
      | then-other-p w ↦
          record {
            added = rw w.items-is (ap (λ l. l ++ map (λ i. Load (next_word i)) above) w.push_reserved.ensures.items
                ∙ added_other (λ i. Load (next_word i)) c.loop-other.items.items c.args.p c.loop-other.other (c.args.givens.workers + 1) c.loop-other-test.true w.if-other-p.true
                ∙ c.loop-other.invariant.added);
            few = rw w.items-is (let e = ap length w.push_reserved.ensures.items ∙ length_push c.loop-other.items.items _ in let i = c.loop-other.invariant.few in let t = c.loop-other-test.true in omega arith);
            room = rw w.items-is (w.push_reserved.ensures.capacity ∙ c.loop-other.invariant.room);
          }
      | else-other-p w ↦
          record {
            added = rw w.items-is (added_same (λ i. Load (next_word i)) c.loop-other.items.items c.args.p c.loop-other.other (c.args.givens.workers + 1) c.loop-other-test.true w.if-other-p.false
                ∙ c.loop-other.invariant.added);
            few = rw w.items-is (let i = c.loop-other.invariant.few in let t = c.loop-other-test.true in omega arith);
            room = rw w.items-is c.loop-other.invariant.room;
          }
    ]

pub returns-clause-items : goal.returns-clause-items
returns-clause-items c =
    sym (added_past (λ i. Load (next_word i)) c.loop-other.items.items c.args.p c.loop-other.other (c.args.givens.workers + 1) c.loop-other-test.false)
    ∙ c.loop-other.invariant.added
    ∙ ap (λ l. c.args.items.now.items ++ map (λ i. Load (next_word i)) l) (sym (above_up c.args.givens c.args.p c.args.q (c.args.q + 1) refl))
