-- `call_off`: the premises of its calls and its promises, by the lemmas of Backs.
use Rattle.std.proofs.Common.{ℕ, length, replicate, sym, ap, ◌∙◌, subst, arith}
use Rattle.std.proofs.lemmas.List.{length-map}
use Rattle.amo_params.specs.declared.givens.Givens.{Givens}
use Rattle.amo_words.specs.Faces.{ClosedView, spots}
use Rattle.amo_words.specs.Settling.{HasClosed}
use Rattle.amo_crew.specs.declared.outcome.End.TheVariants.{NotStarted}
use Rattle.amo_crew.specs.Hired.{HasNotBegun}
use Rattle.amo_crew.proofs.Backs.{off_from, all_off, all_back, all_at_table, has_not_begun}
use Rattle.amo_crew.proofs.settle.calling_off.call_off.Goals as goal

pub call_back-requires-clause-workers : goal.call_back-requires-clause-workers
call_back-requires-clause-workers g c = all_at_table _ _ _ _ _ c.args.kit.crew.items c.requires.hired.1.members

pub payloads_of-requires-clause-room : goal.payloads_of-requires-clause-room
payloads_of-requires-clause-room g c = let off = c.call_back.ensures.back _ _ _ _ (off_from _ _ _ _ _ _ c.requires.hired.1) in
    let back = all_back _ _ _ _ c.in-Ok.settlement (c.in-Ok.ensures.whole _ _ _ _ c.close.ensures.closed) (all_off _ _ _ _ _ _ off) ∙ off.payloads_are in
    let len = c.in-Ok.settlement.free.ok.0 in let n = ap length back in let m = length-map c.in-Ok.settlement.free.items (λ (t : ℕ × g.row.P.Denot). t.1) in let count = c.requires.count in let room = c.requires.hired.1.kit_is.spare_room in omega arith

pub returns-in-Ok : goal.returns-in-Ok
returns-in-Ok g c = let off = c.call_back.ensures.back _ _ _ _ (off_from _ _ _ _ _ _ c.requires.hired.1) in
    (c.payloads_of.ensures ∙ all_back _ _ _ _ c.in-Ok.settlement (c.in-Ok.ensures.whole _ _ _ _ c.close.ensures.closed) (all_off _ _ _ _ _ _ off) ∙ off.payloads_are, c.requires.count)

pub returns : goal.returns
returns g c = let off = c.call_back.ensures.back _ _ _ _ (off_from _ _ _ _ _ _ c.requires.hired.1) in
    let same = c.in-Err.ensures.refused in
    let workers = ap (λ (x : Givens). x.workers) (c.givens.ensures ∙ ap (λ (x : ClosedView g.row.P.Denot). x.givens) same ∙ c.close.ensures.floor) in
    let ends = c.none_started-ends.ensures ∙ ap (λ (n : ℕ). replicate n NotStarted) workers in
    subst (HasNotBegun c.args.floor.givens c.args.book.view.payloads) (sym c.new.ensures)
    (has_not_begun _ _ c.call_back.new.book c.in-Err.closed _ _ _
    (subst (λ (x : ClosedView g.row.P.Denot). HasClosed c.call_back.new.book.view.givens c.call_back.new.book.view.payloads c.call_back.new.book.view.seen (spots c.call_back.new.book) x) (sym same) c.close.ensures.closed)
    off.givens off.payloads_are (all_off _ _ _ _ _ _ off) ends c.new-outputs.ensures.items c.requires.hired.1.kit_is.no_hands)
