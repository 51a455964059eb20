-- `Floor::close`: what its type keeps and its promises, by the lemmas of Whole.
use Rattle.std.proofs.Common.{◌≡◌, List, ap, refl, sym, subst, ◌∙◌}
use Rattle.std.specs.Mem.Slots.{slots_items}
use Rattle.amo_params.specs.declared.givens.Givens.{Givens}
use Rattle.amo_words.specs.declared.rule.Spot.{Spot}
use Rattle.amo_kk.specs.World.{world_of}
use Rattle.amo_words.specs.Faces.{AreShown, ClosedView, Seated, spots, spots_of}
use Rattle.amo_words.specs.Settling.{HasClosed}
use Rattle.amo_words.proofs.Whole.{settles}
use Rattle.amo_words.proofs.floor.Floor.close.Goals as goal

pub invariant_of-result : goal.invariant_of-result
invariant_of-result g c = let b = c.book.inside in let f = c.self.inside in let v = b.seat.me.0 in let words = slots_items c.close_with-closed.result.words in let slots = slots_items c.close_with-closed.result.slots in
    let t = settles f.board.shared.key b.seat.id v b.spots.items words slots c.book.invariant.role c.book.invariant.moves c.close_with-closed.ensures.values.2 in
    let same : f.givens ≡ v.givens = sym c.self.invariant.2 ∙ sym t.0 in (
      c.close_with-closed.ensures.values.0,
      c.close_with-closed.ensures.values.1,
      c.close_with-closed.ensures.counts.0 ∙ c.self.invariant.0,
      c.close_with-closed.ensures.counts.1 ∙ c.self.invariant.1,
      c.book.invariant.stand.0 ∙ ap (λ (x : Givens). x.workers) (sym (same ∙ c.book.invariant.givens)),
      ((world_of v.givens t.1.log).processes, subst (λ (x : Givens). AreShown x (world_of v.givens t.1.log).processes words) (sym same) t.1.shown),
    )

pub returns-clause-closed : goal.returns-clause-closed
returns-clause-closed g c = let b = c.book.inside in let f = c.self.inside in let v = b.seat.me.0 in let words = slots_items c.close_with-closed.result.words in let slots = slots_items c.close_with-closed.result.slots in
    let t = settles f.board.shared.key b.seat.id v b.spots.items words slots c.book.invariant.role c.book.invariant.moves c.close_with-closed.ensures.values.2 in
    let same : f.givens ≡ v.givens = sym c.self.invariant.2 ∙ sym t.0 in
    let stood : ClosedView g.row.P.Denot = record { givens = f.givens; spots = b.spots.items; words = words; slots = slots } in
    let closed : HasClosed v.givens v.payloads v.seen b.spots.items stood = record { givens = same; spots_are = refl; key = f.board.shared.key; seat = b.seat.id; closed = t.2; world = t.1 } in
    let by_role = subst (λ (l : List Spot). HasClosed v.givens v.payloads v.seen l stood) (sym (ap spots_of c.book.invariant.role)) closed in
    subst (λ (x : Seated g.row.P.Denot). HasClosed x.view.givens x.view.payloads x.view.seen (spots x) stood) c.book.view_is by_role
