-- `collect_all`: the premises of its calls, what its loop keeps and its promises, by the lemmas of
-- Collects and Told.
use Rattle.std.proofs.Common.{◌≡◌, ℕ, suc, ◌+◌, ◌-◌, [], ◌∷◌, ◌++◌, length, Some, refl, sym, ap, ◌∙◌, subst, arith}
use Rattle.std.proofs.lemmas.List.{length_push}
use Rattle.std.proofs.lemmas.List.Elements.{All-pop}
use mathlib.Core.Option.{some, some-injective}
use mathlib.Core.Logic.{dite}
use native.Mathlib.Decide.{ℕ_discrete}
use lib.ListN.{get_elem?}
use Rattle.amo_words.specs.Faces.{spots}
use Rattle.atomic_table.proofs.Lists.{at_longer, at_last}
use Rattle.amo_sets.specs.Lists.{numbered}
use Rattle.amo_crew.specs.Crew.{HasFinished, AreFinished}
use Rattle.amo_crew.specs.Collecting.{AreCollected, Collects, RanAt, IsBackAs, HasRoomFor}
use Rattle.amo_crew.proofs.Collects.{collects_one, now_back, stays_back}
use Rattle.amo_crew.proofs.Told.{ends_more, ends_all, inside}
use Rattle.amo_crew.proofs.settle.collecting.collect_all.Goals as goal

pub loop-before-preserved : goal.loop-before-preserved
loop-before-preserved g c = let inv = c.loop-before.invariant in let rest = c.pop.new.self.items in let finish = c.in-Some.finish in let before = c.loop-before.before in
    let items : c.loop-before.finishes.items ≡ rest ++ finish ∷ [] = c.in-Some.ensures.items in
    let len : length c.loop-before.finishes.items ≡ length rest + 1 = ap length items ∙ length_push rest finish in let left = inv.left in
    record {
      table = c.collect_one.ensures.table ∙ inv.table;
      left = omega arith;
      workers = (All-pop (RanAt c.args.floor.now.table_id) c.loop-before.finishes.items rest (Some finish) items inv.workers).0;
      room = c.collect_one.ensures.room (length rest) (subst (λ n. HasRoomFor n c.loop-before.into) len inv.room);
      told = ends_more _ finish rest c.loop-before.finishes.items _ _ _ _ _ items c.collect_one.ensures.collects inv.told;
      front = λ k f at. inv.front k f (subst (λ l. get_elem? l k ≡ some f) (sym items) (at_longer rest (finish ∷ []) k f at));
      collected = λ queue gg payloads budgets finished count start. let so_far = inv.collected queue gg payloads budgets finished count start in
          let all = subst (AreFinished (g.W.Work.related c.args._work.now) queue c.args.floor.now.table_id gg payloads budgets) items so_far.0 in
          let p : gg.workers - length rest ≡ suc before = omega arith in
          let ran : HasFinished (g.W.Work.related c.args._work.now) queue c.args.floor.now.table_id gg payloads (suc before) (numbered 0 budgets (suc before)) finish =
          subst (λ (n : ℕ). HasFinished (g.W.Work.related c.args._work.now) queue c.args.floor.now.table_id gg payloads n (numbered 0 budgets n) finish) p (all (length rest) finish (at_last rest finish (length rest) refl)) in
          let next : suc before ≡ before + 1 = omega arith in
          let did = subst (λ (n : ℕ). Collects n finish c.loop-before.book c.loop-before.into c.collect_one.new.book c.collect_one.new.into) (sym next) c.collect_one.ensures.collects in (
            (λ k f at. all k f (at_longer rest (finish ∷ []) k f at)),
            subst (λ (n : ℕ). AreCollected (g.W.Work.related c.args._work.now) queue c.args.floor.now.table_id gg payloads budgets n c.collect_one.new.book c.collect_one.new.into) next
                (collects_one _ _ _ _ _ _ before _ _ so_far.1 (omega arith) finish _ _ ran did),
            (λ k f far at. dite (ℕ_discrete k (length rest))
                (λ e. let same : finish ≡ f = some-injective finish f (sym (inv.front k finish (subst (λ l. get_elem? l k ≡ some finish) (sym items) (at_last rest finish k (sym e)))) ∙ at) in
                subst (λ n. IsBackAs (spots c.collect_one.new.book) n f) (sym p ∙ ap (λ n. gg.workers - n) (sym e))
                (subst (IsBackAs (spots c.collect_one.new.book) (suc before)) same (now_back _ _ _ _ _ _ before _ _ so_far.1 (omega arith) finish _ _ ran did)))
                (λ n. stays_back _ _ _ _ _ _ before _ _ so_far.1 (omega arith) finish _ _ ran did (gg.workers - k) (λ e. n (omega arith)) f (so_far.2 k f (omega arith) at))),
          );
    }

pub returns-clause-collected : goal.returns-clause-collected
returns-clause-collected g c = λ queue gg payloads budgets finished count start. let number : c.len-count.result ≡ gg.workers = c.len-count.ensures ∙ count in
    let inv = c.loop-before.invariant in let left = inv.left in let over = c.loop-before-test.false in let end = c.loop-before.auto.before-end in
    let last : c.loop-before.before ≡ gg.workers = omega arith in let all = inv.collected queue gg payloads budgets finished number start in (
      subst (λ (n : ℕ). AreCollected (g.W.Work.related c.args._work.now) queue c.args.floor.now.table_id gg payloads budgets n c.loop-before.book c.loop-before.into) last all.1,
      (λ k f at. all.2 k f (omega arith) at),
    )

pub returns-clause-ends : goal.returns-clause-ends
returns-clause-ends g c = let inv = c.loop-before.invariant in let left = inv.left in let over = c.loop-before-test.false in let end = c.loop-before.auto.before-end in
    ends_all c.loop-before.finishes.items _ _ (omega arith) inv.told

pub loop-before-init : goal.loop-before-init
loop-before-init g c = let len = c.len-count.ensures in let ok = c.args.finishes.ok.0 in record {
  table = c.requires.table;
  left = omega (arith, len, ok);
  workers = c.requires.workers;
  room = subst (λ n. HasRoomFor n c.args.into.now) ok c.requires.room;
  told = refl;
  front = λ k f at. at;
  collected = λ queue gg payloads budgets finished count start. (
    finished,
    start,
    (λ k f far at. absurd (let near = inside c.args.finishes.items k f at in omega (arith, near, far))),
  );
}

pub collect_one-requires-clause-worker : goal.collect_one-requires-clause-worker
collect_one-requires-clause-worker g c = let inv = c.loop-before.invariant in let rest = c.pop.new.self.items in let finish = c.in-Some.finish in
    (All-pop (RanAt c.args.floor.now.table_id) c.loop-before.finishes.items rest (Some finish) c.in-Some.ensures.items inv.workers).1

pub collect_one-requires-clause-room : goal.collect_one-requires-clause-room
collect_one-requires-clause-room g c = let room = c.loop-before.invariant.room in let len = ap length c.in-Some.ensures.items ∙ length_push c.pop.new.self.items c.in-Some.finish in
    let a = room.outlets_room in let b = room.ends_room in let d = room.hand_room in record { outlets_room = omega arith; ends_room = omega arith; hand_room = omega arith }
