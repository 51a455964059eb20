-- `write_items`: what its loop keeps and its promises, directly from definitions and clauses.
use Rattle.std.proofs.Common.{◌≡◌, ℕ, zero, suc, ◌+◌, min, sym, ap, ◌∙◌, arith, List, [], ◌∷◌, ◌++◌, length, take, drop}
use Rattle.std.specs.Prelude.{map}
use Rattle.std.proofs.lemmas.List.{take_more_set, map_more, drop-set-lt, drop-drop, take-map}
use Rattle.amo_process.specs.declared.batch.Item.TheVariants.{Store}
use Rattle.amo_c.specs.Batch.{item_told}
use Rattle.amo_c.proofs.item.write_items.Goals as goal

take_min : {X : Type 0} (a : ℕ) (xs : List X) → take (min a (length xs)) xs ≡ take a xs
take_min zero xs = let e : min 0 (length xs) ≡ 0 = omega arith in ap (λ k. take k xs) e
take_min (suc a) [] = let e : min (suc a) 0 ≡ 0 = omega arith in ap (λ k. take k []) e
take_min (suc a) (x ∷ xs) =
    let e : min (suc a) (suc (length xs)) ≡ suc (min a (length xs)) = omega arith in
    ap (λ k. take k (x ∷ xs)) e ∙ ap (λ l. x ∷ l) (take_min a xs)

pub loop-k-preserved : goal.loop-k-preserved
loop-k-preserved c =
    record {
      told =
          take_more_set c.loop-k.places c.loop-k.k c.item_told.result (omega arith)
          ∙ ap (λ l. l ++ c.item_told.result ∷ []) c.loop-k.invariant.told
          ∙ ap (λ x. map item_told (take c.loop-k.k c.args.batch.now) ++ x ∷ []) c.item_told.ensures
          ∙ sym (map_more item_told c.args.batch.now c.loop-k.k (Store 0 0) (omega arith));
      beyond =
          drop-set-lt (c.loop-k.k + 1) c.loop-k.places c.loop-k.k c.item_told.result (omega arith)
          ∙ sym (drop-drop 1 c.loop-k.k c.loop-k.places) ∙ ap (drop 1) c.loop-k.invariant.beyond ∙ drop-drop 1 c.loop-k.k c.args.places.now;
    }

pub returns : goal.returns
returns c =
    let end : c.min-count.result ≡ c.loop-k.k = omega arith in
    record {
      count = omega arith;
      told =
          ap (λ k. take k c.loop-k.places) end ∙ c.loop-k.invariant.told
          ∙ ap (λ k. map item_told (take k c.args.batch.now)) (sym end ∙ c.min-count.ensures)
          ∙ ap (map item_told) (take_min (length c.args.places.now) c.args.batch.now)
          ∙ sym (take-map item_told (length c.args.places.now) c.args.batch.now);
      beyond = ap (λ k. drop k c.loop-k.places) end ∙ c.loop-k.invariant.beyond ∙ ap (λ k. drop k c.args.places.now) (sym end);
    }
