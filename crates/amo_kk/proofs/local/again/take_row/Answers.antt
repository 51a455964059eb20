-- `take_row`: what its loop keeps, by the lemmas of Again.
use Rattle.std.proofs.Common.{◌≡◌, ℕ, ◌+◌, true, not, ◌&&◌, List, [], ◌∷◌, ◌++◌, take, drop, get_or, ap, sym, ◌∙◌}
use Rattle.std.proofs.lemmas.List.{take_more, drop_more}
use Rattle.amo_sets.specs.Sets.{has, with_number}
use Rattle.amo_params.specs.Givens.{is_within}
use Rattle.amo_kk.specs.Again.{set_of, are_new}
use Rattle.amo_kk.specs.Knowledge.{KnowledgeView}
use Rattle.amo_kk.proofs.Again.{learned-push, new_next}
use Rattle.amo_kk.proofs.local.again.take_row.Goals as goal

pub loop-entry-preserved : goal.loop-entry-preserved
loop-entry-preserved c =
    let row : List ℕ = c.args.row.now in
    let k : ℕ = c.loop-entry.entry-index in
    let x : ℕ = get_or c.args.row.now c.loop-entry.entry-index 0 in
    let more = take_more c.args.row.now c.loop-entry.entry-index 0 c.loop-entry-test.true in
    let learns : c.learn.new.self ≡ record c.loop-entry.knowledge { known = with_number x c.loop-entry.knowledge.known } = c.learn.ensures in
    let knew : c.loop-entry.knowledge.known ≡ set_of (take k row) = ap (λ (v : KnowledgeView). v.known) c.loop-entry.invariant.knows in
    let fresh : (is_within c.args.givens.jobs x && not (has c.loop-entry.knowledge.known x)) ≡ true = sym c.if-not-is_new.ensures in
    record {
      claims = c.push_reserved.ensures.items ∙ ap (λ l. l ++ x ∷ []) c.loop-entry.invariant.claims ∙ sym more;
      dones = c.push_reserved-in-loop-entry.ensures.items ∙ ap (λ l. l ++ x ∷ []) c.loop-entry.invariant.dones ∙ sym more;
      knows = learns ∙ ap (λ (v : KnowledgeView). record v { known = with_number x v.known }) c.loop-entry.invariant.knows
          ∙ ap (λ l. record c.args.knowledge.now { known = l }) (sym (learned-push [] (take k row) x) ∙ ap set_of (sym more));
      rest = ap (λ (v : KnowledgeView). are_new c.args.givens v.known (drop (k + 1) row)) learns
          ∙ new_next c.args.givens c.loop-entry.knowledge.known (drop (k + 1) row) x fresh
          ∙ ap (λ l. are_new c.args.givens c.loop-entry.knowledge.known l) (sym (drop_more row k 0 c.loop-entry-test.true))
          ∙ c.loop-entry.invariant.rest;
      claims_stay = c.push_reserved.ensures.capacity ∙ c.loop-entry.invariant.claims_stay;
      dones_stay = c.push_reserved-in-loop-entry.ensures.capacity ∙ c.loop-entry.invariant.dones_stay;
    }
