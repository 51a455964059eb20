-- `bring_back`: what its loop keeps, directly from definitions and clauses.
use Rattle.std.proofs.Common.{rules, arith, ◌≡◌, ◌≢◌, ◌++◌, [], ◌∷◌, List, ℕ, map, take, length-set, get_or, ap, ◌∙◌, sym}
use Rattle.std.proofs.Math.Seq.{map-set_same}
use Rattle.std.proofs.lemmas.List.{map_more, get_or-set_other}
use Rattle.crossbeam_queue.specs.Passes.{view}
use Rattle.amo_mailbox.specs.declared.output.Output.{Output}
use Rattle.amo_mailbox.specs.declared.pass_state.PassState.{PassState}
use Rattle.amo_mailbox.specs.declared.pass_state.PassState.TheVariants.{Gets}
use Rattle.amo_mailbox.specs.declared.outlet.Outlet.{Outlet}
use Rattle.amo_mailbox.specs.Mailbox.{taken_of, made_of, back_of}
use Rattle.amo_mailbox.specs.Endpoints.{worker_and_sent, worker_and_kept}
use Rattle.amo_mailbox.proofs.gather.bring_back.Goals as goal

pub loop-outlet-preserved : goal.loop-outlet-preserved
loop-outlet-preserved g c =
    let O : Type 0 = Outlet g.row.Out.Denot in
    let H : Type 0 = PassState g.row.Out.Denot in
    let x : O = c.outlet-item.result in
    let all : List O = c.args.outlets.now in
    let k : ℕ = c.loop-outlet.outlet-index in
    let here : get_or c.loop-outlet.outlets k x ≡ get_or all k x = c.loop-outlet.invariant.rest k x (omega arith) (omega arith) in
    let same = length-set c.loop-outlet.outlets k c.bring.new.outlet in
    let v₀ : H = view c.args.pass.now in
    record {
      pass = search rules;
      view_is = c.bring.ensures.view ∙ ap (λ (v : H). Gets (taken_of v) (made_of v) (back_of v ++ worker_and_sent (get_or c.loop-outlet.outlets k x) ∷ [])) c.loop-outlet.invariant.view_is
          ∙ ap (λ (b : List (ℕ × List (Output g.row.Out.Denot))). Gets (taken_of v₀) (made_of v₀) b) (ap (λ (y : O). map worker_and_sent (take k all) ++ worker_and_sent y ∷ []) here ∙ sym (map_more worker_and_sent all k x (omega arith)));
      left = map-set_same worker_and_kept c.loop-outlet.outlets k c.bring.new.outlet x c.bring.ensures.left ∙ c.loop-outlet.invariant.left;
      rest = λ i d le lt. let ne : i ≢ k = omega arith in get_or-set_other c.loop-outlet.outlets k i c.bring.new.outlet d ne ∙ c.loop-outlet.invariant.rest i d (omega arith) (omega arith);
    }
