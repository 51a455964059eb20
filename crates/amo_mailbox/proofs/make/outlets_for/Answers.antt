-- `outlets_for`: the premises of its calls and what its loop keeps, by the lemmas of Passes.
use Rattle.std.proofs.Common.{◌+◌, map, ap, ◌∙◌, arith, rules}
use Rattle.std.proofs.lemmas.List.Elements.{All-push}
use Rattle.std.proofs.lemmas.List.{map_push}
use Rattle.std.proofs.lemmas.List.FromFn.{map-range_with_len_more}
use Rattle.amo_mailbox.specs.declared.queue.Queue.{Queue}
use Rattle.amo_mailbox.specs.declared.outlet.Outlet.{Outlet}
use Rattle.amo_mailbox.specs.Endpoints.{IsNewOutletOf}
use Rattle.amo_mailbox.proofs.Passes.{begins, makes}
use Rattle.amo_mailbox.proofs.make.outlets_for.Goals as goal

pub ruled-requires-clause-rule : goal.ruled-requires-clause-rule
ruled-requires-clause-rule g c = begins

pub another-port-requires-clause-rule : goal.another-port-requires-clause-rule
another-port-requires-clause-rule g c = makes _ _ _ _ c.loop-before.invariant.view_is

pub loop-before-preserved : goal.loop-before-preserved
loop-before-preserved g c =
    let queue : Queue g.row.Out.Denot = record { ring = c.in_ok-ring.ring } in
    record {
      pass = search rules;
      view_is = search rules;
      each = rw c.push_reserved.ensures.items (All-push (λ (o : Outlet g.row.Out.Denot). IsNewOutletOf queue c.args.jobs o) _ _ c.loop-before.invariant.each c.new.ensures.new);
      workers = ap (map (λ (o : Outlet g.row.Out.Denot). o.worker)) c.push_reserved.ensures.items ∙ map_push (λ (o : Outlet g.row.Out.Denot). o.worker) _ _ ∙ cc (map-range_with_len_more (λ k. k + 1) 0 c.loop-before.before c.loop-before.before (omega arith), c.loop-before.invariant.workers, c.new.ensures.worker);
      len = omega arith;
      room = omega arith;
    }
