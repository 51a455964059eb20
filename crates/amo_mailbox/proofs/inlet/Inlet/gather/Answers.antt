-- `Inlet::gather`: the premises of its calls and its promises, by the lemmas of Gathers and Ended.
use Rattle.std.proofs.Common.{rules, arith, ◌≡◌, ◌++◌, List, map, ap, ◌∙◌}
use Rattle.std.proofs.lemmas.List.Sorted.{All-permutation, IsNonDecreasingBy-from_sort_by_key}
use Rattle.crossbeam_queue.specs.Passes.{view}
use Rattle.amo_mailbox.specs.declared.output.Output.{Output}
use Rattle.amo_mailbox.specs.declared.outlet.Outlet.{Outlet}
use Rattle.amo_mailbox.specs.Mailbox.{back_of}
use Rattle.amo_mailbox.specs.Ports.{InletView}
use Rattle.amo_mailbox.specs.Endpoints.{IsOutletOf, worker_and_sent, worker_and_kept}
use Rattle.amo_mailbox.proofs.Gathers.{workers_of}
use Rattle.amo_mailbox.proofs.Ended.{workers_same, kept_same, gathered_room, sorted_each, sorted_only}
use Rattle.amo_mailbox.proofs.inlet.Inlet.gather.Goals as goal
use Rattle.amo_mailbox.proofs.inlet.Inlet.gather.Goals.{After-bring_back}

pub bring_back-requires-clause-belong : goal.bring_back-requires-clause-belong
bring_back-requires-clause-belong g c =
    rw c.as_mut_slice-row.ensures.value (All-permutation (λ (o : Outlet g.row.Out.Denot). IsOutletOf c.args.queue o) _ _ c.sort_unstable_by_key.ensures.permutation c.requires.outlets)

pub take_rest-requires-clause-workers : goal.take_rest-requires-clause-workers
take_rest-requires-clause-workers g c = ap workers_of (ap back_of c.bring_back.ensures.view) ∙ workers_same _ _ c.bring_back.ensures.left

-- what the outlets sent, as it was brought back
sent : (g : _) (c : After-bring_back g) → back_of (view c.bring_back.new.pass) ≡ map worker_and_sent c.sort_unstable_by_key.new.self.items
sent g c = ap back_of c.bring_back.ensures.view ∙ ap (map worker_and_sent) c.as_mut_slice-row.ensures.value

-- what they keep
left : (g : _) (c : After-bring_back g) → map worker_and_kept c.bring_back.new.outlets ≡ map worker_and_kept c.sort_unstable_by_key.new.self.items
left g c = c.bring_back.ensures.left ∙ ap (map worker_and_kept) c.as_mut_slice-row.ensures.value

pub take_rest-requires-clause-room : goal.take_rest-requires-clause-room
take_rest-requires-clause-room g c =
    let a = (goal.at.take_rest-requires-clause-room g c).After-bring_back in
    let all = gathered_room c.args.queue _ _ c.bring_back.new.outlets _ c.sort_unstable_by_key.ensures.permutation c.requires.outlets (sent g a) (left g a) in
    let room = ap (λ (v : InletView g.row.Out.Denot). v.room) c.self.view_is in
    let fits = c.self.invariant in omega (arith, room, fits)

pub append_kept-requires : goal.append_kept-requires
append_kept-requires g c =
    let a = (goal.at.append_kept-requires g c).After-bring_back in
    let all = gathered_room c.args.queue _ _ c.bring_back.new.outlets _ c.sort_unstable_by_key.ensures.permutation c.requires.outlets (sent g a) (left g a) in
    let room = ap (λ (v : InletView g.row.Out.Denot). v.room) c.self.view_is in
    let fits = c.self.invariant in omega (arith, room, fits)

pub returns-clause-each : goal.returns-clause-each
returns-clause-each g c =
    let a = (goal.at.returns-clause-each g c).After-bring_back in
    rw c.append_kept.ensures
    (sorted_each c.args.queue _ _ c.bring_back.new.outlets _ c.sort_unstable_by_key.ensures.permutation c.requires.outlets (sent g a) (left g a)
    c.take_rest.new.into.items c.take_rest.ensures.whole c.take_rest.ensures.apart)

pub returns-clause-only : goal.returns-clause-only
returns-clause-only g c =
    let a = (goal.at.returns-clause-only g c).After-bring_back in
    rw c.append_kept.ensures
    (sorted_only c.args.queue _ _ c.bring_back.new.outlets _ c.sort_unstable_by_key.ensures.permutation c.requires.outlets (sent g a) (left g a)
    c.take_rest.new.into.items c.take_rest.ensures.only)

pub returns-clause-kept : goal.returns-clause-kept
returns-clause-kept g c = (
  c.sort_unstable_by_key.new.self.items,
  c.sort_unstable_by_key.ensures.permutation,
  IsNonDecreasingBy-from_sort_by_key (λ (o : Outlet g.row.Out.Denot). o.worker) _ c.sort_unstable_by_key.ensures.sorted (λ a r f' h. (search rules, search rules)),
  (
    c.take_rest.new.into.items,
    c.append_kept.ensures
        ∙ ap (λ (l : List (Output g.row.Out.Denot)). c.take_rest.new.into.items ++ l)
        (kept_same c.sort_unstable_by_key.new.self.items c.bring_back.new.outlets (left g (goal.at.returns-clause-kept g c).After-bring_back)),
  ),
)
