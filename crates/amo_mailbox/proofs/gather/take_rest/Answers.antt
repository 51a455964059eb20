-- `take_rest`: the premises of its calls and its promises, by the lemmas of Passes and Gathers.
use Rattle.std.proofs.Common.{arith, ◌≡◌, List, ℕ, map, length, ap, ◌∙◌, sym}
use Rattle.amo_mailbox.specs.declared.output.Output.{Output}
use Rattle.amo_mailbox.specs.declared.outlet.Outlet.{Outlet}
use Rattle.amo_mailbox.specs.Endpoints.{has_worker}
use Rattle.amo_mailbox.proofs.Passes.{takes, learns}
use Rattle.amo_mailbox.proofs.Gathers.{among, workers_of, any_map, told_whole, took_within, within_of_whole, whole_kept, test_within, room_for, all_kept}
use Rattle.amo_mailbox.proofs.gather.take_rest.Goals as goal

-- the workers that came back are the outlets'
same_workers : {Out : Type 0} (os : List (Outlet Out)) (back : List (ℕ × List (Output Out))) → map (λ e. e.0) back ≡ map (λ o. o.worker) os → (p : ℕ) → has_worker os p ≡ among (workers_of back) p
same_workers {Out} os back e p = any_map (λ (o : Outlet Out). o.worker) p os ∙ ap (λ (ps : List ℕ). among ps p) (sym e)

pub pop_as-requires-clause-rule : goal.pop_as-requires-clause-rule
pop_as-requires-clause-rule g c = (takes _ _ _ _ _ c.loop.invariant.view_is, learns _ _)

pub returns-in_default-clause-whole : goal.returns-in_default-clause-whole
returns-in_default-clause-whole g c =
    let t = told_whole _ _ _ _ c.loop.invariant.view_is c.in_default.ensures.rule.1 in
    rw c.loop.invariant.into (whole_kept (has_worker c.args.outlets.now) _ _ (same_workers _ _ c.requires.workers) t.0)

pub returns-in_default-clause-only : goal.returns-in_default-clause-only
returns-in_default-clause-only g c = rw c.loop.invariant.into (all_kept (λ (x : Output g.row.Out.Denot). has_worker c.args.outlets.now x.worker) _)

pub returns-in_default-clause-len : goal.returns-in_default-clause-len
returns-in_default-clause-len g c =
    let t = told_whole _ _ _ _ c.loop.invariant.view_is c.in_default.ensures.rule.1 in
    let n = test_within (has_worker c.args.outlets.now) _ _ (same_workers _ _ c.requires.workers) (within_of_whole _ _ t.0) in
    omega (arith, ap length c.loop.invariant.into)

pub push_reserved-requires : goal.push_reserved-requires
push_reserved-requires g c =
    let t = took_within _ _ _ _ _ _ c.loop.invariant.view_is c.in-Some-pop_as.ensures.rule in
    let n = room_for (has_worker c.args.outlets.now) _ _ _ (same_workers _ _ c.requires.workers) (sym c.is_among.ensures ∙ c.if-is_among.true) t.1 in
    omega (arith, ap length c.loop.invariant.into)
