-- The facts that each pass of a loop of `bring_back` keeps.
use Rattle.std.proofs.Common.{◌≡◌, ◌<◌, ◌≤◌, ℕ, length, map, take, get_or}
use Rattle.crossbeam_queue.specs.Passes.{view, IsPassOf}
use Rattle.amo_mailbox.specs.declared.outlet.Outlet.{Outlet}
use Rattle.amo_mailbox.specs.declared.pass_state.PassState.TheVariants.{Gets}
use Rattle.amo_mailbox.specs.Mailbox.{taken_of, made_of}
use Rattle.amo_mailbox.specs.Endpoints.{worker_and_sent, worker_and_kept}
use Rattle.amo_mailbox.proofs.gather.bring_back.Given as goal

abbrev pub invariant-loop-outlet : goal.invariant-loop-outlet
invariant-loop-outlet g l = record {
  pass : IsPassOf l.queue.ring l.pass;
  view_is : view l.pass ≡ Gets (taken_of (view l.initial.pass)) (made_of (view l.initial.pass)) (map worker_and_sent (take l.outlet-index l.initial.outlets));
  left : map worker_and_kept l.outlets ≡ map worker_and_kept l.initial.outlets;
  rest : (i : ℕ) (d : Outlet g.row.Out.Denot) → l.outlet-index ≤ i → i < length l.outlets → get_or l.outlets i d ≡ get_or l.initial.outlets i d;
}
