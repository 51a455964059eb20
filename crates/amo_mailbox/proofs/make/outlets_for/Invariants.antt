-- The facts that each pass of a loop of `outlets_for` keeps.
use Rattle.std.proofs.Common.{◌≡◌, ◌+◌, ◌≤◌, [], All, map, vec_len, vec_capacity}
use Rattle.std.specs.List.{range_with_len}
use Rattle.crossbeam_queue.specs.Passes.{view, IsPassOf}
use Rattle.amo_mailbox.specs.declared.pass_state.PassState.TheVariants.{Gets}
use Rattle.amo_mailbox.specs.Endpoints.{IsNewOutletOf}
use Rattle.amo_mailbox.proofs.make.outlets_for.Given as goal

abbrev pub invariant-loop-before : goal.invariant-loop-before
invariant-loop-before g l = record {
  pass : IsPassOf l.queue.ring l.pass;
  view_is : view l.pass ≡ Gets [] l.before [];
  each : All (λ o. IsNewOutletOf l.queue l.jobs o) l.outlets.items;
  workers : map (λ o. o.worker) l.outlets.items ≡ map (λ k. k + 1) (range_with_len 0 l.before);
  len : vec_len l.outlets ≡ l.before;
  room : l.workers ≤ vec_capacity l.outlets;
}
