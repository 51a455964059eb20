-- The facts that each pass of a loop of `take_rest` keeps.
use Rattle.std.proofs.Common.{◌≡◌, filter, vec_capacity}
use Rattle.crossbeam_queue.specs.Passes.{view, IsPassOf}
use Rattle.amo_mailbox.specs.declared.pass_state.PassState.TheVariants.{Gets}
use Rattle.amo_mailbox.specs.Mailbox.{taken_of, made_of, back_of}
use Rattle.amo_mailbox.specs.Endpoints.{has_worker}
use Rattle.amo_mailbox.proofs.gather.take_rest.Given as goal

abbrev pub invariant-loop : goal.invariant-loop
invariant-loop g l = record {
  pass : IsPassOf l.queue.ring l.pass;
  view_is : view l.pass ≡ Gets (taken_of (view l.pass)) (made_of (view l.pass)) (back_of (view l.initial.pass));
  into : l.into.items ≡ filter (λ x. has_worker l.outlets x.worker) (taken_of (view l.pass));
  capacity : vec_capacity l.into ≡ vec_capacity l.initial.into;
}
