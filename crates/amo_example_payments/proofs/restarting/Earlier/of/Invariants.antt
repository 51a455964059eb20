-- The facts that each pass of a loop of `Earlier::of` keeps.
use Rattle.std.proofs.Common.{◌≡◌, ℕ, take}
use Rattle.std.specs.BTreeSet.{contains}
use Rattle.std.specs.Ordering.{nat_cmp}
use Rattle.amo_example_payments.specs.Restarts.{has_intent, has_receipt}
use Rattle.amo_example_payments.proofs.restarting.Earlier.of.Given as goal

-- what the journal says as far as it was read
abbrev pub invariant-loop-attempt : goal.invariant-loop-attempt
invariant-loop-attempt l = record {
  intents : (id : ℕ) → contains nat_cmp l.earlier.intents id ≡ has_intent (take l.attempt-index l.journal) id;
  receipts : (id : ℕ) → contains nat_cmp l.earlier.receipts id ≡ has_receipt (take l.attempt-index l.journal) id;
}
