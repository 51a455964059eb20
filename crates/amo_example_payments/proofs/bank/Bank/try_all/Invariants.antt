-- The facts that each pass of a loop of `Bank::try_all` keeps.
use Rattle.std.proofs.Common.{[], vec_len}
use Rattle.amo_example_payments.specs.Reports.{AreTried, TellsNext}
use Rattle.amo_example_payments.proofs.bank.Bank.try_all.Given as goal

abbrev pub invariant-trying : goal.invariant-trying
invariant-trying g l = TellsNext AreTried l.fn.payments.items l.payments.items [] l.left.items (g.O.Write.contents l.fn.out) (g.O.Write.contents l.out)

abbrev pub decreases-trying : goal.decreases-trying
decreases-trying g l = vec_len l.payments
