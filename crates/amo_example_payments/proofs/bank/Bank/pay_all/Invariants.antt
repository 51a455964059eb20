-- The facts that each pass of a loop of `Bank::pay_all` keeps.
use Rattle.std.proofs.Common.{[], vec_len}
use Rattle.amo_example_payments.specs.Reports.{ArePaid, TellsNext}
use Rattle.amo_example_payments.proofs.bank.Bank.pay_all.Given as goal

abbrev pub invariant-paying : goal.invariant-paying
invariant-paying g l = TellsNext (ArePaid l.crew) l.fn.payments.items l.payments.items [] l.free.items (g.O.Write.contents l.fn.out) (g.O.Write.contents l.out)

abbrev pub decreases-paying : goal.decreases-paying
decreases-paying g l = vec_len l.payments
