-- The order and the receipt of a payment.
use Rattle.std.specs.Prelude.{◌≡◌, ℕ, List, ◌++◌, codes}
use Rattle.std.specs.Fmt.{decimal}
use Rattle.amo_example_payments.specs.declared.day.payment.Payment.{Payment}
use Rattle.amo_example_payments.specs.declared.ledger.order.Receipt.{Receipt}
use Rattle.amo_example_payments.specs.declared.bank.BankReply.{BankReply}
use Rattle.amo_example_payments.specs.declared.bank.BankReply.TheVariants.{Paid, Unpaid}

-- The receipt is of this payment, and names the job.
pub record IsReceiptOf (job : ℕ) (p : Payment) (r : Receipt) : Type 0 where
  pub job_is : r.job ≡ job
  pub id : r.id ≡ p.id
  pub account : r.account ≡ p.account
  pub cents : r.cents ≡ p.cents

-- the order of a payment to the bank: its number, its account and the amount
abbrev pub order_line : Payment → List ℕ
order_line p = codes "paid " ++ (decimal p.id ++ (codes " " ++ (decimal p.account ++ (codes " " ++ (decimal p.cents ++ codes "\n")))))

-- the reply of a bank: a receipt of this payment as this job, or the payment itself
abbrev pub Answers : ℕ → ℕ → Payment → BankReply → Type 0
Answers worker job p (Paid r) = IsReceiptOf job p r
Answers worker job p (Unpaid q) = q ≡ p
