-- The report of a day.
use Rattle.std.specs.Prelude.{◌≡◌, ◌⊎◌, ℕ, true, List, [], ◌++◌, map, filter, All, Option, Some, IfSome, length, codes}
use Rattle.std.specs.List.{flat_map}
use Rattle.std.specs.Io.KnownBytes.{Appends, Keeps}
use Rattle.amo_mailbox.specs.declared.output.Output.{Output}
use Rattle.amo_run_log.specs.declared.journal.Attempt.{Attempt}
use Rattle.amo_example_payments.specs.declared.day.Day.{Day}
use Rattle.amo_example_payments.specs.declared.day.payment.Payment.{Payment}
use Rattle.amo_example_payments.specs.declared.bank.BankReply.{BankReply}
use Rattle.amo_example_payments.specs.declared.bank.BankReply.TheVariants.{Paid, Unpaid}
use Rattle.amo_example_payments.specs.declared.rounds.Crew.{Crew}
use Rattle.amo_example_payments.specs.declared.second.Leftover.{Leftover}
use Rattle.amo_example_payments.specs.declared.sorting.Sorted.{Sorted}
use Rattle.amo_example_payments.specs.Days.{IsDayOf, is_ended}
use Rattle.amo_io.specs.Streams.{AppendsFront}
use Rattle.amo_example_payments.specs.Lines.{line}
use Rattle.amo_example_payments.specs.Payments.{Answers}
use Rattle.amo_example_payments.specs.Restarts.{journal_in, was_made, is_in_doubt, is_untried}
use Rattle.amo_example_payments.specs.Rounds.{IsRound}
use Rattle.amo_example_payments.specs.Second.{IsLeftover}

-- a line of this word for each payment
abbrev pub lines_of : List ℕ → List Payment → List ℕ
lines_of word payments = flat_map (λ p. line word p.id) payments

-- the line of each payment of which there is a receipt
abbrev pub done_line : BankReply → List ℕ
done_line (Paid r) = line (codes "done") r.id
done_line (Unpaid p) = []

-- the line of an answer: `done` with a receipt, and `doubt` without
abbrev pub answer_line : BankReply → List ℕ
answer_line (Paid r) = line (codes "done") r.id
answer_line (Unpaid p) = line (codes "doubt") p.id

-- a line for each answer
abbrev pub answer_lines : List (Output BankReply) → List ℕ
answer_lines outputs = flat_map (λ x. answer_line x.out) outputs

-- a line for each answer with a receipt
abbrev pub done_lines : List (Output BankReply) → List ℕ
done_lines outputs = flat_map (λ x. done_line x.out) outputs

-- a line for each job that is in doubt, with its payment's number
abbrev pub doubt_lines : List (ℕ × ℕ) → List ℕ
doubt_lines in_doubt = flat_map (λ t. line (codes "doubt") t.1) in_doubt

-- what is written of a round: a line for each payment that is not free
abbrev pub round_text : Sorted → List ℕ
round_text s = done_lines s.answers.items ++ doubt_lines s.in_doubt.items

-- what is written of a floor of one worker
abbrev pub leftover_text : Leftover Payment BankReply → List ℕ
leftover_text r = answer_lines r.outputs.items

-- the payments that come with these jobs
abbrev pub payments_of : List (ℕ × Payment) → List Payment
payments_of free = map (λ t. t.1) free

-- The result of payments that went onto floors, one floor after the other. `rest` are the payments
-- that no floor had. `free` are those that a floor gave back since nobody began them. `text` is the
-- report on all floors.
pub record AreFloors {X : Type 0} (Is : List Payment → X → Type 0) (free_in : X → List (ℕ × Payment)) (text_of : X → List ℕ) (payments rest free : List Payment) (text : List ℕ) : Type 0 where
  pub floors : List (List Payment × X)
  pub whole : payments ≡ flat_map (λ f. f.0) floors ++ rest
  pub each : All (λ f. Is f.0 f.1) floors
  pub free_is : free ≡ flat_map (λ f. payments_of (free_in f.1)) floors
  pub text_is : text ≡ flat_map (λ f. text_of f.1) floors

-- in rounds of this crew
abbrev pub ArePaid : Crew → List Payment → List Payment → List Payment → List ℕ → Type 0
ArePaid crew payments rest free text = AreFloors (IsRound crew) (λ s. s.free.items) round_text payments rest free text

-- on floors of one worker
abbrev pub AreTried : List Payment → List Payment → List Payment → List ℕ → Type 0
AreTried payments rest free text = AreFloors (IsLeftover Answers) (λ r. r.free.items) leftover_text payments rest free text

-- Some floors took payments off this list, and what they gave back was added to that one: their
-- text was written.
abbrev pub TellsNext : (List Payment → List Payment → List Payment → List ℕ → Type 0) → List Payment → List Payment → List Payment → List Payment → Option (List ℕ) → Option (List ℕ) → Type 0
TellsNext Are payments rest free more old new = (added : List Payment) × (text : List ℕ) × (more ≡ free ++ added) × Are payments rest added text × Appends old new text

-- A beginning of the text of some floors was written.
abbrev pub TellsPart : (List Payment → List Payment → List Payment → List ℕ → Type 0) → List Payment → Option (List ℕ) → Option (List ℕ) → Type 0
TellsPart Are payments old new = (rest : List Payment) × (free : List Payment) × (text : List ℕ) × Are payments rest free text × AppendsFront old new text

-- The report of a day. It begins with `before` and `doubt` for the payments that earlier runs have
-- made or begun, by their journal. Then it has the results of the others in rounds, and then on
-- floors of one worker. It ends with `free` for each payment that is left. Of the untried payments
-- `waiting` came onto no round. `late` are those that nobody began there and that came onto no
-- floor of one worker.
pub record IsReport (day : Day) (journal : List Attempt) (waiting late : List Payment) (text : List ℕ) : Type 0 where
  pub free : List Payment
  pub left : List Payment
  pub rounds_text : List ℕ
  pub floors_text : List ℕ
  pub rounds : ArePaid day.crew (filter (is_untried journal) day.payments.items) waiting free rounds_text
  pub floors : AreTried free late left floors_text
  pub text_is : text ≡ lines_of (codes "before") (filter (was_made journal) day.payments.items)
      ++ (lines_of (codes "doubt") (filter (is_in_doubt journal) day.payments.items)
      ++ (rounds_text ++ (floors_text ++ lines_of (codes "free") left)))

-- In the text stands the line of this word and this number: before it the text is empty, or a line
-- has ended.
pub record HasLine (text word : List ℕ) (id : ℕ) : Type 0 where
  pub before : List ℕ
  pub after : List ℕ
  pub ended : is_ended before ≡ true
  pub text_is : text ≡ before ++ (line word id ++ after)

-- the payment has a line there that says what became of it
abbrev pub IsTold : List ℕ → Payment → Type 0
IsTold text p = HasLine text (codes "before") p.id ⊎ (HasLine text (codes "done") p.id ⊎ (HasLine text (codes "doubt") p.id ⊎ HasLine text (codes "free") p.id))

-- the report of a day, whole: each payment has a line in it
abbrev pub Reports : Day → List Attempt → Option (List ℕ) → Option (List ℕ) → Type 0
Reports day journal old new = (text : List ℕ) × IsReport day journal [] [] text × All (IsTold text) day.payments.items × Appends old new text

-- a beginning of the report of what became of some of it
abbrev pub ReportsFront : Day → List Attempt → Option (List ℕ) → Option (List ℕ) → Type 0
ReportsFront day journal old new = (waiting : List Payment) × (late : List Payment) × (text : List ℕ) × IsReport day journal waiting late text × AppendsFront old new text

-- the input says a day, and the file is a journal of it, which says this
abbrev pub IsBegunBy : Option (List ℕ) → List ℕ → Day → List Attempt → Type 0
IsBegunBy input file day journal = IfSome input (λ text. IsDayOf text day) × (journal_in (length day.payments.items) file ≡ Some journal)

-- so it is, and the report was written, whole
abbrev pub IsServed : Option (List ℕ) → List ℕ → Option (List ℕ) → Option (List ℕ) → Type 0
IsServed input file old new = (day : Day) × (journal : List Attempt) × IsBegunBy input file day journal × Reports day journal old new

-- nothing was written, or it is so, and a beginning of the report was written
abbrev pub IsBegun : Option (List ℕ) → List ℕ → Option (List ℕ) → Option (List ℕ) → Type 0
IsBegun input file old new = Keeps old new ⊎ ((day : Day) × (journal : List Attempt) × IsBegunBy input file day journal × ReportsFront day journal old new)
