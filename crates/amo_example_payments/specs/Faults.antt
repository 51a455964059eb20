-- The faults that end a day early, by what they are of.
use Rattle.std.specs.Prelude.{◌≡◌, ◌⊎◌, ℕ, Bool, true, false, ◌||◌, List, Some}
use Rattle.amo_journal.specs.declared.device.DeviceError.{DeviceError}
use Rattle.amo_journal.specs.declared.device.DeviceError.TheVariants.{Memory as NoMemory, Failed}
use Rattle.amo_journal.specs.Appends.{records_in}
use Rattle.amo_journal.specs.declared.journal.RecoverError.{RecoverError}
use Rattle.amo_journal.specs.declared.journal.RecoverError.TheVariants.{Device as OfDevice, Damaged as OfDamage}
use Rattle.amo_run_log.specs.declared.entry.Entry.{Entry as LedgerEntry}
use Rattle.amo_run_log.specs.declared.fault.Fault.{Fault as LedgerFault}
use Rattle.amo_run_log.specs.declared.fault.Fault.TheVariants.{Memory as NoMemoryToRead, Refused}
use Rattle.amo_run_log.specs.Entries.{append_in}
use Rattle.amo_run_log.specs.Faults.{SaysNothing}
use Rattle.amo_run_log.specs.Journals.{IsRefused}
use Rattle.amo_run_log.specs.Puts.{entries_of}
use Rattle.amo_example_payments.specs.declared.fault.Fault.{Fault}
use Rattle.amo_example_payments.specs.declared.fault.Fault.TheVariants.{Line, Input, Crew, Journal, Damaged, Entry, Output, Memory, Unsettled}
use Rattle.amo_example_payments.specs.declared.rounds.RoundFault.{RoundFault}
use Rattle.amo_example_payments.specs.declared.rounds.RoundFault.TheVariants.{Unpaid, Unsettled as UnsettledRound, Unsorted}
use Rattle.amo_example_payments.specs.declared.second.LeftoverFault.{LeftoverFault}
use Rattle.amo_example_payments.specs.declared.second.LeftoverFault.TheVariants.{Untried, Unhired, Unsettled as UnsettledLeftover}

-- the fault of a round that gave nothing
abbrev pub fault_of_round : RoundFault → Fault
fault_of_round (Unpaid back) = Memory
fault_of_round (UnsettledRound rest) = Unsettled
fault_of_round (Unsorted outcome) = Unsettled

-- the fault of a floor of one worker that gave nothing
abbrev pub fault_of_leftover : {P Out : Type 0} → LeftoverFault P Out → Fault
fault_of_leftover (Untried back) = Memory
fault_of_leftover (Unhired floor book) = Memory
fault_of_leftover (UnsettledLeftover floor book outputs) = Unsettled

-- the fault of a journal whose disk gave no answer
abbrev pub fault_of_device : DeviceError → Fault
fault_of_device NoMemory = Memory
fault_of_device Failed = Journal

-- the fault of a journal that wasn't recovered
abbrev pub fault_of_recovery : RecoverError → Fault
fault_of_recovery (OfDevice fault) = fault_of_device fault
fault_of_recovery (OfDamage number kind) = Damaged number kind

-- the fault of a journal that was read
abbrev pub fault_of_reading : LedgerFault → Fault
fault_of_reading NoMemoryToRead = Memory
fault_of_reading (Refused number) = Entry number

-- In the file of a journal the append of this number says no entries. Or the entry of this number
-- may not follow those before it, of a day of so many payments.
abbrev pub IsRefusedIn : ℕ → List ℕ → ℕ → Type 0
IsRefusedIn lines file number = SaysNothing append_in (records_in file) (Refused number)
    ⊎ ((entries : List LedgerEntry) × (entries_of file ≡ Some entries) × IsRefused lines entries (Refused number))

-- the input says no day
abbrev pub is_of_input : Fault → Bool
is_of_input Line = true
is_of_input Input = true
is_of_input Crew = true
is_of_input fault = false

-- the journal can't be read, or is that of another day
abbrev pub is_of_journal : Fault → Bool
is_of_journal Journal = true
is_of_journal (Damaged n kind) = true
is_of_journal (Entry n) = true
is_of_journal fault = false

-- nothing was written yet
abbrev pub is_early : Fault → Bool
is_early fault = is_of_input fault || is_of_journal fault

-- reading a day can end with it: the input says none, or there was no memory
abbrev pub IsOfReading : Fault → Type 0
IsOfReading fault = (is_of_input fault ≡ true) ⊎ (fault ≡ Memory)

-- opening its journal can end with it
abbrev pub IsOfOpening : Fault → Type 0
IsOfOpening fault = (is_of_journal fault ≡ true) ⊎ (fault ≡ Memory)

-- recovering its journal can end with it
abbrev pub is_of_recovery : Fault → Bool
is_of_recovery Journal = true
is_of_recovery (Damaged n kind) = true
is_of_recovery Memory = true
is_of_recovery fault = false

-- writing a text can end with it
abbrev pub IsOfTelling : Fault → Type 0
IsOfTelling fault = (fault ≡ Output) ⊎ (fault ≡ Memory)

-- paying can end with it: what was read is no matter there
abbrev pub IsOfPaying : Fault → Type 0
IsOfPaying fault = is_early fault ≡ false
