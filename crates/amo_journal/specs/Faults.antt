-- The errors of a journal, and what each says of the file.
use Rattle.std.specs.Prelude.{ℕ, List}
use Rattle.amo_journal.specs.declared.device.DeviceError.TheVariants.{Memory}
use Rattle.amo_journal.specs.declared.log.ReadError.{ReadError}
use Rattle.amo_journal.specs.declared.log.ReadError.TheVariants.{Memory as NoMemory, Damaged as Misread}
use Rattle.amo_journal.specs.declared.journal.RecoverError.{RecoverError}
use Rattle.amo_journal.specs.declared.journal.RecoverError.TheVariants.{Device, Damaged}
use Rattle.amo_journal.specs.Logs.{IsReason}

-- what such an error says of a file: that it is damaged there
abbrev pub IsCause : RecoverError → List ℕ → List ℕ → Type 0
IsCause (Device fault) checksum file = Unit {0}
IsCause (Damaged number kind) checksum file = IsReason (Misread number kind) checksum file

-- the error of a journal that wasn't read
abbrev pub recover_error_of : ReadError → RecoverError
recover_error_of NoMemory = Device Memory
recover_error_of (Misread number kind) = Damaged number kind

-- the error is damage
abbrev pub IsDamage : RecoverError → Type 0
IsDamage (Device fault) = ⊥
IsDamage (Damaged number kind) = Unit {0}
