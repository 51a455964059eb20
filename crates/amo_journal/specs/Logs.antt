-- A reader's result: the appends of a journal, or the reason why they aren't read.
use Rattle.std.specs.Prelude.{◌≡◌, ◌+◌, ℕ, List, [], ◌∷◌, length, map, Vec}
use Rattle.amo_journal.specs.Appends.{IsDamagedAt, next_checksum}
use Rattle.std.specs.declared.alloc.Global.{Global}
use Rattle.amo_journal.specs.declared.checksum.Checksum.{Checksum}
use Rattle.amo_journal.specs.declared.log.ReadError.{ReadError}
use Rattle.amo_journal.specs.declared.log.ReadError.TheVariants.{Memory, Damaged}

-- the bytes of these records
abbrev pub records_of : List (Vec ℕ Global) → List (List ℕ)
records_of read = map (λ records. records.items) read

-- the digits of these checksums
abbrev pub checksums_of : List Checksum → List (List ℕ)
checksums_of read = map (λ checksum. checksum.digits) read

-- the checksums of appends with these records, the first of them after that checksum
abbrev pub checksums_from : List ℕ → List (List ℕ) → List (List ℕ)
checksums_from checksum [] = []
checksums_from checksum (records ∷ more) = next_checksum checksum records ∷ checksums_from (next_checksum checksum records) more

-- The error says of the file that it is damaged there; out of memory says nothing.
abbrev pub IsReason : ReadError → List ℕ → List ℕ → Type 0
IsReason Memory checksum file = Unit {0}
IsReason (Damaged number kind) checksum file = (records : List (List ℕ)) × (number ≡ length records + 1) × IsDamagedAt checksum records kind file
