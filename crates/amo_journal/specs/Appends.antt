-- A journal's file: appends, each with a checksum that chains it to all before it, and what a crash
-- may leave after the last one.
use Rattle.std.specs.Prelude.{◌≡◌, ◌≢◌, ◌⊎◌, ◌≤◌, ℕ, List, [], ◌∷◌, ◌++◌, length, map, take, ◌-◌, ◌==◌, Option, Some, None, if◌then◌else◌}
use Rattle.sha2.specs.Sha256.{sha256}
use Rattle.hex.specs.Hex.{encode_lower}
use Rattle.amo_journal.specs.Texts.{IsOneLine, AreOneLine, texts_in}
use Rattle.amo_journal.specs.declared.log.DamageKind.{DamageKind}
use Rattle.amo_journal.specs.declared.log.DamageKind.TheVariants.{CommitByte, Unfinished, Checksum, Surplus}

-- the first 8 hex digits of the SHA-256 of these bytes
abbrev pub checksum_of : List ℕ → List ℕ
checksum_of bytes = take 8 (encode_lower (sha256 bytes))

-- the checksum with these digits, if there are 8
abbrev pub checksum_in : List ℕ → Option (List ℕ)
checksum_in digits = if length digits == 8 then Some digits else None

-- the checksum that stands for the one before the first append: of the run's id, a blank and the
-- file's name, so that no journal is taken for another
abbrev pub first_checksum : List ℕ → List ℕ → List ℕ
first_checksum id name = checksum_of (id ++ 32 ∷ name)

-- the checksum of an append with these records after one with that checksum
abbrev pub next_checksum : List ℕ → List ℕ → List ℕ
next_checksum checksum records = checksum_of (checksum ++ records)

-- the checksum of the last of these appends
abbrev pub checksum_after : List ℕ → List (List ℕ) → List ℕ
checksum_after checksum [] = checksum
checksum_after checksum (records ∷ more) = checksum_after (next_checksum checksum records) more

-- the line of an append: its records, a blank, its checksum
abbrev pub line_of : List ℕ → List ℕ → List ℕ
line_of checksum records = records ++ 32 ∷ next_checksum checksum records

-- the bytes of these appends: of each an open commit byte, `+`, its line, and a line feed
abbrev pub appends : List ℕ → List (List ℕ) → List ℕ
appends checksum [] = []
appends checksum (records ∷ more) = 43 ∷ line_of checksum records ++ 10 ∷ appends (next_checksum checksum records) more

-- the lines of these appends
abbrev pub lines_from : List ℕ → List (List ℕ) → List (List ℕ)
lines_from checksum [] = []
lines_from checksum (records ∷ more) = line_of checksum records ∷ lines_from (next_checksum checksum records) more

-- the records of each append of a file: its lines without their last 9 bytes, the blank and the
-- checksum
abbrev pub records_in : List ℕ → List (List ℕ)
records_in file = map (λ line. take (length line - 9) line) (texts_in file)

-- how many bytes an append has at most after its commit byte, with its line feed and the closed
-- commit byte that is written with it
abbrev pub longest : ℕ
longest = 1024

-- what a crash leaves of the commit byte that follows an append: nothing, or that byte, closed or
-- not written
abbrev pub IsNextByte : List ℕ → Type 0
IsNextByte [] = Unit {0}
IsNextByte (b ∷ []) = (b ≡ 45) ⊎ (b ≡ 0)
IsNextByte (b ∷ c ∷ rest) = ⊥

-- A crash may leave these bytes of an append after a commit byte that stands closed. They are no
-- more than the longest append has. They have one line feed at most, and after it at most the next
-- commit byte.
abbrev pub IsCutOffAppend : List ℕ → Type 0
IsCutOffAppend bytes = (length bytes ≤ longest)
    × (IsOneLine bytes ⊎ ((line : List ℕ) × (next : List ℕ) × (bytes ≡ line ++ 10 ∷ next) × IsOneLine line × IsNextByte next))

-- A crash may leave these bytes after the last append. There may be none, or one byte that is no
-- open commit byte. Or there is a closed commit byte, `-`, with an append that was cut off.
abbrev pub IsCutOff : List ℕ → Type 0
IsCutOff [] = Unit {0}
IsCutOff (b ∷ []) = b ≢ 43
IsCutOff (b ∷ c ∷ rest) = (b ≡ 45) × IsCutOffAppend (c ∷ rest)

-- The file has these appends, the first of them after that checksum, and then at most what a crash
-- may leave.
pub record IsLog (checksum : List ℕ) (records : List (List ℕ)) (file : List ℕ) : Type 0 where
  pub end : List ℕ
  pub file_is : file ≡ appends checksum records ++ end
  pub cut_off : IsCutOff end
  pub one_line : AreOneLine records

-- The bytes follow an append with that checksum, and are neither an append nor an end.
-- `CommitByte`: they begin with another byte than a commit byte, and have more. `Unfinished`: an
-- open commit byte without a whole line. `Checksum`: a line with another checksum. `Surplus`: a
-- closed commit byte, and then more than a crash leaves.
abbrev pub IsWrong : DamageKind → List ℕ → List ℕ → Type 0
IsWrong CommitByte checksum [] = ⊥
IsWrong CommitByte checksum (b ∷ []) = ⊥
IsWrong CommitByte checksum (b ∷ c ∷ rest) = (b ≢ 43) × (b ≢ 45)
IsWrong Unfinished checksum rest = (line : List ℕ) × (rest ≡ 43 ∷ line) × IsOneLine line
IsWrong Checksum checksum rest = (line : List ℕ) × (more : List ℕ) × (rest ≡ 43 ∷ line ++ 10 ∷ more) × IsOneLine line × ((records : List ℕ) → line ≢ line_of checksum records)
IsWrong Surplus checksum rest = (more : List ℕ) × (rest ≡ 45 ∷ more) × (IsCutOffAppend more → ⊥)

-- The file has these appends and then such a wrong.
pub record IsDamagedAt (checksum : List ℕ) (records : List (List ℕ)) (kind : DamageKind) (file : List ℕ) : Type 0 where
  pub rest : List ℕ
  pub file_is : file ≡ appends checksum records ++ rest
  pub one_line : AreOneLine records
  pub wrong : IsWrong kind (checksum_after checksum records) rest
