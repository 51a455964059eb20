-- Reading on: a reader keeps the last append that it read, and the place at which that append
-- begins. The reader reads that append once more, and then what follows.
use Rattle.std.specs.Prelude.{◌≡◌, ◌≢◌, ◌⊎◌, ◌<◌, ◌≤◌, ◌+◌, ◌^◌, ℕ, List, [], ◌∷◌, ◌++◌, length}
use Rattle.amo_journal.specs.Appends.{appends, checksum_after, IsDamagedAt}
use Rattle.amo_journal.specs.Texts.{AreOneLine}
use Rattle.amo_journal.specs.declared.log.ReadError.{ReadError}
use Rattle.amo_journal.specs.declared.log.ReadError.TheVariants.{Memory as NoMemory, Damaged as Misread}
use Rattle.amo_journal.specs.declared.follow.Place.{Place}
use Rattle.amo_journal.specs.declared.follow.ReadOnError.{ReadOnError}
use Rattle.amo_journal.specs.declared.follow.ReadOnError.TheVariants.{Memory, TooLong, Changed, Damaged}

-- all of these records but the last
abbrev pub all_but_last : List (List ℕ) → List (List ℕ)
all_but_last [] = []
all_but_last (records ∷ []) = []
all_but_last (records ∷ next ∷ more) = records ∷ all_but_last (next ∷ more)

-- The place is that of the last of the appends with these records, the first of them after that
-- checksum. It has the number of bytes before that append, and the append's bytes and checksum.
-- Without any append the place is at the start, and has no bytes.
pub record IsPlace (first : List ℕ) (all : List (List ℕ)) (place : Place) : Type 0 where
  pub count : place.count ≡ length all
  pub start : place.start ≡ length (appends first (all_but_last all))
  pub append : appends first all ≡ appends first (all_but_last all) ++ place.append.items
  pub checksum : place.checksum.digits ≡ checksum_after first all
  pub one_line : AreOneLine all

-- a file that has these bytes from the last of these appends on
abbrev pub file_with : List ℕ → List (List ℕ) → List ℕ → List ℕ
file_with first all bytes = appends first (all_but_last all) ++ bytes

-- The error is right about the bytes from a place on. `TooLong`: 64 bits can't count them.
-- `Changed`: they don't begin with the append of that place. `Damaged`: the whole file is damaged
-- after that append, in the append of that number and in that way.
abbrev pub IsReasonThere : ReadOnError → Place → List ℕ → Type 0
IsReasonThere Memory place bytes = Unit {0}
IsReasonThere TooLong place bytes = (2 ^ 64 ≤ place.start + length bytes) ⊎ (2 ^ 64 ≤ place.count + length bytes)
IsReasonThere Changed place bytes = (rest : List ℕ) → bytes ≢ place.append.items ++ rest
IsReasonThere (Damaged number kind) place bytes =
    (first : List ℕ) (all : List (List ℕ)) → IsPlace first all place
    → (more : List (List ℕ)) × (number ≡ length (all ++ more) + 1) × IsDamagedAt first (all ++ more) kind (file_with first all bytes)

-- the error of a file of which so many appends were read before the part with this error
abbrev pub error_behind : ℕ → ReadError → ReadOnError
error_behind count NoMemory = Memory
error_behind count (Misread number kind) = Damaged (count + number) kind

-- 64 bits can count the append of that error
abbrev pub NumberFits : ℕ → ReadError → Type 0
NumberFits count NoMemory = Unit {0}
NumberFits count (Misread number kind) = count + number < 2 ^ 64
