-- The bytes that may be on the disk instead of those that are read of a journal.
use Rattle.std.specs.Prelude.{◌≡◌, ◌≢◌, ◌⊎◌, ◌≤◌, ℕ, List, [], ◌∷◌, ◌++◌, length}
use Rattle.amo_journal.specs.Appends.{IsCutOff, IsLog, checksum_after, lines_from, records_in}
use Rattle.amo_journal.specs.Device.{Only}
use Rattle.amo_journal.specs.Texts.{AreOneLine, texts_in, blocks, at_rest}
use Rattle.amo_journal.specs.declared.journal.Journal.{Journal}

-- the file has the blocks of these texts, with the gate of the last one closed, and then bytes that
-- count for nothing
pub record IsShut (texts : List (List ℕ)) (file : List ℕ) : Type 0 where
  pub before : List (List ℕ)
  pub last : List ℕ
  pub gate : ℕ
  pub end : List ℕ
  pub texts_are : texts ≡ before ++ last ∷ []
  pub closed : gate ≢ 43
  pub file_is : file ≡ blocks before ++ (gate ∷ last ++ 10 ∷ end)
  pub nothing : texts_in end ≡ []

-- the file stands for these texts, with its last gate as it is or once that is opened
abbrev pub IsNear : List (List ℕ) → List ℕ → Type 0
IsNear texts file = (texts_in file ≡ texts) ⊎ IsShut texts file

-- the file stands for these texts, or its last gate is closed, as that of some outcome was
abbrev pub StaysNear : (List ℕ → Type 0) → List (List ℕ) → List ℕ → Type 0
StaysNear outcomes texts file = (texts_in file ≡ texts) ⊎ (IsShut texts file × ((c : List ℕ) × outcomes c × IsShut texts c))

-- the place of the last gate
pub record IsLastGate (texts : List (List ℕ)) (i : ℕ) : Type 0 where
  pub before : List (List ℕ)
  pub last : List ℕ
  pub texts_are : texts ≡ before ++ last ∷ []
  pub place : i ≡ length (blocks before)

-- that place, or one after the blocks
abbrev pub IsUnsure : List (List ℕ) → ℕ → Type 0
IsUnsure texts i = IsLastGate texts i ⊎ (length (blocks texts) ≤ i)

-- The disk has each of these texts, but the gate of the last one may be closed there, and no sync
-- need have failed for it.
pub record MayRecover {D : Type 0} (seen : D → List ℕ) (may_leave : D → List ℕ → Type 0) (stale : D → ℕ → Type 0) (device : D) : Type 0 where
  pub near : (c : List ℕ) → may_leave device c → IsNear (texts_in (seen device)) c
  pub unsure : (i : ℕ) → stale device i → IsUnsure (texts_in (seen device)) i

-- the file is whole blocks and a closed gate, all of it on the disk
pub record IsAtRest {D : Type 0} (seen : D → List ℕ) (may_leave : D → List ℕ → Type 0) (stale : D → ℕ → Type 0) (device : D) : Type 0 where
  pub file : seen device ≡ at_rest (texts_in (seen device))
  pub durable : Only (seen device) (may_leave device)
  pub fresh : (i : ℕ) → stale device i → ⊥

-- the file is the blocks of its texts, and then at most what a crash may leave
pub record IsWhole (file : List ℕ) : Type 0 where
  pub end : List ℕ
  pub file_is : file ≡ blocks (texts_in file) ++ end
  pub cut_off : IsCutOff end

-- each of these outcomes is so
abbrev pub AllWhole : (List ℕ → Type 0) → Type 0
AllWhole outcomes = (c : List ℕ) → outcomes c → IsWhole c

-- The journal's file is so, and the journal knows the place of the closed commit byte and the last
-- checksum. The appends are chained from its first checksum on.
pub record IsRecovered {D : Type 0} (seen : D → List ℕ) (may_leave : D → List ℕ → Type 0) (stale : D → ℕ → Type 0) (journal : Journal D) : Type 0 where
  pub file : IsAtRest seen may_leave stale journal.device
  pub gate : journal.gate ≡ length (blocks (texts_in (seen journal.device)))
  pub chained : texts_in (seen journal.device) ≡ lines_from journal.first.digits (records_in (seen journal.device))
  pub last : journal.last.digits ≡ checksum_after journal.first.digits (records_in (seen journal.device))
  pub one_line : AreOneLine (records_in (seen journal.device))

-- the file stands for the texts, with one more or without it
abbrev pub IsBeforeOrAfter : List (List ℕ) → List ℕ → List ℕ → Type 0
IsBeforeOrAfter texts text file = (texts_in file ≡ texts) ⊎ (texts_in file ≡ texts ++ text ∷ [])

-- the file stands for the texts, or for all but the last one
abbrev pub HasAllOrAllButLast : List (List ℕ) → List ℕ → Type 0
HasAllOrAllButLast texts file = (texts_in file ≡ texts) ⊎ ((last : List ℕ) × (texts ≡ texts_in file ++ last ∷ []))

-- the file has these appends, with one more or without it
abbrev pub HasOneMoreOrNot : List ℕ → List (List ℕ) → List ℕ → List ℕ → Type 0
HasOneMoreOrNot first all records file = IsLog first all file ⊎ IsLog first (all ++ records ∷ []) file

-- the file has these appends, or all but the last one
abbrev pub HasAllOrNotTheLast : List ℕ → List (List ℕ) → List ℕ → Type 0
HasAllOrNotTheLast first all file = IsLog first all file ⊎ ((before : List (List ℕ)) × (last : List ℕ) × (all ≡ before ++ last ∷ []) × IsLog first before file)

-- the last of the texts has so many bytes
abbrev pub HasLast : ℕ → List (List ℕ) → Type 0
HasLast n texts = (before : List (List ℕ)) × (last : List ℕ) × (texts ≡ before ++ last ∷ []) × (n ≡ length last)
