-- The file `record` of a round: its record, how much of each file was on the disk, and a seal.
use Rattle.std.specs.Prelude.{◌≡◌, ◌-◌, ℕ, List, [], ◌∷◌, ◌++◌, length, map, take, drop, Option, Some, None, option_and_then, option_map, if◌then◌else◌}
use Rattle.std.specs.List.{AllByRecursion}
use Rattle.std.specs.Str.{bytes_eq}
use Rattle.amo_journal.specs.Appends.{next_checksum}
use Rattle.amo_run_log.specs.Texts.{ended}
use Rattle.amo_run_log.specs.Numbers.{read_all}
use Rattle.amo_run_files.specs.declared.round_file.RoundFile.{RoundFile}
use Rattle.amo_run_files.specs.declared.round_file.TheConstants.{EXTENTS, SEAL_LEN}
use Rattle.amo_run_files.specs.Records.{RecordView, IsRecord, said_by, texts_of, texts_from, record_of}
use Rattle.amo_run_files.specs.Extents.{ExtentView, IsExtent, extent_said, text_of_extent, extent_in}

-- a round's file, with lists for vectors
pub record RoundFileView : Type 0 where
  pub header : RecordView
  pub extents : List ExtentView

-- what a round's file says
abbrev pub file_said : RoundFile → RoundFileView
file_said f = record { header = said_by f.header; extents = map extent_said f.extents.items }

-- its lines before the seal
abbrev pub body_texts : RoundFileView → List (List ℕ)
body_texts f = texts_of f.header ++ map text_of_extent f.extents

-- the line that seals a text: the checksum that follows this one at an append with the text, and a
-- line feed
abbrev pub seal_line : List ℕ → List ℕ → List ℕ
seal_line first body = next_checksum first body ++ 10 ∷ []

-- the text of a round's file
abbrev pub text_of_round_file : List ℕ → RoundFileView → List ℕ
text_of_round_file first f = ended (body_texts f) ++ seal_line first (ended (body_texts f))

-- its record is one, and so is each of its `EXTENTS` extents
pub record IsRoundFile (f : RoundFileView) : Type 0 where
  pub header : IsRecord f.header
  pub extents : AllByRecursion IsExtent f.extents
  pub many : length f.extents ≡ EXTENTS

-- what stands before the last `SEAL_LEN` bytes, if they are the line that seals it
abbrev pub body_in : List ℕ → List ℕ → Option (List ℕ)
body_in first file =
    if bytes_eq (drop (length file - SEAL_LEN) file) (seal_line first (take (length file - SEAL_LEN) file)) then Some (take (length file - SEAL_LEN) file) else None

-- what the texts say: the last `EXTENTS` of them an extent each, and those before them the record
abbrev pub round_of : List (List ℕ) → Option RoundFileView
round_of texts =
    option_and_then (λ h. option_map (λ es. record { header = h; extents = es })
    (read_all extent_in (drop (length texts - EXTENTS) texts))) (record_of (take (length texts - EXTENTS) texts))

-- what a file says
abbrev pub round_file_in : List ℕ → List ℕ → Option RoundFileView
round_file_in first file = option_and_then (λ body. option_and_then round_of (texts_from body [])) (body_in first file)
