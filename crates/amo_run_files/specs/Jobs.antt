-- Job lists: lines, each of them text, no two of them equal.
use Rattle.std.specs.Prelude.{◌≡◌, ◌≢◌, ℕ, zero, suc, ◌<◌, ◌≤◌, List, [], length, Option, None, slice_get, All, AllPairs, IsUtf8}
use Rattle.std.specs.List.{AllByRecursion}
use Rattle.amo_run_files.specs.declared.known.TheConstants.{MAX_LINE}
use Rattle.amo_run_files.specs.Lines.{lines_in, remainder_in, ends_of}
use Rattle.amo_run_files.specs.Refusals.{MayStand}

-- the line of this number, from 1
abbrev pub line_of : List (List ℕ) → ℕ → Option (List ℕ)
line_of lines zero = None
line_of lines (suc i) = slice_get lines i

-- text of 1 to `MAX_LINE` bytes, without NUL and carriage return
pub record IsLine (line : List ℕ) : Type 0 where
  pub some : 0 < length line
  pub no_nul : AllByRecursion (λ b. b ≢ 0) line
  pub no_return : AllByRecursion (λ b. b ≢ 13) line
  pub text : IsUtf8 line
  pub short : length line ≤ MAX_LINE

-- each is such text in one line, and no two are equal
pub record AreJobs (lines : List (List ℕ)) : Type 0 where
  pub each : All IsLine lines
  pub one_line : AllByRecursion (AllByRecursion (λ b. b ≢ 10)) lines
  pub distinct : AllPairs (λ one other. one ≢ other) lines

-- the bytes are lines that may stand, and end at these places
pub record AreKept (bytes places : List ℕ) : Type 0 where
  pub ends : places ≡ ends_of 0 (lines_in bytes)
  pub whole : remainder_in bytes ≡ []
  pub stand : MayStand (lines_in bytes)
