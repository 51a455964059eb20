-- Which line of a jobs' file is refused, and why.
use Rattle.std.specs.Prelude.{◌≡◌, ℕ, ◌-◌, ◌<◌, ◌≤◌, Bool, ◌||◌, not, nat_lt, ◌==◌, List, [], length, take, slice_index_or, Option, Some, None, if◌then◌else◌}
use Rattle.std.specs.List.{list_any}
use Rattle.std.specs.Option.{option_or}
use Rattle.std.specs.Str.{bytes_eq, is_utf8}
use Rattle.amo_run_files.specs.declared.fault.JobsFault.{JobsFault}
use Rattle.amo_run_files.specs.declared.fault.JobsFault.TheVariants.{Memory, Refused}
use Rattle.amo_run_files.specs.declared.fault.Why.{Why}
use Rattle.amo_run_files.specs.declared.fault.Why.TheVariants.{Empty, Nul, CarriageReturn, NotText, TooLong, Repeated, NoEnd}
use Rattle.amo_run_files.specs.declared.known.TheConstants.{MAX_LINE}
use Rattle.amo_run_files.specs.Lines.{lines_in, remainder_in}

-- whether the line has this byte
abbrev pub has_byte : ℕ → List ℕ → Bool
has_byte byte line = list_any (λ b. b == byte) line

-- what is wrong with a line, whatever stands before it
abbrev pub wrong_with : List ℕ → Option Why
wrong_with line =
    if length line == 0 then Some Empty
    else (if has_byte 0 line then Some Nul
    else (if has_byte 13 line then Some CarriageReturn
    else (if not (is_utf8 line) then Some NotText
    else (if nat_lt MAX_LINE (length line) then Some TooLong
    else None))))

-- the reason that a line may not follow these lines, if it may not
abbrev pub why_not : List (List ℕ) → List ℕ → Option Why
why_not before line = option_or (wrong_with line) (if list_any (bytes_eq line) before then Some Repeated else None)

-- the reason that the bytes after the last line feed, and after these lines, are refused, if they
-- are. They have no end, unless something else is wrong with them. They are not refused if they are
-- empty or cut off
abbrev pub why_remainder : List (List ℕ) → List ℕ → Bool → Option Why
why_remainder lines rest cut = if cut || (length rest == 0) then None else option_or (why_not lines rest) (Some NoEnd)

-- the reason that the line at this index of a file is refused, if it is; the remainder follows the
-- last line
abbrev pub why_at : List ℕ → Bool → ℕ → Option Why
why_at file cut k =
    if nat_lt k (length (lines_in file)) then why_not (take k (lines_in file)) (slice_index_or (lines_in file) k [])
    else why_remainder (lines_in file) (remainder_in file) cut

-- no line of the file is refused, and neither is the remainder
abbrev pub IsTaken : List ℕ → Bool → Type 0
IsTaken file cut = (k : ℕ) → k ≤ length (lines_in file) → why_at file cut k ≡ None

-- the line of this number, from 1, is refused, for this, and none before it
abbrev pub IsRefused : List ℕ → Bool → JobsFault → Type 0
IsRefused file cut Memory = Unit {0}
IsRefused file cut (Refused number why) =
    (1 ≤ number) × (number - 1 ≤ length (lines_in file)) × (why_at file cut (number - 1) ≡ Some why) × ((k : ℕ) → k < number - 1 → why_at file cut k ≡ None)

-- each line may follow those before it
abbrev pub MayStand : List (List ℕ) → Type 0
MayStand lines = (k : ℕ) → k < length lines → why_not (take k lines) (slice_index_or lines k []) ≡ None

-- of these lines the one of this number, from 1, may not, for this, and each before it may
abbrev pub IsFirstRefused : List (List ℕ) → JobsFault → Type 0
IsFirstRefused lines Memory = Unit {0}
IsFirstRefused lines (Refused number why) =
    (1 ≤ number) × (number - 1 < length lines) × (why_not (take (number - 1) lines) (slice_index_or lines (number - 1) []) ≡ Some why)
    × ((k : ℕ) → k < number - 1 → why_not (take k lines) (slice_index_or lines k []) ≡ None)
