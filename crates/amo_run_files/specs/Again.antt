-- A jobs' file that is read again.
use Rattle.std.specs.Prelude.{ℕ, Bool, ◌&&◌, ◌||◌, not, nat_le, List, length, take, drop, ◌==◌}
use Rattle.std.specs.Str.{bytes_eq}
use Rattle.amo_run_files.specs.Refusals.{has_byte}

-- whether nothing stands there; if it is cut off, whether nothing with an end stands there
abbrev pub has_no_line : List ℕ → Bool → Bool
has_no_line rest cut = (length rest == 0) || (cut && not (has_byte 10 rest))

-- whether a file is these lines with their ends, and nothing follows but what is cut off
abbrev pub is_all_of : List ℕ → List ℕ → Bool → Bool
is_all_of lines file cut = nat_le (length lines) (length file) && (bytes_eq (take (length lines) file) lines && has_no_line (drop (length lines) file) cut)
