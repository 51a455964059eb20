-- The file of a round's words: a head, and 8 bytes for each word.
use Rattle.std.specs.Prelude.{ℕ, ◌+◌, ◌*◌}
use Rattle.amo_run_files.specs.declared.seats.RoundParams.{RoundParams}
use Rattle.amo_run_files.specs.declared.head.TheConstants.{HEAD_LEN}

-- how many words a round has
abbrev pub word_count : RoundParams → ℕ
word_count g = g.workers * (g.jobs + 3) + 1

-- at which byte this word begins
abbrev pub offset_of : ℕ → ℕ
offset_of word = HEAD_LEN + 8 * word

-- how many bytes the file has
abbrev pub words_len : RoundParams → ℕ
words_len g = offset_of (word_count g)
