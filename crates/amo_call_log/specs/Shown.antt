-- Texts as a line of the log shows them: as they are, or by their length and SHA-256.
use Rattle.std.specs.Prelude.{ℕ, ◌-◌, ◌==◌, ◌&&◌, Bool, nat_le, List, [], ◌∷◌, ◌++◌, codes, length, slice_get, Option, Some, None, if◌then◌else◌}
use Rattle.std.specs.Fmt.{decimal}
use Rattle.std.specs.List.{flat_map, list_all}
use Rattle.std.specs.Option.{option_map_or}
use Rattle.std.specs.Str.{is_utf8}
use Rattle.hex.specs.Hex.{encode_lower}
use Rattle.sha2.specs.Sha256.{sha256}
use Rattle.amo_run_log.specs.Journals.{attempts_in}
use Rattle.amo_run_log.specs.Numbers.{by_word}
use Rattle.amo_run_log.specs.declared.journal.Attempt.{Attempt}
use Rattle.amo_call_log.specs.declared.shown.TheConstants.{LONGEST, MOST_LINES}

-- the byte is a blank, or one that ASCII prints
abbrev pub is_printed : ℕ → Bool
is_printed byte = nat_le 32 byte && nat_le byte 126

-- the text may stand in a line as it is
abbrev pub is_plain : List ℕ → Bool
is_plain text = nat_le (length text) LONGEST && list_all is_printed text

-- the length of a text, and its SHA-256 in hex digits
abbrev pub measured : List ℕ → List ℕ
measured text = decimal (length text) ++ (codes " " ++ encode_lower (sha256 text))

-- the text as a line shows it
abbrev pub shown : List ℕ → List ℕ
shown text = if is_plain text then text else measured text

-- the text, or none of it if it isn't UTF-8
unfoldable pub readable : List ℕ → List ℕ
readable text = if is_utf8 text then text else []

-- the byte before this text, unless it is a line feed and nothing comes after it
abbrev pub byte_before : ℕ → List ℕ → List ℕ
byte_before byte [] = if byte == 10 then [] else byte ∷ []
byte_before byte (next ∷ rest) = byte ∷ next ∷ rest

-- the text without the line feeds at its end
unfoldable pub without_line_feeds : List ℕ → List ℕ
without_line_feeds [] = []
without_line_feeds (byte ∷ text) = byte_before byte (without_line_feeds text)

-- the first three words of a text, and what comes after them and a blank
abbrev pub three_words : List ℕ → Option (List ℕ × List ℕ × List ℕ × List ℕ)
three_words text = by_word (λ first rest. by_word (λ second rest. by_word (λ third rest. Some (first, second, third, rest)) rest) rest) text

-- three words as they are, and the length and SHA-256 of what comes after them
abbrev pub said_by_words : List ℕ → Option (List ℕ × List ℕ × List ℕ × List ℕ) → List ℕ
said_by_words text None = shown text
said_by_words text (Some words) = words.0 ++ (codes " " ++ (words.1 ++ (codes " " ++ (words.2 ++ (codes " " ++ measured words.3)))))

-- the line to the runner, without its end, as the log shows it
abbrev pub said_text : List ℕ → List ℕ
said_text line = let text = readable (without_line_feeds line) in said_by_words text (three_words text)

-- the lines of these attempts, each with a blank after it
abbrev pub lines_text : List Attempt → List ℕ
lines_text attempts = flat_map (λ attempt. decimal attempt.line ++ codes " ") attempts

-- the line of the last attempt, or 0
abbrev pub last_line : List Attempt → ℕ
last_line attempts = option_map_or (λ attempt. attempt.line) (slice_get attempts (length attempts - 1)) 0

-- how many attempts there are, the line of the last one, and the SHA-256 of all their lines
abbrev pub attempts_words : List Attempt → List ℕ
attempts_words attempts = decimal (length attempts) ++ (codes " " ++ (decimal (last_line attempts) ++ (codes " " ++ encode_lower (sha256 (lines_text attempts)))))

-- the same, or that there is no journal
abbrev pub attempts_or_refused : Option (List Attempt) → List ℕ
attempts_or_refused None = codes "refused"
attempts_or_refused (Some attempts) = attempts_words attempts

-- the appends of a journal, as the log shows them: which lines there are isn't asked
abbrev pub attempts_text : List (List ℕ) → List ℕ
attempts_text appends = attempts_or_refused (attempts_in MOST_LINES appends)
