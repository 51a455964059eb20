-- A file of appends is whole blocks, each of them an append's line.
use Rattle.std.proofs.Common.{◌≡◌, ◌≢◌, ◌+◌, ◌-◌, ◌/◌, ◌%◌, ℕ, zero, suc, List, [], ◌∷◌, ◌++◌, Some, length, map, take, true, false, Vec, Global, refl, sym, ◌∙◌, ap, arith}
use Rattle.std.specs.List.{slice_get}
use Rattle.std.specs.Prelude.{slice_index, ◌==◌}
use Rattle.std.proofs.lemmas.List.{map_push, take_at}
use Rattle.std.proofs.lemmas.Option.{slice_get_within}
use Rattle.sha2.specs.Sha256.{sha256}
use Rattle.hex.specs.Hex.{encode_with, encode_lower, lower_digits}
use Rattle.amo_journal.specs.Appends.{IsLog, appends, checksum_after, line_of, lines_from, next_checksum, records_in}
use Rattle.amo_journal.specs.Journal.{HasLast, IsWhole}
use Rattle.amo_journal.specs.Logs.{records_of}
use Rattle.amo_journal.specs.Texts.{IsOneLine, AreOneLine, texts_in, blocks}
use Rattle.amo_journal.proofs.Blocks.{texts_in-blocks}
use Rattle.amo_journal.proofs.Checksums.{length-line_of}
use Rattle.amo_journal.proofs.Places.{last_splits}
use Rattle.amo_journal.proofs.Whole.{cut_off_nothing}
use Rattle.std.proofs.lemmas.List.{append-nil}

-- the last of the records that were read
pub last_of_records : (vs : List (Vec ℕ Global)) (v : Vec ℕ Global) → Some v ≡ slice_get vs (length vs - 1) → (before : List (List ℕ)) × (records_of vs ≡ before ++ v.items ∷ [])
last_of_records vs v is =
    let inside = slice_get_within vs (length vs - 1) v (sym is) in
    let split = last_splits vs v (length vs - 1) (omega arith) (sym is) in
    (records_of split.0, ap records_of split.1 ∙ map_push (λ (text : Vec ℕ Global). text.items) split.0 v)

-- no hex digit is a line feed
digit_lacks : (digits : List ℕ) → IsOneLine digits → (i : ℕ) → slice_index digits i ≢ 10
digit_lacks [] one i = λ (is : 0 ≡ 10). omega (arith, is)
digit_lacks (d ∷ digits) one zero = one.0
digit_lacks (d ∷ digits) one (suc i) = digit_lacks digits one.1 i

lacks : (b : ℕ) → (b == 10) ≡ false → b ≢ 10
lacks b test is = let both : false ≡ true = sym test ∙ ap (λ (n : ℕ). n == 10) is in cc both

lower_one_line : IsOneLine lower_digits
lower_one_line = (lacks 48 refl, (lacks 49 refl, (lacks 50 refl, (lacks 51 refl, (lacks 52 refl, (lacks 53 refl, (lacks 54 refl, (lacks 55 refl, (lacks 56 refl, (lacks 57 refl, (lacks 97 refl, (lacks 98 refl, (lacks 99 refl, (lacks 100 refl, (lacks 101 refl, (lacks 102 refl, tt))))))))))))))))

hex_one_line : (bytes : List ℕ) → IsOneLine (encode_lower bytes)
unfolding encode_with
hex_one_line [] = tt
hex_one_line (b ∷ bytes) = (digit_lacks lower_digits lower_one_line (b / 16), (digit_lacks lower_digits lower_one_line (b % 16), hex_one_line bytes))

front_one_line : (n : ℕ) (bytes : List ℕ) → IsOneLine bytes → IsOneLine (take n bytes)
front_one_line zero bytes one = tt
front_one_line (suc n) [] one = tt
front_one_line (suc n) (b ∷ bytes) one = (one.0, front_one_line n bytes one.1)

both_one_line : (xs ys : List ℕ) → IsOneLine xs → IsOneLine ys → IsOneLine (xs ++ ys)
both_one_line [] ys one two = two
both_one_line (x ∷ xs) ys one two = (one.0, both_one_line xs ys one.1 two)

pub line_one_line : (checksum records : List ℕ) → IsOneLine records → IsOneLine (line_of checksum records)
line_one_line checksum records one =
    both_one_line records (32 ∷ next_checksum checksum records) one ((λ (is : 32 ≡ 10). omega (arith, is)), front_one_line 8 (encode_lower (sha256 (checksum ++ records))) (hex_one_line (sha256 (checksum ++ records))))

pub lines_one_line : (checksum : List ℕ) (all : List (List ℕ)) → AreOneLine all → AreOneLine (lines_from checksum all)
lines_one_line checksum [] one = tt
lines_one_line checksum (records ∷ all) one = (line_one_line checksum records one.0, lines_one_line (next_checksum checksum records) all one.1)

pub appends_blocks : (checksum : List ℕ) (all : List (List ℕ)) → appends checksum all ≡ blocks (lines_from checksum all)
appends_blocks checksum [] = refl
appends_blocks checksum (records ∷ all) = ap (λ (l : List ℕ). 43 ∷ line_of checksum records ++ 10 ∷ l) (appends_blocks (next_checksum checksum records) all)

pub log_texts : (checksum : List ℕ) (all : List (List ℕ)) (file : List ℕ) → IsLog checksum all file → texts_in file ≡ lines_from checksum all
log_texts checksum all file log =
    ap texts_in (log.file_is ∙ ap (λ (l : List ℕ). l ++ log.end) (appends_blocks checksum all))
    ∙ texts_in-blocks (lines_from checksum all) log.end (lines_one_line checksum all log.one_line)
    ∙ ap (λ (ts : List (List ℕ)). lines_from checksum all ++ ts) (cut_off_nothing log.end log.cut_off) ∙ append-nil (lines_from checksum all)

pub log_whole : (checksum : List ℕ) (all : List (List ℕ)) (file : List ℕ) → IsLog checksum all file → IsWhole file
log_whole checksum all file log = record {
  end = log.end;
  file_is = log.file_is ∙ ap (λ (l : List ℕ). l ++ log.end) (appends_blocks checksum all ∙ ap blocks (sym (log_texts checksum all file log)));
  cut_off = log.cut_off;
}

-- a file of whole lines that are those of some records is a log of them
pub is_log : (checksum : List ℕ) (all : List (List ℕ)) (file : List ℕ) → AreOneLine all → IsWhole file → texts_in file ≡ lines_from checksum all → IsLog checksum all file
is_log checksum all file one whole are = record {
  end = whole.end;
  file_is = whole.file_is ∙ ap (λ (ts : List (List ℕ)). blocks ts ++ whole.end) are ∙ ap (λ (l : List ℕ). l ++ whole.end) (sym (appends_blocks checksum all));
  cut_off = whole.cut_off;
  one_line = one;
}

-- a line without its checksum
pub records_of_line : (checksum records : List ℕ) → take (length (line_of checksum records) - 9) (line_of checksum records) ≡ records
records_of_line checksum records = take_at records (32 ∷ next_checksum checksum records) (length (line_of checksum records) - 9) (omega (arith, length-line_of checksum records))

records_of_lines : (checksum : List ℕ) (all : List (List ℕ)) → map (λ line. take (length line - 9) line) (lines_from checksum all) ≡ all
records_of_lines checksum [] = refl
records_of_lines checksum (records ∷ all) =
    ap (λ (l : List ℕ). l ∷ map (λ line. take (length line - 9) line) (lines_from (next_checksum checksum records) all)) (records_of_line checksum records)
    ∙ ap (λ (rs : List (List ℕ)). records ∷ rs) (records_of_lines (next_checksum checksum records) all)

pub lines_records : (checksum : List ℕ) (all : List (List ℕ)) (file : List ℕ) → texts_in file ≡ lines_from checksum all → records_in file ≡ all
lines_records checksum all file are = ap (map (λ line. take (length line - 9) line)) are ∙ records_of_lines checksum all

-- one line more
pub lines_from-push : (checksum : List ℕ) (all : List (List ℕ)) (records : List ℕ) → lines_from checksum (all ++ records ∷ []) ≡ lines_from checksum all ++ line_of (checksum_after checksum all) records ∷ []
lines_from-push checksum [] records = refl
lines_from-push checksum (r ∷ all) records = ap (λ (ls : List (List ℕ)). line_of checksum r ∷ ls) (lines_from-push (next_checksum checksum r) all records)

-- the last line of some records
pub has_last : (checksum : List ℕ) (all before : List (List ℕ)) (last : List ℕ) (n : ℕ) → all ≡ before ++ last ∷ [] → n ≡ length last + 9 → HasLast n (lines_from checksum all)
has_last checksum all before last n are long =
    (lines_from checksum before, line_of (checksum_after checksum before) last, ap (lines_from checksum) are ∙ lines_from-push checksum before last, omega (arith, long, length-line_of (checksum_after checksum before) last))

-- the records of a file that has them
pub log_records : (checksum : List ℕ) (all : List (List ℕ)) (file : List ℕ) → IsLog checksum all file → records_in file ≡ all
log_records checksum all file log = lines_records checksum all file (log_texts checksum all file log)
