-- How much of a file was on the disk when a round began, as a text.
use Rattle.std.specs.Prelude.{◌≢◌, ◌<◌, ◌^◌, ℕ, Bool, ◌&&◌, nat_le, List, ◌∷◌, ◌++◌, codes, length, take, Option, Some, option_map}
use Rattle.std.specs.Fmt.{decimal}
use Rattle.std.specs.List.{AllByRecursion}
use Rattle.std.specs.Str.{bytes_eq}
use Rattle.hex.specs.Hex.{encode_lower}
use Rattle.sha2.specs.Sha256.{sha256}
use Rattle.amo_decimal.specs.Numbers.{number_in}
use Rattle.amo_run_log.specs.Numbers.{by_word}
use Rattle.amo_run_files.specs.declared.extent.Extent.{Extent}

-- an extent, with lists for vectors
pub record ExtentView : Type 0 where
  pub name : List ℕ
  pub len : ℕ
  pub digest : List ℕ

-- what an extent says
abbrev pub extent_said : Extent → ExtentView
extent_said e = record { name = e.name.items; len = e.len; digest = e.digest.items }

-- the text of an extent: the file's name, its length and the digest, one blank between each two
abbrev pub text_of_extent : ExtentView → List ℕ
text_of_extent e = e.name ++ 32 ∷ (decimal e.len ++ 32 ∷ e.digest)

-- its name is one word, its length has 64 bits, and its digest is one line
pub record IsExtent (e : ExtentView) : Type 0 where
  pub name : AllByRecursion (λ b. b ≢ 32) e.name
  pub name_line : AllByRecursion (λ b. b ≢ 10) e.name
  pub len : e.len < 2 ^ 64
  pub digest : AllByRecursion (λ b. b ≢ 10) e.digest

-- what stands before the first blank of a text, and what stands after it
abbrev pub words_in : List ℕ → Option (List ℕ × List ℕ)
words_in text = by_word (λ word rest. Some (word, rest)) text

-- the extent of this name that these words say
abbrev pub extent_of_words : List ℕ → List ℕ → List ℕ → Option ExtentView
extent_of_words name len digest = option_map (λ n. record { name = name; len = n; digest = digest }) (number_in len)

-- the extent that a text says
abbrev pub extent_in : List ℕ → Option ExtentView
extent_in text = by_word (λ name more. by_word (extent_of_words name) more) text

-- the 64 hex digits of the SHA-256 of these bytes
abbrev pub digest_of : List ℕ → List ℕ
digest_of bytes = encode_lower (sha256 bytes)

-- the extent of these jobs
abbrev pub extent_of_jobs : List ℕ → ExtentView
extent_of_jobs bytes = record { name = codes "jobs"; len = length bytes; digest = digest_of bytes }

-- whether the bytes begin with what this extent was taken of
abbrev pub is_front : ExtentView → List ℕ → Bool
is_front e bytes = nat_le e.len (length bytes) && bytes_eq (digest_of (take e.len bytes)) e.digest
