-- How long checksums are, and the parts of a line.
use Rattle.std.proofs.Common.{◌≡◌, ℕ, zero, suc, ◌+◌, ◌-◌, ◌*◌, List, [], ◌∷◌, ◌++◌, length, take, drop, get_or, refl, sym, ◌∙◌, ap, arith, append_assoc, length-append, length-take}
use Rattle.std.proofs.lemmas.List.{take_at, drop_at}
use Rattle.std.specs.Int.{w32, to_be_bytes}
use Rattle.std.specs.Prelude.{slice_index}
use Rattle.sha2.specs.Sha256.{sha256, digest_bytes, final_hash, initial_hash_256}
use Rattle.hex.specs.Hex.{encode_lower, lower_digits}
use Rattle.hex.proofs.HexLemmas.{length-encode_with}
use Rattle.amo_journal.specs.Appends.{checksum_of, next_checksum, line_of}

length-word : (x : ℕ) → length (to_be_bytes w32 x) ≡ 4
length-word x = refl

length-digest_bytes : (h : List ℕ) (n : ℕ) → length (digest_bytes h n) ≡ 4 * n
unfolding digest_bytes
length-digest_bytes h zero = omega arith
length-digest_bytes h (suc n) = omega (arith, length-digest_bytes h n, length-append (digest_bytes h n) (to_be_bytes w32 (slice_index h n)), length-word (slice_index h n))

length-sha256 : (m : List ℕ) → length (sha256 m) ≡ 32
unfolding sha256
length-sha256 m = length-digest_bytes (final_hash initial_hash_256 m) 8

pub length-checksum_of : (m : List ℕ) → length (checksum_of m) ≡ 8
length-checksum_of m = omega (arith, length-take 8 (encode_lower (sha256 m)), length-encode_with lower_digits (sha256 m), length-sha256 m)

pub length-line_of : (checksum records : List ℕ) → length (line_of checksum records) ≡ length records + 9
length-line_of checksum records = omega (arith, length-append records (32 ∷ next_checksum checksum records), length-checksum_of (checksum ++ records))

get-seam_or : (xs : List ℕ) (y : ℕ) (ys : List ℕ) (i : ℕ) → i ≡ length xs → get_or (xs ++ y ∷ ys) i 0 ≡ y
get-seam_or [] y ys zero is = refl
get-seam_or [] y ys (suc i) is = absurd (omega arith)
get-seam_or (x ∷ xs) y ys zero is = absurd (omega arith)
get-seam_or (x ∷ xs) y ys (suc i) is = get-seam_or xs y ys i (omega arith)

-- the parts of a line that is that of some records
pub parts_of_line : (line checksum records : List ℕ) → line ≡ line_of checksum records
    → (take (length line - 9) line ≡ records) × (get_or line (length line - 9) 0 ≡ 32) × (drop (length line - 9 + 1) line ≡ next_checksum checksum records)
parts_of_line line checksum records is =
    let behind = next_checksum checksum records in
    let at : length line - 9 ≡ length records = omega (arith, ap length is, length-line_of checksum records) in (
      ap (λ (l : List ℕ). take (length line - 9) l) is ∙ take_at records (32 ∷ behind) (length line - 9) (sym at),
      ap (λ (l : List ℕ). get_or l (length line - 9) 0) is ∙ get-seam_or records 32 behind (length line - 9) at,
      ap (λ (l : List ℕ). drop (length line - 9 + 1) l) (is ∙ sym (append_assoc records (32 ∷ []) behind))
          ∙ drop_at (records ++ 32 ∷ []) behind (length line - 9 + 1) (omega (arith, at, length-append records (32 ∷ []))),
    )
