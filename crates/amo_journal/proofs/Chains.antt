-- One append more behind those that were read.
use Rattle.std.proofs.Common.{◌≡◌, ℕ, List, [], ◌∷◌, ◌++◌, refl, sym, ◌∙◌, ap, subst, append_assoc}
use Rattle.std.proofs.lemmas.List.{map_push}
use Rattle.std.specs.Prelude.{Vec}
use Rattle.std.specs.declared.alloc.Global.{Global}
use Rattle.amo_journal.specs.declared.checksum.Checksum.{Checksum}
use Rattle.amo_journal.specs.Texts.{IsOneLine}
use Rattle.amo_journal.specs.Appends.{appends, checksum_after, line_of, next_checksum}
use Rattle.amo_journal.specs.Logs.{records_of, checksums_of, checksums_from}

pub records_of-push : (read : List (Vec ℕ Global)) (records : Vec ℕ Global) → records_of (read ++ records ∷ []) ≡ records_of read ++ records.items ∷ []
records_of-push read records = map_push (λ (v : Vec ℕ Global). v.items) read records

pub checksums_of-push : (read : List Checksum) (checksum : Checksum) → checksums_of (read ++ checksum ∷ []) ≡ checksums_of read ++ checksum.digits ∷ []
checksums_of-push read checksum = map_push (λ (c : Checksum). c.digits) read checksum

pub checksum_after-push : (checksum : List ℕ) (all : List (List ℕ)) (records : List ℕ) → checksum_after checksum (all ++ records ∷ []) ≡ next_checksum (checksum_after checksum all) records
checksum_after-push checksum [] records = refl
checksum_after-push checksum (r ∷ all) records = checksum_after-push (next_checksum checksum r) all records

pub checksums_from-push : (checksum : List ℕ) (all : List (List ℕ)) (records : List ℕ)
    → checksums_from checksum (all ++ records ∷ []) ≡ checksums_from checksum all ++ next_checksum (checksum_after checksum all) records ∷ []
checksums_from-push checksum [] records = refl
checksums_from-push checksum (r ∷ all) records = ap (λ (l : List (List ℕ)). next_checksum checksum r ∷ l) (checksums_from-push (next_checksum checksum r) all records)

pub appends-push : (checksum : List ℕ) (all : List (List ℕ)) (records rest : List ℕ)
    → appends checksum (all ++ records ∷ []) ++ rest ≡ appends checksum all ++ (43 ∷ line_of (checksum_after checksum all) records ++ 10 ∷ rest)
appends-push checksum [] records rest = ap (λ (l : List ℕ). 43 ∷ l) (append_assoc (line_of checksum records) (10 ∷ []) rest)
appends-push checksum (r ∷ all) records rest =
    let next = next_checksum checksum r in
    ap (λ (l : List ℕ). 43 ∷ l) (append_assoc (line_of checksum r) (10 ∷ appends next (all ++ records ∷ [])) rest
    ∙ ap (λ (l : List ℕ). line_of checksum r ++ 10 ∷ l) (appends-push next all records rest)
    ∙ sym (append_assoc (line_of checksum r) (10 ∷ appends next all) (43 ∷ line_of (checksum_after next all) records ++ 10 ∷ rest)))

front_one_line : (xs ys : List ℕ) → IsOneLine (xs ++ ys) → IsOneLine xs
front_one_line [] ys one = tt
front_one_line (x ∷ xs) ys one = (one.0, front_one_line xs ys one.1)

-- the records of a line that is one line
pub records_one_line : (checksum records line : List ℕ) → line ≡ line_of checksum records → IsOneLine line → IsOneLine records
records_one_line checksum records line is one = front_one_line records (32 ∷ next_checksum checksum records) (subst IsOneLine is one)
