-- No file is a log and damaged, and none is a log of two lists.
use Rattle.std.proofs.Common.{◌≡◌, ◌⊎◌, inl, inr, ℕ, ◌-◌, List, [], ◌∷◌, ◌++◌, length, take, refl, sym, ◌∙◌, ap, subst, arith, append_assoc}
use Rattle.amo_journal.specs.Appends.{appends, checksum_after, line_of, next_checksum, IsCutOff, IsCutOffAppend, IsDamagedAt, IsLog, IsWrong}
use Rattle.amo_journal.specs.Following.{all_but_last, file_with, IsPlace, IsReasonThere}
use Rattle.amo_journal.specs.Texts.{AreOneLine, IsOneLine}
use Rattle.amo_journal.specs.declared.follow.Place.{Place}
use Rattle.amo_journal.specs.declared.follow.ReadOnError.{ReadOnError}
use Rattle.amo_journal.specs.declared.follow.ReadOnError.TheVariants.{Memory, TooLong, Changed, Damaged}
use Rattle.amo_journal.specs.declared.log.DamageKind.{DamageKind}
use Rattle.amo_journal.specs.declared.log.DamageKind.TheVariants.{CommitByte, Unfinished, Checksum, Surplus}
use Rattle.amo_journal.proofs.Following.{appends-append}
use Rattle.amo_journal.proofs.Logs.{line_one_line, log_records, records_of_line}
use Rattle.amo_journal.proofs.Splits.{no_feed, same_split}

-- after a closed commit byte comes an append that was cut off
cut_off_behind : (rest : List ℕ) → IsCutOff (45 ∷ rest) → IsCutOffAppend rest
cut_off_behind [] cut = (omega arith, inl tt)
cut_off_behind (b ∷ rest) cut = cut.1

-- after an open commit byte nothing is cut off
open_is_no_end : (rest : List ℕ) → IsCutOff (43 ∷ rest) → ⊥
open_is_no_end [] cut = cut refl
open_is_no_end (b ∷ rest) cut = omega (arith, cut.0)

-- no end is wrong
end_is_right : (kind : DamageKind) (checksum end : List ℕ) → IsCutOff end → IsWrong kind checksum end → ⊥
end_is_right CommitByte checksum [] cut wrong = wrong
end_is_right CommitByte checksum (b ∷ []) cut wrong = wrong
end_is_right CommitByte checksum (b ∷ c ∷ rest) cut wrong = wrong.1 cut.0
end_is_right Unfinished checksum end cut wrong = open_is_no_end wrong.0 (subst IsCutOff wrong.1 cut)
end_is_right Checksum checksum end cut wrong = open_is_no_end (wrong.0 ++ 10 ∷ wrong.1) (subst IsCutOff wrong.2 cut)
end_is_right Surplus checksum end cut wrong = wrong.2 (cut_off_behind wrong.0 (subst IsCutOff wrong.1 cut))

-- no append is wrong
append_is_right : (kind : DamageKind) (checksum records more rest : List ℕ) → IsOneLine records → rest ≡ 43 ∷ line_of checksum records ++ 10 ∷ more → IsWrong kind checksum rest → ⊥
append_is_right CommitByte checksum records more [] one is wrong = wrong
append_is_right CommitByte checksum records more (b ∷ []) one is wrong = wrong
append_is_right CommitByte checksum records more (b ∷ c ∷ rest) one is wrong = let first : b ≡ 43 = cc is in wrong.0 first
append_is_right Unfinished checksum records more rest one is wrong =
    let behind : wrong.0 ≡ line_of checksum records ++ 10 ∷ more = cc (wrong.1, is) in
    no_feed (line_of checksum records) more (subst IsOneLine behind wrong.2)
append_is_right Checksum checksum records more rest one is wrong =
    let behind : wrong.0 ++ 10 ∷ wrong.1 ≡ line_of checksum records ++ 10 ∷ more = cc (wrong.2, is) in
    wrong.4 records (same_split wrong.0 (line_of checksum records) wrong.1 more wrong.3 (line_one_line checksum records one) behind).0
append_is_right Surplus checksum records more rest one is wrong = let first : ◌≡◌ {A = ℕ} 43 45 = cc (is, wrong.1) in omega (arith, first)

-- the first append, and what follows it
first_append : (checksum records rest : List ℕ) (all : List (List ℕ)) → appends checksum (records ∷ all) ++ rest ≡ 43 ∷ line_of checksum records ++ 10 ∷ (appends (next_checksum checksum records) all ++ rest)
first_append checksum records rest all = ap (λ (l : List ℕ). 43 ∷ l) (append_assoc (line_of checksum records) (10 ∷ appends (next_checksum checksum records) all) rest)

all_right : (checksum : List ℕ) (records all : List (List ℕ)) (kind : DamageKind) (rest end : List ℕ) → AreOneLine records → AreOneLine all → IsWrong kind (checksum_after checksum records) rest → IsCutOff end → appends checksum records ++ rest ≡ appends checksum all ++ end → ⊥
all_right checksum [] [] kind rest end one two wrong cut is = end_is_right kind checksum end cut (subst (IsWrong kind checksum) is wrong)
all_right checksum [] (a ∷ all) kind rest end one two wrong cut is =
    append_is_right kind checksum a (appends (next_checksum checksum a) all ++ end) rest two.0 (is ∙ first_append checksum a end all) wrong
all_right checksum (r ∷ records) [] kind rest end one two wrong cut is =
    open_is_no_end (line_of checksum r ++ 10 ∷ (appends (next_checksum checksum r) records ++ rest)) (subst IsCutOff (sym is ∙ first_append checksum r rest records) cut)
all_right checksum (r ∷ records) (a ∷ all) kind rest end one two wrong cut is =
    let both : 43 ∷ line_of checksum r ++ 10 ∷ (appends (next_checksum checksum r) records ++ rest) ≡ 43 ∷ line_of checksum a ++ 10 ∷ (appends (next_checksum checksum a) all ++ end) =
    sym (first_append checksum r rest records) ∙ is ∙ first_append checksum a end all in
    let split =
    same_split (line_of checksum r) (line_of checksum a) (appends (next_checksum checksum r) records ++ rest) (appends (next_checksum checksum a) all ++ end)
    (line_one_line checksum r one.0) (line_one_line checksum a two.0) (cc both) in
    let same : r ≡ a = sym (records_of_line checksum r) ∙ ap (λ (l : List ℕ). take (length l - 9) l) split.0 ∙ records_of_line checksum a in
    all_right (next_checksum checksum r) records all kind rest end one.1 two.1 wrong cut
    (split.1 ∙ ap (λ (x : List ℕ). appends (next_checksum checksum x) all ++ end) (sym same))

pub undamaged : (checksum : List ℕ) (records all : List (List ℕ)) (kind : DamageKind) (file : List ℕ) → IsLog checksum all file → IsDamagedAt checksum records kind file → ⊥
undamaged checksum records all kind file log there =
    all_right checksum records all kind there.rest log.end there.one_line log.one_line there.wrong log.cut_off (sym there.file_is ∙ log.file_is)

pub one_list : (checksum : List ℕ) (all others : List (List ℕ)) (file : List ℕ) → IsLog checksum all file → IsLog checksum others file → all ≡ others
one_list checksum all others file log other = sym (log_records checksum all file log) ∙ log_records checksum others file other

-- the same bytes in front
same_behind : (xs ys zs : List ℕ) → xs ++ ys ≡ xs ++ zs → ys ≡ zs
same_behind [] ys zs is = is
same_behind (x ∷ xs) ys zs is = same_behind xs ys zs (cc is)

-- a file that goes on from a place has its append there
pub goes_on : (first : List ℕ) (all more : List (List ℕ)) (place : Place) (bytes : List ℕ) → IsPlace first all place → IsLog first (all ++ more) (file_with first all bytes) → (rest : List ℕ) × (bytes ≡ place.append.items ++ rest)
goes_on first all more place bytes at log =
    let behind = appends (checksum_after first all) more ++ log.end in (
      behind,
      same_behind (appends first (all_but_last all)) bytes (place.append.items ++ behind)
          (log.file_is ∙ ap (λ (l : List ℕ). l ++ log.end) (appends-append first all more) ∙ append_assoc (appends first all) (appends (checksum_after first all) more) log.end
          ∙ ap (λ (l : List ℕ). l ++ behind) at.append ∙ append_assoc (appends first (all_but_last all)) place.append.items behind),
    )

pub no_reason : (first : List ℕ) (all more : List (List ℕ)) (place : Place) (bytes : List ℕ) (error : ReadOnError) → IsPlace first all place → IsLog first (all ++ more) (file_with first all bytes) → IsReasonThere error place bytes → (error ≡ Memory) ⊎ (error ≡ TooLong)
no_reason first all more place bytes Memory at log reason = inl refl
no_reason first all more place bytes TooLong at log reason = inr refl
no_reason first all more place bytes Changed at log reason = let there = goes_on first all more place bytes at log in absurd (reason there.0 there.1)
no_reason first all more place bytes (Damaged number kind) at log reason =
    let there = reason first all at in absurd (undamaged first (all ++ there.0) (all ++ more) kind (file_with first all bytes) log there.2)
