-- Which journals keep a count.
use Rattle.std.proofs.Common.{◌≡◌, ◌≢◌, ℕ, zero, suc, ◌-◌, ◌<◌, ◌≤◌, Bool, true, false, List, [], ◌∷◌, ◌++◌, length, take, refl, sym, ap, ◌∙◌, arith}
use Rattle.std.specs.Prelude.{◌&&◌, nat_le}
use Rattle.std.specs.Str.{bytes_eq}
use Rattle.std.proofs.lemmas.Bool.Decides.{nat_tests}
use Rattle.std.proofs.lemmas.Slice.Eq.{bytes_eq-Decides}
use Rattle.amo_journal.specs.Appends.{next_checksum}
use Rattle.amo_journal.specs.Logs.{checksums_from}
use Rattle.amo_run_files.specs.Counted.{CountView, checksum_at, count_of, is_kept}

is_le : (a b : ℕ) → a ≤ b → nat_le a b ≡ true
is_le a b h = grind (arith, nat_tests)

isnt_le : (a b : ℕ) → b < a → nat_le a b ≡ false
isnt_le a b h = grind (arith, nat_tests)

not_true : (b : Bool) → (b ≡ true → ⊥) → b ≡ false
not_true true isnt = absurd (isnt refl)
not_true false isnt = refl

and_false : (b : Bool) → (b && false) ≡ false
and_false true = refl
and_false false = refl

pub keeps : (c : CountView) (first : List ℕ) (checksums : List (List ℕ)) → c.appends ≤ length checksums → checksum_at first checksums c.appends ≡ c.checksum → is_kept c first checksums ≡ true
keeps c first checksums many same =
    ap (λ b. b && bytes_eq (checksum_at first checksums c.appends) c.checksum) (is_le c.appends (length checksums) many)
    ∙ (bytes_eq-Decides (checksum_at first checksums c.appends) c.checksum).1 same

pub fewer : (c : CountView) (first : List ℕ) (checksums : List (List ℕ)) → length checksums < c.appends → is_kept c first checksums ≡ false
fewer c first checksums few = ap (λ b. b && bytes_eq (checksum_at first checksums c.appends) c.checksum) (isnt_le c.appends (length checksums) few)

pub differs : (c : CountView) (first : List ℕ) (checksums : List (List ℕ)) → checksum_at first checksums c.appends ≢ c.checksum → is_kept c first checksums ≡ false
differs c first checksums isnt =
    let found = checksum_at first checksums c.appends in
    ap (λ b. nat_le c.appends (length checksums) && b) (not_true (bytes_eq found c.checksum) (λ t. isnt ((bytes_eq-Decides found c.checksum).0 t)))
    ∙ and_false (nat_le c.appends (length checksums))

-- the checksums of appends depend only on those before them

pub length-checksums_from : (first : List ℕ) (all : List (List ℕ)) → length (checksums_from first all) ≡ length all
length-checksums_from first [] = refl
length-checksums_from first (records ∷ all) = ap suc (length-checksums_from (next_checksum first records) all)

same_at : (first : List ℕ) (all more : List (List ℕ)) (n : ℕ) → n ≤ length all → checksum_at first (checksums_from first (take n all ++ more)) n ≡ checksum_at first (checksums_from first all) n
same_at first all more zero le = refl
same_at first [] more (suc n) le = absurd (omega arith)
same_at first (records ∷ all) more (suc n) le = same_at (next_checksum first records) all more n (omega arith)

taken_more : (all more : List (List ℕ)) (n : ℕ) → n ≤ length all → n ≤ length (take n all ++ more)
taken_more all more zero le = omega arith
taken_more [] more (suc n) le = absurd (omega arith)
taken_more (records ∷ all) more (suc n) le = omega (arith, taken_more all more n (omega arith))

pub healthy : (first : List ℕ) (all more : List (List ℕ)) → is_kept (count_of first (checksums_from first all)) first (checksums_from first (take (length all - 1) all ++ more)) ≡ true
healthy first all more =
    let left = take (length all - 1) all ++ more in
    let n = length (checksums_from first all) - 1 in
    let at : n ≡ length all - 1 = ap (λ m. m - 1) (length-checksums_from first all) in
    keeps (count_of first (checksums_from first all)) first (checksums_from first left)
    (omega (arith, at, length-checksums_from first left, taken_more all more (length all - 1) (omega arith)))
    (ap (checksum_at first (checksums_from first left)) at ∙ same_at first all more (length all - 1) (omega arith) ∙ ap (checksum_at first (checksums_from first all)) (sym at))
