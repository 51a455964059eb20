-- The first line of a history: its givens, and whether there are names.
use Rattle.std.specs.Prelude.{ℕ, Bool, true, false, ◌&&◌, nat_le, ◌==◌, if◌then◌else◌, List, codes, length, drop, Result, Ok, Err}
use Rattle.std.specs.Option.{is_some, ok_or}
use Rattle.amo_params.specs.Givens.{givens_of, bound}
use Rattle.amo_params.specs.declared.givens.Givens.{Givens}
use Rattle.amo_params.specs.declared.givens.GivensFault.{GivensFault}
use Rattle.amo_decimal.specs.Numbers.{number_in}
use Rattle.amo_judge.specs.Lines.{word_at, says_at}
use Rattle.amo_judge.specs.Results.{next}
use Rattle.amo_judge.specs.declared.first_line.Opening.{Opening}
use Rattle.amo_judge.specs.declared.refusal.Wrong.{Wrong}
use Rattle.amo_judge.specs.declared.refusal.Wrong.TheVariants.{NoFirstLine, NoGivens, OtherBound}

-- the givens, or the error that these numbers are outside their limits
abbrev pub or_no_givens : Result Givens GivensFault → Result Givens Wrong
or_no_givens (Ok givens) = Ok givens
or_no_givens (Err fault) = Err (NoGivens fault)

-- the number that a word says
abbrev pub first_number : List ℕ → Result ℕ Wrong
first_number word = ok_or (number_in word) NoFirstLine

-- the givens of three words
abbrev pub numbers_of : List ℕ → List ℕ → List ℕ → Result Givens Wrong
numbers_of jobs workers beta =
    next (first_number jobs) (λ n. next (first_number workers) (λ m. next (first_number beta) (λ b. or_no_givens (givens_of n m b))))

-- the bound that is said is that of the givens
abbrev pub with_bound : Givens → ℕ → Result Bool Wrong
with_bound g said = if said == bound g then Ok false else Err (OtherBound (bound g))

-- whether there are names, by the words after the threshold: nothing, `names`, or `bound` and the
-- bound of the givens
abbrev pub ending_of : Givens → List (List ℕ) → Result Bool Wrong
ending_of g words =
    if length words == 0 then Ok false
    else (if (length words == 1) && says_at words 0 (codes "names") then Ok true
    else (if (length words == 2) && says_at words 0 (codes "bound") then next (first_number (word_at words 1)) (λ said. with_bound g said)
    else Err NoFirstLine))

-- `LABEL N workers M beta B`, at least
abbrev pub has_givens : List ℕ → List (List ℕ) → Bool
has_givens label words = nat_le 6 (length words) && (says_at words 0 label && (says_at words 2 (codes "workers") && says_at words 4 (codes "beta")))

-- the opening that such a line says
abbrev pub opening_of : List ℕ → List (List ℕ) → Result Opening Wrong
opening_of label words =
    if has_givens label words
    then next (numbers_of (word_at words 1) (word_at words 3) (word_at words 5)) (λ g. next (ending_of g (drop 6 words)) (λ named. Ok (record { givens = g; named = named })))
    else Err NoFirstLine

-- `jobs N block G` and eight words more: the first line of a report over blocks
unfoldable pub has_blocks : List (List ℕ) → Bool
has_blocks words =
    (length words == 12) && (says_at words 0 (codes "jobs") && (is_some (number_in (word_at words 1)) && (says_at words 2 (codes "block") && is_some (number_in (word_at words 3)))))

-- the opening that the first line of a report over blocks says
abbrev pub opening_of_blocks : List (List ℕ) → Result Opening Wrong
opening_of_blocks words = opening_of (codes "blocks") (drop 4 words)

-- the opening that a first line of these words says; in a report over blocks, the blocks are the
-- jobs
abbrev pub opening_in : List (List ℕ) → Result Opening Wrong
opening_in words = if has_blocks words then opening_of_blocks words else opening_of (codes "jobs") words
