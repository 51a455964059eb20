-- The values that a process has read since it began, and the standing of its worker then. It begins
-- by loading the worker's own registers: the announcement, the count of claims, and the row up to
-- its first 0. Then it goes on as the machine that restarts from them.
use Rattle.std.specs.Prelude.{◌≡◌, ℕ, zero, suc, ◌+◌, ◌*◌, ◌<◌, Bool, true, false, not, ◌&&◌, List, [], ◌∷◌, Option, Some, None, length, nat_le, ◌==◌, if◌then◌else◌}
use Rattle.amo_kk.specs.Record.{job_in_hand}
use Rattle.amo_kk.specs.Step.{want, record_after}
use Rattle.amo_kk.specs.Again.{entries_of, are_own_words, record_again}
use Rattle.amo_kk.specs.Words.{word_count, next_word, claim_word, done_word}
use Rattle.amo_params.specs.declared.givens.Givens.{Givens}
use Rattle.amo_kk.specs.declared.model.Record.{Record}
use Rattle.amo_kk.specs.declared.phase.Want.{Want}
use Rattle.amo_kk.specs.declared.phase.Want.TheVariants.{StoreNext, LoadNext, LoadDone, StoreClaim, StoreDone, Nothing}
use Rattle.amo_process.specs.declared.standing.Standing.{Standing}
use Rattle.amo_process.specs.declared.standing.Standing.TheVariants.{Beginning, Going}

-- whether v can be what this load or store gave: a job or 0, 0 in the last place of a row, and 0 of
-- a store
abbrev pub can_hear : Givens → ℕ → Want → Bool
can_hear g v (StoreNext j) = v == 0
can_hear g v (LoadNext q) = nat_le v g.jobs
can_hear g v (LoadDone q k) = nat_le v g.jobs && not (k == g.jobs + 1 && not (v == 0))
can_hear g v (StoreClaim c j) = v == 0
can_hear g v (StoreDone k j) = v == 0
can_hear g v Nothing = false

-- the record after these values, if each of them is possible in its place
abbrev pub record_after_all : Givens → ℕ → Record → List ℕ → Option Record
record_after_all g p r [] = Some r
record_after_all g p r (v ∷ vs) = if can_hear g v (want r) then record_after_all g p (record_after g p v r) vs else None

-- the part after the first 0, if there is a 0
abbrev pub rest_of : List ℕ → Option (List ℕ)
rest_of [] = None
rest_of (zero ∷ xs) = Some xs
rest_of (suc j ∷ xs) = rest_of xs

-- true if no value was read
abbrev pub is_nothing : List ℕ → Bool
is_nothing [] = true
is_nothing (v ∷ vs) = false

-- the worker goes on with this record, if it is there
abbrev pub going : Givens → ℕ → Bool → Option Record → Option Standing
going g p fresh (Some r) = Some (Going (record { givens = g; number = p; state = r }) fresh)
going g p fresh None = None

-- the standing of worker p that has loaded its announcement, its count of claims and this much of
-- its row, and has then, if the row was loaded to its first 0, read the rest
abbrev pub standing_in : Givens → ℕ → (next claim : ℕ) (row : List ℕ) → Option (List ℕ) → Option Standing
standing_in g p next claim row None = if nat_le (length row) g.jobs then Some (Beginning (done_word g p (length row + 1))) else None
standing_in g p next claim row (Some rest) =
    if are_own_words g next claim (entries_of row)
    then going g p (is_nothing rest) (record_after_all g p (record_again g p next claim (entries_of row)) rest)
    else None

-- the place of the own word that worker p loads next, where so many were loaded
abbrev pub own_word : Givens → ℕ → ℕ → ℕ
own_word g p zero = next_word p
own_word g p (suc zero) = claim_word g p
own_word g p (suc (suc k)) = done_word g p (k + 1)

-- the standing of worker p whose process has read these values; None if they are impossible
abbrev pub standing_of : Givens → ℕ → List ℕ → Option Standing
standing_of g p [] = Some (Beginning (next_word p))
standing_of g p (next ∷ []) = Some (Beginning (claim_word g p))
standing_of g p (next ∷ claim ∷ row) = standing_in g p next claim row (rest_of row)

-- it is where worker p of these givens may stand: the own word to be loaded is one of the words
abbrev pub IsOf : Givens → ℕ → Standing → Type 0
IsOf g p (Beginning word) = word < word_count g
IsOf g p (Going l fresh) = (l.givens ≡ g) × (l.number ≡ p)

-- the job to be performed now, or 0: what it has in its hand, unless that is what it began with
abbrev pub to_perform : Standing → ℕ
to_perform (Beginning word) = 0
to_perform (Going l fresh) = if fresh then 0 else job_in_hand l.state.phase

-- the job in doubt, or 0: what it has in its hand and began with. It may or may not have been
-- performed
abbrev pub in_doubt : Standing → ℕ
in_doubt (Beginning word) = 0
in_doubt (Going l fresh) = if fresh then job_in_hand l.state.phase else 0

-- the job that a worker in this standing is to perform, or 0
abbrev pub told_by : Option Standing → ℕ
told_by None = 0
told_by (Some s) = to_perform s

-- the job that is in doubt in this standing, or 0
abbrev pub doubted_by : Option Standing → ℕ
doubted_by None = 0
doubted_by (Some s) = in_doubt s
