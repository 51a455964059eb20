-- A worker that begins again from its own words alone: its announcement, its count of claims, and
-- the entries of its row.
use Rattle.std.specs.Prelude.{ℕ, zero, suc, ◌+◌, Bool, true, not, ◌&&◌, ◌||◌, List, [], ◌∷◌, ◌++◌, length, nat_le, ◌==◌, if◌then◌else◌}
use Rattle.amo_sets.specs.Sets.{has, with_number}
use Rattle.amo_params.specs.Givens.{is_within}
use Rattle.amo_kk.specs.Record.{empty_record}
use Rattle.amo_kk.specs.Choice.{record_after_choice}
use Rattle.amo_params.specs.declared.givens.Givens.{Givens}
use Rattle.amo_kk.specs.declared.phase.Phase.TheVariants.{Holding}
use Rattle.amo_kk.specs.declared.model.Record.{Record}

-- the entries of a row: what stands before its first 0
abbrev pub entries_of : List ℕ → List ℕ
entries_of [] = []
entries_of (zero ∷ row) = []
entries_of (suc j ∷ row) = suc j ∷ entries_of row

-- the set with these numbers as well, one after the other
abbrev pub learned : List ℕ → List ℕ → List ℕ
learned known [] = known
learned known (j ∷ js) = learned (with_number j known) js

-- these numbers as a set
abbrev pub set_of : List ℕ → List ℕ
set_of js = learned [] js

-- whether these are jobs, each another one, and none of them known
abbrev pub are_new : Givens → List ℕ → List ℕ → Bool
are_new g known [] = true
are_new g known (j ∷ js) = (is_within g.jobs j && not (has known j)) && are_new g (with_number j known) js

-- whether a worker can have left these own words: the dones are jobs, each another one; the
-- announcement is a job, or 0; and as many are claimed as done, or one more, which is then the
-- announced job and none of them
abbrev pub are_own_words : Givens → (next claim : ℕ) (dones : List ℕ) → Bool
are_own_words g next claim dones =
    are_new g [] dones && (nat_le next g.jobs
    && ((claim == length dones) || ((claim == length dones + 1) && (is_within g.jobs next && not (has (set_of dones) next)))))

-- the record that has claimed and done these jobs, knows just these, and has read no row
abbrev pub record_of_dones : Givens → List ℕ → Record
record_of_dones g dones = record (empty_record g) { known = set_of dones; claimed = dones; dones = dones }

-- the job that these words show as claimed and not filed, or 0: it may or may not have been
-- performed
abbrev pub doubt : (next claim : ℕ) (dones : List ℕ) → ℕ
doubt next claim dones = if claim == length dones then 0 else next

-- The record with which worker p restarts. If its registers show a job in doubt, this job is in its
-- hand, to be recorded as done without being performed. Otherwise there is a new choice.
abbrev pub record_again : Givens → ℕ → (next claim : ℕ) (dones : List ℕ) → Record
record_again g p next claim dones =
    if claim == length dones
    then record_after_choice g p (record_of_dones g dones)
    else record (record_of_dones g dones) { phase = Holding next; claimed = dones ++ next ∷ [] }
