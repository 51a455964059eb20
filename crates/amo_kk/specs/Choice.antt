-- The choice of a job, and the check before a claim.
use Rattle.std.specs.Prelude.{ℕ, ◌+◌, ◌-◌, ◌*◌, ◌/◌, [], nat_lt, nat_le, if◌then◌else◌}
use Rattle.amo_sets.specs.Rank.{count, number_of_rank}
use Rattle.amo_kk.specs.Record.{is_free, is_open, empty_record}
use Rattle.amo_params.specs.declared.givens.Givens.{Givens}
use Rattle.amo_kk.specs.declared.phase.Phase.TheVariants.{Announcing, Claiming, Over}
use Rattle.amo_kk.specs.declared.model.Record.{Record}

-- the rank that worker p chooses where so many jobs are free: the workers are spread evenly, if
-- there is room
abbrev pub chosen_rank : Givens → ℕ → ℕ → ℕ
chosen_rank g p free =
    let spread = free - (g.workers - 1) in
    if nat_le g.workers spread then (p - 1) * spread / g.workers + 1 else p

-- the job that worker p chooses: the open one with that rank
abbrev pub chosen_job : Givens → ℕ → Record → ℕ
chosen_job g p r = number_of_rank g.jobs (is_open r) (chosen_rank g p (count g.jobs (is_free r)))

-- the record after the choice: over where fewer than beta jobs are open, else about to announce the
-- chosen job
abbrev pub record_after_choice : Givens → ℕ → Record → Record
record_after_choice g p r =
    if nat_lt (count g.jobs (is_open r)) g.beta
    then record r { phase = Over }
    else record r { phase = Announcing (chosen_job g p r); tried = [] }

-- the record after the check of j: about to claim j if it is open, else after a new choice
abbrev pub record_after_check : Givens → ℕ → ℕ → Record → Record
record_after_check g p j r = if is_open r j then record r { phase = Claiming j } else record_after_choice g p r

-- the record that a worker begins with: the first choice is made
abbrev pub first_record : Givens → ℕ → Record
first_record g p = record_after_choice g p (empty_record g)
