-- The givens of a round, and who acts as which of its workers.
use Rattle.std.specs.Prelude.{ℕ, ◌+◌, ◌-◌, ◌*◌, ◌/◌, min, max, ◌&&◌, nat_lt, nat_le, Option, Some, None, if◌then◌else◌}
use Rattle.amo_run_files.specs.declared.seats.RoundParams.{RoundParams}

-- how many of the jobs a round performs at least, whoever stops
abbrev pub bound_of : RoundParams → ℕ
bound_of g = g.jobs - (g.beta + g.workers - 2)

-- how many workers share these jobs
abbrev pub shared_by : ℕ → ℕ → ℕ
shared_by jobs workers = min workers (jobs / 4 + 1)

-- the threshold of so many workers on these jobs: the one that was asked for where at most half of
-- the jobs can be left then
abbrev pub threshold : ℕ → ℕ → ℕ → ℕ
threshold jobs shared beta = if nat_lt 1 shared && nat_le (2 * (beta + shared - 2)) jobs then max beta shared else shared

-- the givens of a round of these jobs, of at most so many workers
abbrev pub givens_of : ℕ → ℕ → ℕ → RoundParams
givens_of jobs workers beta = record { jobs = jobs; workers = shared_by jobs workers; beta = threshold jobs (shared_by jobs workers) beta }

-- how many of the workers 1..workers the circle has from the first to this one, both with it
abbrev pub turn_of : ℕ → ℕ → ℕ → ℕ
turn_of worker first workers = if nat_le first worker then (worker - first) + 1 else ((worker + workers) - first) + 1

-- the participant number of a worker in a round that so many share
abbrev pub seat_of : ℕ → ℕ → ℕ → ℕ → Option ℕ
seat_of worker first workers shared =
    if (nat_le 1 worker && nat_le worker workers) && nat_le (turn_of worker first workers) shared then Some (turn_of worker first workers) else None
