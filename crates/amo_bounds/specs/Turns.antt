-- How many turns are taken at most, if many jobs are free or the threshold is high.
use Rattle.std.specs.Prelude.{ℕ, ◌+◌, ◌-◌, ◌*◌}
use Rattle.amo_params.specs.declared.givens.Givens.{Givens}

-- if so many jobs are free, no two workers that know the done jobs choose near each other: m m + m
-- - 1, for m workers
abbrev pub width : Givens → ℕ
width g = g.workers * g.workers + g.workers - 1

-- n (9 m m + 2 m + 1) + 2 m m + m, for n jobs and m workers
abbrev pub most_turns : Givens → ℕ
most_turns g = g.jobs * (9 * (g.workers * g.workers) + 2 * g.workers + 1) + 2 * (g.workers * g.workers) + g.workers
