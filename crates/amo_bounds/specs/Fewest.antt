-- How few jobs may be done once a worker has ended, and over which moves that is the least.
use Rattle.std.specs.Prelude.{◌≡◌, ℕ, ◌<◌, ◌≤◌, true, false, List, [], ◌∷◌, length, nat_lt, ◌==◌, if◌then◌else◌}
use Rattle.amo_sets.specs.Sets.{has}
use Rattle.amo_params.specs.Givens.{bound, IsWorker}
use Rattle.amo_kk.specs.Record.{is_over}
use Rattle.amo_kk.specs.Run.{done_jobs}
use Rattle.amo_kk.specs.World.{process, world_of}
use Rattle.amo_params.specs.declared.givens.Givens.{Givens}
use Rattle.amo_params.specs.declared.moves.Move.{Move}
use Rattle.amo_params.specs.declared.moves.Move.TheVariants.{Halt, Leave}

-- none if there are fewer jobs than the threshold, since all are over from birth; else the bound,
-- but at least one
abbrev pub fewest : Givens → ℕ
fewest g = if nat_lt g.jobs g.beta then 0 else (if bound g == 0 then 1 else bound g)

-- how many jobs are done then, as the history shows
abbrev pub jobs_done : Givens → List Move → ℕ
jobs_done g ms = length (done_jobs (world_of g ms).history)

-- the workers that the moves halt, in their order
abbrev pub stopped : List Move → List ℕ
stopped [] = []
stopped (Halt p ∷ ms) = p ∷ stopped ms
stopped (m ∷ ms) = stopped ms

-- the workers that leave in them, if they may, in their order
abbrev pub leavers : List Move → List ℕ
leavers [] = []
leavers (Leave p ∷ ms) = p ∷ leavers ms
leavers (m ∷ ms) = leavers ms

-- The moves are turns and fewer halts than there are workers. After them all workers are gone.
pub record ComesToEnd (g : Givens) (ms : List Move) : Type 0 where
  pub none_leaves : leavers ms ≡ []
  pub few_stops : length (stopped ms) < g.workers
  pub gone : (p : ℕ) → IsWorker g p → (process (world_of g ms) p).gone ≡ true

-- The moves come to an end, each worker that wasn't halted has ended, and no more jobs are done
-- than the fewest.
pub record IsWorst (g : Givens) (ms : List Move) : Type 0 where
  pub comes_to_end : ComesToEnd g ms
  pub ended : (p : ℕ) → IsWorker g p → has (stopped ms) p ≡ false → is_over (process (world_of g ms) p).local.phase ≡ true
  pub done : jobs_done g ms ≡ fewest g

-- The least number of jobs done, over all moves that come to an end, is k.
pub record IsEffectiveness (g : Givens) (k : ℕ) : Type 0 where
  pub least : (ms : List Move) → ComesToEnd g ms → k ≤ jobs_done g ms
  pub met : (ms : List Move) × ComesToEnd g ms × (jobs_done g ms ≡ k)
