-- Wherever a worker has ended, the fewest are done: the bound, and one job at least.
use Rattle.std.proofs.Common.{◌≡◌, ⊎_elim, ℕ, ◌+◌, ◌<◌, ◌≤◌, Bool, true, false, List, sym, ap, ◌∙◌, subst, arith}
use Rattle.std.specs.Prelude.{if◌then◌else◌, ◌==◌}
use Rattle.std.proofs.lemmas.Bool.{cases_lt, le-ltb, lt-ltb}
use Rattle.amo_sets.specs.Sets.{has}
use Rattle.amo_params.specs.Givens.{IsWorker, bound}
use Rattle.amo_kk.specs.Record.{is_over}
use Rattle.amo_kk.specs.World.{process, world_of}
use Rattle.amo_kk.specs.Lawful.{IsSoundProcess, IsLawful, object_of}
use Rattle.amo_params.specs.declared.givens.Givens.{Givens}
use Rattle.amo_kk.specs.declared.model.Record.{Record}
use Rattle.amo_params.specs.declared.moves.Move.{Move}
use Rattle.amo_kk.proofs.Worlds.{always_lawful}
use Rattle.amo_kk.proofs.Steps.{enough}
use Rattle.amo_kk.proofs.Ends.{over_few}
use Rattle.amo_kk.proofs.Counts.{performed_count}
use Rattle.amo_kk.proofs.Runs.{always_runs}
use Rattle.amo_bounds.specs.Fewest.{fewest, jobs_done}
use Rattle.amo_bounds.proofs.Firsts.{some_done}

-- and the bound
bound_done : (g : Givens) (ms : List Move) (p : ℕ) → IsWorker g p → is_over (process (world_of g ms) p).local.phase ≡ true → g.jobs + 2 ≤ jobs_done g ms + g.beta + g.workers
bound_done g ms p o over =
    let run = always_runs g ms g.limits in
    let same = sym (performed_count g (world_of g ms).history) in
    let all = enough g r (object_of g (world_of g ms)).performed g.limits.some (over_few g p r r.phase over sound.local.stands) sound.local.tried_few
    (λ j h. let d = law.lawful.known p j o h in (d.0, ap (λ l. has l j) (run.1.performed d.0) ∙ d.2)) in
    omega arith
  where
    r : Record
    r = (process (world_of g ms) p).local

    law : IsLawful g (world_of g ms)
    law = always_lawful g ms g.limits

    sound : IsSoundProcess g p (process (world_of g ms) p)
    sound = law.lawful.sound p o

pub fewest_done : (g : Givens) (ms : List Move) (p : ℕ) → IsWorker g p → is_over (process (world_of g ms) p).local.phase ≡ true → fewest g ≤ jobs_done g ms
fewest_done g ms p o over = ⊎_elim
    (λ (few : g.jobs < g.beta). subst (λ b. (if b then 0 else (if bound g == 0 then 1 else bound g)) ≤ jobs_done g ms) (sym (lt-ltb g.jobs g.beta few)) (omega arith))
    (λ (many : g.beta ≤ g.jobs). subst (λ b. (if b then 0 else (if bound g == 0 then 1 else bound g)) ≤ jobs_done g ms) (sym (le-ltb g.jobs g.beta many))
    (go (bound g == 0) (some_done g many ms p o over) (bound_done g ms p o over)))
    (cases_lt g.jobs g.beta)
  where
    go : (b : Bool) → 1 ≤ jobs_done g ms → g.jobs + 2 ≤ jobs_done g ms + g.beta + g.workers → (if b then 1 else bound g) ≤ jobs_done g ms
    go true one all = one
    go false one all = omega arith
