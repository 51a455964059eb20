-- While many jobs are free few turns are taken, whatever the threshold.
use Rattle.std.proofs.Common.{◌≡◌, inr, ℕ, ◌+◌, ◌≤◌, Bool, true, false, not, ◌&&◌, List, [], ◌∷◌, length, refl, sym, ap, ◌∙◌, arith}
use Rattle.std.proofs.lemmas.List.{length-map}
use Rattle.amo_sets.specs.Sets.{has}
use Rattle.amo_sets.specs.Rank.{count}
use Rattle.amo_sets.proofs.Numbers.{count_has, count_neither, count_nothing}
use Rattle.amo_params.specs.Givens.{IsJob}
use Rattle.amo_kk.specs.Run.{done_jobs}
use Rattle.amo_kk.specs.World.{world_after_move, world_after_moves, opening_world}
use Rattle.amo_kk.specs.Lawful.{IsLawful, HasRun, object_of}
use Rattle.amo_params.specs.declared.givens.Givens.{Givens}
use Rattle.amo_kk.specs.declared.model.World.{World}
use Rattle.amo_params.specs.declared.moves.Move.{Move}
use Rattle.amo_kk.proofs.Counts.{performed_count}
use Rattle.amo_kk.proofs.Runs.{move_runs, always_runs}
use Rattle.amo_kk.proofs.Steps.{all_jobs, has_all}
use Rattle.amo_kk.proofs.Worlds.{move_lawful, opening_lawful}
use Rattle.amo_bounds.specs.Rest.{turns_taken}
use Rattle.amo_bounds.specs.Fewest.{jobs_done}
use Rattle.amo_bounds.specs.Turns.{width, most_turns}
use Rattle.amo_bounds.proofs.Histories.{dones_grow}
use Rattle.amo_bounds.proofs.Still.{view}
use Rattle.amo_bounds.proofs.Potential.{HasPotential, weight}
use Rattle.amo_bounds.proofs.Few.{step, opening_potential, opening_weighs}

-- what isn't free has been shown done
free_or_done : (g : Givens) (w : World) → HasRun g w → (h : HasPotential g (view w)) → g.jobs ≤ count g.jobs h.free + length (done_jobs w.history)
free_or_done g w run h =
    let size : length (all_jobs performed) ≡ length performed = length-map performed (λ (x : ℕ × ℕ). x.1) in
    let same = sym (performed_count g w.history) in
    let few = count_has (all_jobs performed) g.jobs in
    let all = count_neither h.free (has (all_jobs performed)) g.jobs in
    let none = count_nothing g.jobs (λ k. not (h.free k) && not (has (all_jobs performed) k)) (λ j low high. neither j (h.free j) refl (record { low = low; high = high })) in
    omega arith
  where
    performed : List (ℕ × ℕ)
    performed = (object_of g w).performed

    neither : (j : ℕ) (b : Bool) → h.free j ≡ b → IsJob g j → (not (h.free j) && not (has (all_jobs performed) j)) ≡ false
    neither j true e job = ap (λ b. not b && not (has (all_jobs performed) j)) e
    neither j false e job =
        let d = h.done j job e in
        let there = has_all performed d.0 j (ap (λ l. has l j) (run.1.performed d.0) ∙ d.2) in
        λ i. not (e i) && not (there i)

taken_while_free : (g : Givens) (w : World) (ms : List Move) → IsLawful g w → HasRun g w → (h : HasPotential g (view w))
    → width g + length (done_jobs (world_after_moves g w ms).history) ≤ g.jobs → turns_taken g w ms ≤ weight g (view w) h
taken_while_free g w [] law run h room = omega arith
taken_while_free g w (m ∷ ms) law run h room =
    let here = free_or_done g w run h in
    let grown = dones_grow g w (m ∷ ms) in
    let n = step g w m law h (inr (omega arith)) in
    let rest = taken_while_free g (world_after_move g w m) ms (move_lawful g w m g.limits law) (move_runs g w m g.limits law run) n.0 room in
    let l = n.1 in
    omega arith

pub few_while_free : (g : Givens) (ms : List Move) → width g + jobs_done g ms ≤ g.jobs → turns_taken g (opening_world g) ms ≤ most_turns g
few_while_free g ms room =
    let few = taken_while_free g (opening_world g) ms (opening_lawful g g.limits) (always_runs g [] g.limits) (opening_potential g (inr (omega arith))) room in
    let most = opening_weighs g (inr (omega arith)) in
    omega arith
