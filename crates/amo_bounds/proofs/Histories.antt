-- The history only grows, and so does the number of jobs that it shows done.
use Rattle.std.proofs.Common.{◌≡◌, ◌≤◌, List, [], ◌∷◌, ◌++◌, length, refl, sym, ap, ◌∙◌, arith, length-append, append-nil}
use Rattle.amo_kk.specs.Run.{done_jobs}
use Rattle.amo_kk.specs.World.{world_after_move, world_after_moves}
use Rattle.amo_params.specs.declared.givens.Givens.{Givens}
use Rattle.amo_kk.specs.declared.model.World.{World}
use Rattle.amo_kk.specs.declared.event.Event.{Event}
use Rattle.amo_params.specs.declared.moves.Move.{Move}
use Rattle.amo_kk.proofs.Claims.{done-append}
use Rattle.amo_kk.proofs.Moves.{move_cases}

move_grows : (g : Givens) (w : World) (m : Move) → (events : List Event) × ((world_after_move g w m).history ≡ w.history ++ events)
move_grows g w m = move_cases g w m (λ v. (events : List Event) × (v.history ≡ w.history ++ events)) ([], sym (append-nil w.history)) (λ a events here moved. (events, refl))

pub dones_grow : (g : Givens) (w : World) (ms : List Move) → length (done_jobs w.history) ≤ length (done_jobs (world_after_moves g w ms).history)
dones_grow g w [] = omega arith
dones_grow g w (m ∷ ms) =
    let rest = dones_grow g (world_after_move g w m) ms in
    let more = move_grows g w m in
    let parts = ap length (ap done_jobs more.1 ∙ done-append w.history more.0) in
    let size = length-append (done_jobs w.history) (done_jobs more.0) in
    omega arith
