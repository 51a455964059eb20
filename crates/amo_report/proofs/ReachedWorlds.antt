-- A world that is reached by so many moves is lawful. Its history is judged lawful, and no worker
-- has had more steps than there were moves.
use Rattle.std.proofs.Common.{◌≡◌, ℕ, ◌+◌, ◌≤◌, false, List, [], ◌∷◌, ◌++◌, length, length-append, lit≤, refl, ap, ◌∙◌, subst, arith}
use Rattle.std.specs.Prelude.{replicate}
use Rattle.std.proofs.lemmas.List.{length-replicate}
use Rattle.amo_kk.specs.Object.{first_object}
use Rattle.amo_params.specs.Givens.{IsWorker}
use Rattle.amo_kk.specs.World.{process, world_after_halt, world_after_moves, opening_world, world_of}
use Rattle.amo_kk.specs.Alone.{world_after_turns}
use Rattle.amo_kk.specs.Lawful.{IsLawful}
use Rattle.amo_params.specs.declared.givens.Givens.{Givens}
use Rattle.amo_params.specs.declared.moves.Move.{Move}
use Rattle.amo_params.specs.declared.moves.Move.TheVariants.{Turn, Halt}
use Rattle.amo_kk.specs.declared.model.World.{World}
use Rattle.amo_kk.proofs.Worlds.{opening_lawful, always_lawful, here_is_worker}
use Rattle.amo_kk.proofs.Runs.{always_runs}
use Rattle.amo_kk.proofs.Moves.{world_after_moves-append, steps, moves_steps, opening_steps}
use Rattle.amo_kk.proofs.Claims.{run_first_bad}
use Rattle.amo_world.specs.Answer.{verdict}
use Rattle.amo_world.specs.declared.answer.Verdict.TheVariants.{Lawful}
use Rattle.amo_report.specs.Reached.{IsReached}
use Rattle.amo_report.proofs.Explored.{lawful_history}

pub reached_lawful : (g : Givens) (most : ℕ) (w : World) → IsReached g most w → IsLawful g w
reached_lawful g most w way = subst (IsLawful g) way.leads (always_lawful g way.moves g.limits)

-- who isn't gone in it is one of the workers
pub reached_worker : (g : Givens) (most : ℕ) (w : World) (p : ℕ) → IsReached g most w → (process w p).gone ≡ false → IsWorker g p
reached_worker g most w p way here = here_is_worker g w p (reached_lawful g most w way).size here

pub reached_verdict : (g : Givens) (most : ℕ) (w : World) → IsReached g most w → verdict g w.history ≡ Lawful
reached_verdict g most w way =
    subst (λ (x : World). verdict g x.history ≡ Lawful) way.leads
    (lawful_history g (world_of g way.moves).history (run_first_bad g (first_object g) (world_of g way.moves).history (always_runs g way.moves g.limits).0))

pub reached_steps : (g : Givens) (most : ℕ) (w : World) (q : ℕ) → IsReached g most w → (process w q).local.steps ≤ most
reached_steps g most w q way =
    subst (λ x. steps x q ≤ most) way.leads
    (let few = way.few in let none = opening_steps g q in let all = moves_steps g (opening_world g) way.moves q (opening_lawful g g.limits) in omega arith)

-- a world is still reached by more moves
pub reached_later : (g : Givens) (few most : ℕ) (w : World) → few ≤ most → IsReached g few w → IsReached g most w
reached_later g few most w l way = record { moves = way.moves; few = (let f = way.few in omega arith); leads = way.leads }

-- moves more
pub reached_more : (g : Givens) (most more : ℕ) (w : World) (ms : List Move) → length ms ≤ more → IsReached g most w → IsReached g (most + more) (world_after_moves g w ms)
reached_more g most more w ms l way =
    record {
      moves = way.moves ++ ms;
      few = (let f = way.few in let e = length-append way.moves ms in omega arith);
      leads = world_after_moves-append g (opening_world g) way.moves ms ∙ ap (λ x. world_after_moves g x ms) way.leads;
    }

pub reached_turns : (g : Givens) (most : ℕ) (w : World) (p n : ℕ) → IsReached g most w → IsReached g (most + n) (world_after_turns g w p n)
reached_turns g most w p n way = reached_more g most n w (replicate n (Turn p)) (let e = length-replicate n (Turn p) in omega arith) way

pub reached_halt : (g : Givens) (most : ℕ) (w : World) (p : ℕ) → IsReached g most w → IsReached g (most + 1) (world_after_halt w p)
reached_halt g most w p way = reached_more g most 1 w (Halt p ∷ []) (lit≤ tt) way

pub reached_first : (g : Givens) (most : ℕ) (ms : List Move) → length ms ≤ most → IsReached g most (world_of g ms)
reached_first g most ms l = record { moves = ms; few = l; leads = refl }
