-- How a worker that runs alone comes to rest.
use Rattle.std.specs.Prelude.{◌≡◌, ℕ, suc, ◌<◌}
use Rattle.amo_kk.specs.World.{process}
use Rattle.amo_params.specs.Givens.{lone_bound}
use Rattle.amo_kk.specs.Alone.{world_after_turns, IsFirstToClaimOrEnd, FitsThreeAttempts}
use Rattle.amo_params.specs.declared.givens.Givens.{Givens}
use Rattle.amo_kk.specs.declared.model.World.{World}
use Rattle.amo_world.specs.declared.answer.Alone.{Alone}
use Rattle.amo_world.specs.Answer.{alone_answer}

-- Turns of p alone lead from one world to the other: the last one, and no other, claims a job or
-- ends p, and answers which. So many others come before it.
pub record RunsAlone (g : Givens) (before : World) (p : ℕ) (after : World) (answer : Alone) : Type 0 where
  pub others : ℕ
  pub soon : others < lone_bound g
  pub first : IsFirstToClaimOrEnd g before p others
  pub few : FitsThreeAttempts g before p others
  pub leads : after ≡ world_after_turns g before p (suc others)
  pub answers : answer ≡ alone_answer (process (world_after_turns g before p others) p).local.phase
