-- The results of the calls, as functions of the record or the world before them.
use Rattle.std.specs.Prelude.{ℕ, if◌then◌else◌}
use Rattle.amo_kk.specs.Step.{want, record_after, shown}
use Rattle.amo_kk.specs.World.{process, loaded_value}
use Rattle.amo_params.specs.declared.givens.Givens.{Givens}
use Rattle.amo_kk.specs.declared.phase.Phase.{Phase}
use Rattle.amo_kk.specs.declared.phase.Phase.TheVariants.{Holding, Over, Left as LeftPhase}
use Rattle.amo_kk.specs.declared.event.Shown.{Shown}
use Rattle.amo_kk.specs.declared.event.Leaving.{Leaving}
use Rattle.amo_kk.specs.declared.event.Leaving.TheVariants.{Left as LeftNow, InHand, Gone}
use Rattle.amo_kk.specs.declared.model.World.{World}

-- what the step of worker p, which isn't gone, shows
abbrev pub turn_shown : Givens → World → ℕ → Shown
turn_shown g w p = let r = (process w p).local in shown r.phase (record_after g p (loaded_value w (want r)) r).phase

-- what becomes of a worker in this phase, which isn't gone, if it is asked to leave
abbrev pub leaving : Phase → Leaving
leaving (Holding j) = InHand j
leaving Over = Gone
leaving LeftPhase = Gone
leaving phase = LeftNow

-- what p answers if it is asked to leave: Gone where p is gone, whatever it has in its hand
abbrev pub leave_answer : World → ℕ → Leaving
leave_answer w p = if (process w p).gone then Gone else leaving (process w p).local.phase
