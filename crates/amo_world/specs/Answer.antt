-- The results of the calls on a world, as functions of the world before them.
use Rattle.std.specs.Prelude.{ℕ, List, ◌==◌, if◌then◌else◌}
use Rattle.amo_kk.specs.Object.{first_object}
use Rattle.amo_kk.specs.Run.{first_bad}
use Rattle.amo_kk.specs.World.{process}
use Rattle.amo_kk.specs.Answer.{turn_shown}
use Rattle.amo_params.specs.declared.givens.Givens.{Givens}
use Rattle.amo_kk.specs.declared.phase.Phase.{Phase}
use Rattle.amo_kk.specs.declared.phase.Phase.TheVariants.{Claiming}
use Rattle.amo_kk.specs.declared.event.Event.{Event}
use Rattle.amo_kk.specs.declared.event.Shown.{Shown}
use Rattle.amo_kk.specs.declared.event.Shown.TheVariants.{Quiet, Claimed, Done, DoneEnded, Ended, Left}
use Rattle.amo_kk.specs.declared.model.World.{World}
use Rattle.amo_world.specs.declared.answer.Turned.{Turned}
use Rattle.amo_world.specs.declared.answer.Turned.TheVariants.{Moved, Claimed as ClaimedTurn, Done as DoneTurn, DoneEnded as DoneEndedTurn, Ended as EndedTurn, Idle}
use Rattle.amo_world.specs.declared.answer.Alone.{Alone}
use Rattle.amo_world.specs.declared.answer.Alone.TheVariants.{Claimed as ClaimedAlone, Ended as EndedAlone}
use Rattle.amo_world.specs.declared.answer.Verdict.{Verdict}
use Rattle.amo_world.specs.declared.answer.Verdict.TheVariants.{Lawful, FirstBad}

-- what a step shows, in the words of a turn
abbrev pub turned : Shown → Turned
turned Quiet = Moved
turned (Claimed j) = ClaimedTurn j
turned (Done j) = DoneTurn j
turned (DoneEnded j) = DoneEndedTurn j
turned Ended = EndedTurn
turned Left = Moved

-- what a turn of p answers: Idle where p is gone, else what its step shows
abbrev pub turn_answer : Givens → World → ℕ → Turned
turn_answer g w p = if (process w p).gone then Idle else turned (turn_shown g w p)

-- what the last turn of a worker that runs alone answers, by the phase before it
abbrev pub alone_answer : Phase → Alone
alone_answer (Claiming j) = ClaimedAlone j
alone_answer phase = EndedAlone

-- what the judge says of these events
abbrev pub verdict : Givens → List Event → Verdict
verdict g events = if first_bad g (first_object g) events == 0 then Lawful else FirstBad (first_bad g (first_object g) events)
