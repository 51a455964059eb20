-- The values that are kept until the final accounting of a run.
use Rattle.std.specs.Prelude.{◌≡◌, ℕ, List}
use Rattle.amo_params.specs.declared.givens.Givens.{Givens}
use Rattle.amo_params.specs.declared.moves.Move.{Move}
use Rattle.amo_words.specs.Faces.{ClosedView}
use Rattle.amo_words.specs.Settling.{HasClosed, IsReadFrom, IsWholeOf}
use Rattle.amo_mailbox.specs.declared.output.Output.{Output}
use Rattle.amo_crew.specs.declared.outcome.End.{End}
use Rattle.amo_crew.specs.declared.outcome.Outcome.{Outcome}
use Rattle.amo_crew.specs.Outcomes.{HaveRun}

-- The floor, which is closed, and what the threads left.
pub record UnsettledView (P Out : Type 0) : Type 0 where
  pub floor : ClosedView P
  pub ends : List End
  pub outputs : List (Output Out)
  pub in_hand : List (ℕ × ℕ × P)

-- A run left these values: the floor was closed when its registry had seen these moves.
pub record IsUnsettled {P Out : Type 0} (related : ℕ → ℕ → P → Out → Type 0) (g : Givens) (payloads : List P) (budgets : List ℕ) (u : UnsettledView P Out) : Type 0 where
  pub seen : List Move
  pub closed : HasClosed g payloads seen u.floor.spots u.floor
  pub run : HaveRun related g payloads budgets u.floor.spots u.ends u.outputs u.in_hand

-- The outcome has the settlement that is read from the closed floor, whole for its book, and what
-- was held.
pub record IsSettledOf {P Out : Type 0} (u : UnsettledView P Out) (o : Outcome P Out) : Type 0 where
  pub read : IsReadFrom u.floor o.settlement
  pub whole : IsWholeOf u.floor o.settlement
  pub ends : o.ends.items ≡ u.ends
  pub outputs : o.outputs.items ≡ u.outputs
  pub in_hand : o.in_hand.items ≡ u.in_hand
