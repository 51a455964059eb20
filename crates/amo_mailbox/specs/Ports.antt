-- The queue and its ends, as contracts see them.
use Rattle.std.specs.Prelude.{ℕ, List}
use Rattle.crossbeam_queue.specs.Passes.{Pass}
use Rattle.amo_mailbox.specs.declared.output.Output.{Output}
use Rattle.amo_mailbox.specs.declared.pass_state.PassState.{PassState}

-- An outlet: its pass and worker, what it kept, how many it was given, and for how many it has
-- room.
pub record OutletView (Out : Type 0) : Type 0 where
  pub pass : Pass (Output Out) (PassState Out)
  pub worker : ℕ
  pub kept : List (Output Out)
  pub put_count : ℕ
  pub room : ℕ

-- An inlet: its pass, what it took, and for how many it has room.
pub record InletView (Out : Type 0) : Type 0 where
  pub pass : Pass (Output Out) (PassState Out)
  pub taken : List (Output Out)
  pub room : ℕ
