-- Why a command is not carried out.
use Rattle.std.specs.Prelude.{true, false}
use Rattle.amo_operator.specs.declared.halt.Halt.{Halt}
use Rattle.amo_operator.specs.declared.halt.Halt.TheVariants as H
use Rattle.amo_operator.specs.declared.model.Command.{Command}
use Rattle.amo_operator.specs.Phase.{Phase, Enters, Ended}
use Rattle.amo_operator.specs.Protocol.{Lives}

-- The phase in which a command then is. It may call nothing any more, since a call has failed, a
-- log can't be read, or an answer is refused. If it has no lock of the answers, or an attempt may
-- still run, it has no lock. Out of memory says nothing.
abbrev pub Halts : (Phase → Type 0) → Command → Halt → Type 0
Halts stands command H.Memory = Lives stands
Halts stands command H.Held = stands (Enters command true)
Halts stands command (H.Running number) = stands (Enters command false)
Halts stands command _ = stands Ended

-- The reason is one of what was read or said, and this is so. Out of memory says nothing.
abbrev pub Because : Halt → Type 0 → Type 0
Because H.Memory cause = Unit {0}
Because H.Host cause = ⊥
Because H.Held cause = ⊥
Because (H.Running number) cause = ⊥
Because _ cause = cause
