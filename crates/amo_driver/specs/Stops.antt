-- Where a process stands that has ended or stopped.
use Rattle.std.specs.Prelude.{◌≡◌, ℕ, ◌-◌, ◌^◌, false, List, [], Option, Some, None}
use Rattle.amo_process.specs.Stepped.{ProcessView, access_of, is_refused}
use Rattle.amo_process.specs.declared.access.Access.TheVariants.{Nothing}
use Rattle.amo_driver.specs.declared.answer.Reply.{Reply}
use Rattle.amo_driver.specs.declared.answer.Reply.TheVariants.{Answered, Running, Garbled, Closed}
use Rattle.amo_driver.specs.declared.answer.Way.{Way}
use Rattle.amo_driver.specs.declared.stop.LifeEnd.{LifeEnd}
use Rattle.amo_driver.specs.declared.stop.LifeEnd.TheVariants.{Over, Left, Cut}
use Rattle.amo_driver.specs.declared.stop.Stop.{Stop}
use Rattle.amo_driver.specs.declared.stop.Stop.TheVariants.{Failed, NoMemory, NoSuchNumber, NoAnswer, OtherAnswer, NoSerial, TooLong}
use Rattle.amo_driver.specs.declared.past.Asked.{Asked}
use Rattle.amo_driver.specs.declared.past.Asked.TheVariants.{All, Dismissed as DismissedBy, Cut as CutThere}
use Rattle.amo_driver.specs.declared.past.Intent.{Intent}
use Rattle.amo_driver.specs.Stage.{Stage, Going, Intending, Asking, Dismissed, Gone, Unanswered, Refused, Broken}
use Rattle.amo_driver.specs.Standing.{DoesMore}

-- the serial number of the intent to which this is an answer
abbrev pub serial_of : Reply → Option ℕ
serial_of (Answered n c way) = Some n
serial_of (Running n way) = Some n
serial_of Garbled = None
serial_of Closed = None

-- The stage of a process that has ended so: its worker wants nothing more, it has left, or nothing
-- more can come in answer.
abbrev pub EndsAt : (Stage → Type 0) → LifeEnd → Type 0
EndsAt stands Over = (s : ℕ) × (a : ProcessView) × (way : Way) × stands (Going s a way)
    × (access_of a.givens a.number a.standing ≡ Nothing) × (is_refused a.standing ≡ false)
EndsAt stands Left = stands Gone
EndsAt stands (Cut s) = stands (Unanswered s Closed)

-- The stage of a process that has halted so: nothing is due at it, unless no serial number is left.
-- Memory and turns are no reason here.
abbrev pub HaltsAt : (Stage → Type 0) → Stop → Type 0
HaltsAt stands Failed = stands Broken
HaltsAt stands NoMemory = ⊥
HaltsAt stands (NoSuchNumber w v) = stands (Refused w v)
HaltsAt stands (NoAnswer s) = stands (Unanswered s Garbled)
HaltsAt stands (OtherAnswer s n) = (reply : Reply) × stands (Unanswered s reply) × (serial_of reply ≡ Some n)
HaltsAt stands NoSerial = (a : ProcessView) × (j : ℕ) × stands (Intending (2 ^ 64 - 1) a j)
HaltsAt stands TooLong = ⊥

-- The stage of a process that was first at `first` and has stopped so. Out of memory, it has done
-- nothing. After too many turns, it has done a deed in each. Else it has halted.
abbrev pub StopsAt : (first : Stage) → (stands : Stage → Type 0) → (before after : ℕ → Type 0) → Stop → Type 0
StopsAt first stands before after NoMemory = stands first
StopsAt first stands before after TooLong = (s : ℕ) × (a : ProcessView) × (way : Way) × stands (Going s a way) × DoesMore (2 ^ 64 - 1) before after
StopsAt first stands before after stop = HaltsAt stands stop

-- The stage after the asking has ended so: all were asked for, it is to leave, or nothing more can
-- come in answer.
abbrev pub AsksTo : (Stage → Type 0) → Asked → Type 0
AsksTo stands All = stands (Asking [])
AsksTo stands DismissedBy = (rest : List Intent) × stands (Dismissed rest)
AsksTo stands (CutThere s) = stands (Unanswered s Closed)
