-- Within this crate: a process between two turns, the asking between two questions, and the replies
-- on an intent.
use Rattle.std.specs.Prelude.{◌≡◌, ℕ, false, List, Option, Some, None, Result, Ok, Err, ◌==◌, if◌then◌else◌}
use Rattle.amo_process.specs.Stepped.{is_refused}
use Rattle.amo_driver.specs.declared.answer.Heard.{Heard}
use Rattle.amo_driver.specs.declared.answer.Heard.TheVariants.{Ended, Runs, Silence}
use Rattle.amo_driver.specs.declared.answer.Reply.{Reply}
use Rattle.amo_driver.specs.declared.answer.Reply.TheVariants.{Answered, Running, Garbled, Closed}
use Rattle.amo_driver.specs.declared.answer.Way.{Way}
use Rattle.amo_driver.specs.declared.answer.Way.TheVariants.{Go, Leave}
use Rattle.amo_driver.specs.declared.stop.LifeEnd.{LifeEnd}
use Rattle.amo_driver.specs.declared.stop.Stop.{Stop}
use Rattle.amo_driver.specs.declared.stop.Stop.TheVariants.{NoAnswer, OtherAnswer}
use Rattle.amo_driver.specs.declared.life.Life.{Life}
use Rattle.amo_driver.specs.declared.past.Asked.{Asked}
use Rattle.amo_driver.specs.declared.past.Asked.TheVariants.{Dismissed}
use Rattle.amo_driver.specs.declared.past.Intent.{Intent}
use Rattle.amo_driver.specs.Stage.{Stage, Going, Asking}
use Rattle.amo_driver.specs.Course.{stage_heard}
use Rattle.amo_driver.specs.Stops.{EndsAt, AsksTo}

-- it goes on: the next access of its process is due
abbrev pub IsGoing : (Stage → Type 0) → Life → Type 0
IsGoing stands l = stands (Going l.next l.process l.way) × (is_refused l.process.standing ≡ false)

-- its process has just read a number, and hasn't refused it
abbrev pub HasHeard : (Stage → Type 0) → Life → Type 0
HasHeard stands l = stands (stage_heard l.next l.way l.process) × (is_refused l.process.standing ≡ false)

-- after a turn it goes on, or it has ended so
abbrev pub TurnsTo : (Stage → Type 0) → Life → Option LifeEnd → Type 0
TurnsTo stands l None = IsGoing stands l
TurnsTo stands l (Some end) = EndsAt stands end

-- whether the asking ends with an answer that says this
abbrev pub asked_after : Way → Option Asked
asked_after Go = None
asked_after Leave = Some Dismissed

-- after one was asked for, these are left, or the asking has ended so
abbrev pub AsksOn : (Stage → Type 0) → List Intent → Option Asked → Type 0
AsksOn stands rest None = stands (Asking rest)
AsksOn stands rest (Some asked) = AsksTo stands asked

-- the news on intent s in this reply; a reply to another intent has none
abbrev pub heard_of : ℕ → Reply → Result Heard Stop
heard_of s (Answered n c way) = if n == s then Ok (Ended c way) else Err (OtherAnswer s n)
heard_of s (Running n way) = if n == s then Ok (Runs way) else Err (OtherAnswer s n)
heard_of s Garbled = Err (NoAnswer s)
heard_of s Closed = Ok Silence
