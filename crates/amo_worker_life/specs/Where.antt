-- The stages at which a worker may be, by the phases in which its host may be.
use Rattle.std.specs.Prelude.{◌≡◌, ◌⊎◌, ℕ, Bool, true, false, List, [], Option, Some, None}
use Rattle.amo_driver.specs.declared.answer.Reply.{Reply}
use Rattle.amo_driver.specs.declared.answer.Reply.TheVariants.{Answered, Running}
use Rattle.amo_driver.specs.declared.answer.Way.{Way}
use Rattle.amo_driver.specs.declared.answer.Way.TheVariants.{Go, Leave}
use Rattle.amo_driver.specs.declared.stop.Stop.{Stop}
use Rattle.amo_driver.specs.declared.stop.Stop.TheVariants.{Failed, NoMemory, NoSuchNumber, NoAnswer, OtherAnswer, NoSerial, TooLong}
use Rattle.amo_driver.specs.Course.{due}
use Rattle.amo_driver.specs.Stage.{Stage, Asking, Broken as BrokenStage}
use Rattle.amo_host.specs.Logs.{Logs}
use Rattle.amo_host.specs.declared.model.LogFile.{LogFile}
use Rattle.amo_host.specs.Phase.{Identity, Phase, Asks, Ended, Idle, Works}
use Rattle.amo_host.specs.Protocol.{Lives}
use Rattle.amo_runner_protocol.specs.Replies.{way_in}
use Rattle.amo_worker_life.specs.declared.halt.Halt.{Halt}
use Rattle.amo_worker_life.specs.declared.halt.Halt.TheVariants as H
use Rattle.amo_worker_life.specs.declared.halt.Health.{Health}
use Rattle.amo_worker_life.specs.declared.halt.Health.TheVariants.{Fine, Broken, Lost}
use Rattle.amo_worker_life.specs.declared.part.OverReply.{OverReply}
use Rattle.amo_worker_life.specs.declared.part.OverReply.TheVariants.{Stays, Leaves, Closed, Invalid}

-- The worker of this number, whose run knows these lines.
abbrev pub me_of : ℕ → List (List ℕ) → Identity
me_of number lines = record { worker = number; lines = lines }

-- The health after a call in a round has failed.
abbrev pub broken : Health → Health
broken Fine = Broken
broken Broken = Broken
broken Lost = Lost

-- While it asks, a worker has this reason to go no further, and it is true: after a call that
-- failed nothing is due. Without memory or the line it has called nothing.
abbrev pub AsksNoMore : (Phase → Type 0) → Identity → Halt → Type 0
AsksNoMore stands me H.Host = stands (Asks me BrokenStage)
AsksNoMore stands me H.Memory = Lives stands
AsksNoMore stands me H.NoLine = Lives stands
AsksNoMore stands me _ = ⊥

-- A worker whose asking has failed is at the stage after a call that failed, or had no memory or no
-- line.
abbrev pub HasFailedAsking : (Phase → Type 0) → Identity → Option Halt → Type 0
HasFailedAsking stands me halt = stands (Asks me BrokenStage) ⊎ ((why : Halt) × (halt ≡ Some why) × AsksNoMore stands me why)

-- Before a round: if it isn't fine, it makes no further call, and there is a reason.
abbrev pub AsksAt : (Phase → Type 0) → Identity → Health → Option Halt → Stage → Type 0
AsksAt stands me Fine halt st = stands (Asks me st)
AsksAt stands me Broken halt st = ⊥
AsksAt stands me Lost halt st = (st ≡ BrokenStage) × Lives stands × (why : Halt) × (halt ≡ Some why) × AsksNoMore stands me why

-- In a round, a worker has this true reason to make no further call. It may make none after an
-- append that failed, and once a log couldn't be read on. Without memory or the line it has called
-- nothing.
abbrev pub WorksNoMore : (Phase → Type 0) → Halt → Type 0
WorksNoMore stands H.Host = stands Ended
WorksNoMore stands (H.Unread log) = stands Ended
WorksNoMore stands H.Memory = Lives stands
WorksNoMore stands H.NoLine = Lives stands
WorksNoMore stands _ = ⊥

-- In a round.
abbrev pub WorksAt : (Phase → Type 0) → Identity → (jobs : List ℕ) → Logs → Health → Option Halt → Stage → Type 0
WorksAt stands me jobs logs Fine halt st = (owes : Bool) × stands (Works me jobs st owes logs)
WorksAt stands me jobs logs Broken halt st = (st ≡ BrokenStage) × (owes : Bool) × stands (Works me jobs BrokenStage owes logs)
WorksAt stands me jobs logs Lost halt st = (st ≡ BrokenStage) × Lives stands × (why : Halt) × (halt ≡ Some why) × WorksNoMore stands why

-- A worker's work in a round has failed. It is at the stage after a call that failed, it may make
-- no further call, or it had no memory or no line.
abbrev pub HasFailed : (Phase → Type 0) → Identity → (jobs : List ℕ) → Logs → Option Halt → Type 0
HasFailed stands me jobs logs halt = ((owes : Bool) × stands (Works me jobs BrokenStage owes logs)) ⊎ ((why : Halt) × (halt ≡ Some why) × WorksNoMore stands why)

-- A worker couldn't read a log on: the call failed, or the texts can't follow what was read before.
abbrev pub IsUnread : Option Halt → Type 0
IsUnread halt = (halt ≡ Some H.Host) ⊎ ((log : LogFile) × (halt ≡ Some (H.Unread log)))

-- It works at a stage at which nothing is due, and owes nothing.
abbrev pub IsOver : (Phase → Type 0) → Identity → (jobs : List ℕ) → Logs → (Stage → Type 0) → Type 0
IsOver stands me jobs logs How = (st : Stage) × How st × (due st ≡ None) × stands (Works me jobs st false logs)

-- It works in a round, nothing is due, and it owes nothing.
abbrev pub HasPaid : (Phase → Type 0) → Identity → (jobs : List ℕ) → Logs → Type 0
HasPaid stands me jobs logs = (st : Stage) × stands (Works me jobs st false logs) × (due st ≡ None)

-- It has read logs, and is in the phase that they give.
abbrev pub IsAt : (Phase → Type 0) → (Logs → Phase) → Option Logs → Type 0
IsAt stands phase read = (logs : Logs) × (read ≡ Some logs) × stands (phase logs)

-- The phase of a worker that is in no round and has asked for all earlier attempts, by the logs
-- that it has read in earlier rounds.
abbrev pub idle_at : Identity → Option Logs → Phase
idle_at me None = Asks me (Asking [])
idle_at me (Some logs) = Idle me logs

-- The reply to `over` by whether the worker must leave.
abbrev pub reply_of_way : Option Way → OverReply
reply_of_way (Some Go) = Stays
reply_of_way (Some Leave) = Leaves
reply_of_way None = Invalid

-- The reply to `over` that this line is, without its end. If no whole line came, the runner is
-- gone.
abbrev pub over_reply : Option (List ℕ) → OverReply
over_reply (Some line) = reply_of_way (way_in line)
over_reply None = Closed

-- Whether a reply has the worker leave.
abbrev pub dismisses : Reply → Bool
dismisses (Answered serial result Leave) = true
dismisses (Running serial Leave) = true
dismisses reply = false

-- Whether by a reply the attempt still runs.
abbrev pub leaves_running : Reply → Bool
leaves_running (Running serial way) = true
leaves_running reply = false

-- Whether nothing more is due after this stop.
abbrev pub ends_the_work : Stop → Bool
ends_the_work Failed = true
ends_the_work NoMemory = false
ends_the_work (NoSuchNumber w v) = true
ends_the_work (NoAnswer s) = true
ends_the_work (OtherAnswer s n) = true
ends_the_work NoSerial = false
ends_the_work TooLong = false
