-- How a worker joins a round, or takes no part in it.
use Rattle.std.specs.Prelude.{ℕ, ◌==◌, ◌&&◌, ◌||◌, nat_le, if◌then◌else◌, Bool, false, Option, Some, None, is_none}
use Rattle.amo_params.specs.declared.limits.TheConstants.{MAX_WORKERS}
use Rattle.amo_params.specs.Givens.{IsWorker}
use Rattle.amo_driver.specs.Course.{first_stage}
use Rattle.amo_host.specs.Logs.{Logs}
use Rattle.amo_host.specs.Phase.{Identity, Phase, Works, Over}
use Rattle.amo_run_files.specs.declared.header.RoundHeader.{RoundHeader}
use Rattle.amo_run_files.specs.Rounds.{seat_of}
use Rattle.amo_worker_life.specs.declared.joining.Joined.{Joined}
use Rattle.amo_worker_life.specs.declared.joining.Joined.TheVariants.{TakesPart, PassesBy}
use Rattle.amo_worker_life.specs.Reading.{logs_of}
use Rattle.amo_worker_life.specs.Where.{IsAt}

-- Whether a round is the one that a worker has joined last.
abbrev pub has_joined : (joined : Option ℕ) → (round : ℕ) → Bool
has_joined None round = false
has_joined (Some last) round = last == round

-- Whether the header gives this worker no seat. It may give seats if its numbers are possible.
abbrev pub has_no_seat : (worker : ℕ) → RoundHeader → Bool
has_no_seat worker header =
    if (nat_le 1 header.first && nat_le header.first header.workers) && nat_le header.workers MAX_WORKERS
    then is_none (seat_of worker header.first header.workers header.givens.workers)
    else false

-- Whether a worker takes no part in a round: its part of it is over, since it has joined it before,
-- or it has no seat there.
abbrev pub takes_no_part : (worker : ℕ) → (joined : Option ℕ) → RoundHeader → Bool
takes_no_part worker joined header = has_joined joined header.round || has_no_seat worker header

-- It works in the round, or has unlocked it.
abbrev pub HasJoined : Joined → (Phase → Type 0) → Identity → (read : Option Logs) → (serial : ℕ) → Type 0
HasJoined (TakesPart seat logs) stands me read serial =
    stands (Works me seat.file.header.lines.items (first_stage seat.givens seat.participant serial) false (logs_of logs))
HasJoined PassesBy stands me read serial = IsAt stands (Over me) read

-- If it works in the round, its seat is one of the round's.
abbrev pub IsSeated : Joined → Type 0
IsSeated (TakesPart seat logs) = IsWorker seat.givens seat.participant
IsSeated PassesBy = Unit {0}
