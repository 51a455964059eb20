-- Outside of a round: the phases in which a process is in no round, and that most calls leave a
-- process there. So whatever a function says of those phases holds after such a call too.
use Rattle.std.proofs.Common.{◌≡◌, ℕ, ◌∷◌, ◌++◌, List, [], length, Option, Some, None}
use Rattle.std.specs.Prelude.{⊤, Bool, true, false, Result, Ok, Err}
use Rattle.std.specs.Str.{bytes_eq}
use Rattle.amo_params.specs.declared.givens.Givens.{Givens}
use Rattle.amo_params.specs.declared.givens.GivensFault.{GivensFault}
use Rattle.amo_params.specs.Givens.{givens_of}
use Rattle.amo_driver.specs.Course.{due}
use Rattle.amo_driver.specs.Stage.{Stage, Going, Asking}
use Rattle.amo_driver.specs.declared.answer.Way.{Way}
use Rattle.amo_driver.specs.declared.answer.Way.TheVariants.{Go, Leave}
use Rattle.amo_run_files.specs.declared.extent.Extent.{Extent}
use Rattle.amo_run_files.specs.declared.round_file.RoundFile.{RoundFile}
use Rattle.amo_run_files.specs.Rounds.{seat_of}
use Rattle.amo_run_log.specs.declared.journal.Attempt.{Attempt}
use Rattle.amo_run_log.specs.Journals.{attempts_in}
use Rattle.amo_host.specs.declared.model.Hold.TheVariants.{Shared, Exclusive}
use Rattle.amo_host.specs.declared.model.LogFile.{LogFile}
use Rattle.amo_host.specs.Calls.{TryLock, Call, Tried, HasUnlocked, FolderIsKept, FolderIsSynced, BootIs, RoundIs, Recovered, JobsAre, RegistersAre, ListIs, LogIs, JobsAreMade, RoundIsMade, RegistersAreMade, Heard, Fell}
use Rattle.amo_host.specs.Beginning.{begins_on}
use Rattle.amo_host.specs.Joining.{joins_on, has_header, has_header_if, seated, are_of}
use Rattle.amo_host.specs.Logs.{Logs, logs_after, others}
use Rattle.amo_host.specs.Phase.{Identity, Start, Unborn, Guards, Checked, Knows, HasRecovered, Settled, Join, Locked, Booted, HasHeader, HasJobs, Seated, Begin, LockedAlone, BootedAlone, HasLast, KnowsJobs, ListHasGrown, KnowsAll, RoundMade, RegistersMade, Purpose, ToWork, ToBegin, Phase, Starts, Asks, Idle, Begins, Joins, Reads, Works, Unclear, Over, Stays, Ended}
use Rattle.amo_host.specs.Protocol.{stage_by, asks_on, idles_on, over_way, stays_if, over_on, stays_on, phase_after}
use Rattle.amo_host.specs.Reading.{reads_all, reads_more, reads_after}
use Rattle.amo_host.specs.Starting.{asks_first, guards_if, starts_on}

-- ---- in no round

-- The process is in no round, and has read no lines to work by. If it asks for earlier attempts, its
-- next call asks for one.
abbrev pub IsOutside : Phase → Type 0
IsOutside (Starts worker start) = ⊤
IsOutside (Asks me (Asking intents)) = ⊤
IsOutside (Idle me logs) = ⊤
IsOutside (Begins me begin) = ⊤
IsOutside (Joins me (Locked prior)) = ⊤
IsOutside (Joins me (Booted prior boot)) = ⊤
IsOutside (Joins me (HasHeader prior file)) = ⊤
IsOutside (Reads me (ToBegin boot last known list) logs counts left) = ⊤
IsOutside (Over me logs) = ⊤
IsOutside (Stays me logs) = ⊤
IsOutside Ended = ⊤
IsOutside ph = ⊥

-- Each call leaves the process outside of a round.
abbrev pub StaysOutside : Phase → Type 0
StaysOutside (Starts worker start) = ⊤
StaysOutside (Idle me logs) = ⊤
StaysOutside (Begins me begin) = ⊤
StaysOutside (Joins me (Locked prior)) = ⊤
StaysOutside (Joins me (Booted prior boot)) = ⊤
StaysOutside (Unclear s) = ⊤
StaysOutside (Over me logs) = ⊤
StaysOutside (Stays me logs) = ⊤
StaysOutside Ended = ⊤
StaysOutside ph = ⊥

guards_outside : (worker : ℕ) (got : Bool) → IsOutside (guards_if worker got)
guards_outside worker true = tt
guards_outside worker false = tt

first_outside : (worker : ℕ) (lines : List (List ℕ)) (es : Option (List Attempt)) → IsOutside (asks_first worker lines es)
first_outside worker lines None = tt
first_outside worker lines (Some es) = tt

starts_outside : (worker : ℕ) (start : Start) (c : Call) → IsOutside (starts_on worker start c)
starts_outside worker Unborn (Tried lock hold got) = guards_outside worker got
starts_outside worker Guards FolderIsKept = tt
starts_outside worker Checked (RoundIs last) = tt
starts_outside worker (Knows last) (Recovered from texts) = tt
starts_outside worker (HasRecovered last texts) FolderIsSynced = tt
starts_outside worker (Settled last texts) (JobsAre from lines) = first_outside worker lines (attempts_in (length lines) texts)
starts_outside worker start c = tt

idle_outside : (me : Identity) (logs : Logs) (c : Call) → IsOutside (idles_on me logs c)
idle_outside me logs (Tried lock Shared true) = tt
idle_outside me logs (Tried lock Exclusive true) = tt
idle_outside me logs (Tried lock Shared false) = tt
idle_outside me logs (Tried lock Exclusive false) = tt
idle_outside me logs c = tt

begins_outside : (me : Identity) (begin : Begin) (c : Call) → IsOutside (begins_on me begin c)
begins_outside me (LockedAlone prior) (BootIs boot) = tt
begins_outside me (BootedAlone prior boot) (RoundIs last) = tt
begins_outside me (HasLast prior boot last) (JobsAre from lines) = tt
begins_outside me (KnowsJobs prior boot last) (ListIs bytes) = tt
begins_outside me (ListHasGrown boot last logs counts) (JobsAreMade bytes) = tt
begins_outside me (KnowsAll boot last logs counts) (RoundIsMade file) = tt
begins_outside me (KnowsAll boot last logs counts) (HasUnlocked lock) = tt
begins_outside me (RoundMade file logs) (RegistersAreMade bytes) = tt
begins_outside me (RegistersMade logs) (HasUnlocked lock) = tt
begins_outside me begin c = tt

header_if_outside : (me : Identity) (prior : Option Logs) (file : RoundFile) (same : Bool) → IsOutside (has_header_if me prior file same)
header_if_outside me prior file true = tt
header_if_outside me prior file false = tt

header_outside : (me : Identity) (prior : Option Logs) (boot : List ℕ) (last : Option RoundFile) → IsOutside (has_header me prior boot last)
header_outside me prior boot None = tt
header_outside me prior boot (Some file) = header_if_outside me prior file (bytes_eq file.header.boot.items boot)

locked_outside : (me : Identity) (prior : Option Logs) (c : Call) → IsOutside (joins_on me (Locked prior) c)
locked_outside me prior (BootIs boot) = tt
locked_outside me prior c = tt

booted_outside : (me : Identity) (prior : Option Logs) (boot : List ℕ) (c : Call) → IsOutside (joins_on me (Booted prior boot) c)
booted_outside me prior boot (RoundIs last) = header_outside me prior boot last
booted_outside me prior boot c = tt

stays_if_outside : (me : Identity) (logs : Logs) (way : Option Way) → IsOutside (stays_if me logs way)
stays_if_outside me logs (Some Go) = tt
stays_if_outside me logs (Some Leave) = tt
stays_if_outside me logs None = tt

over_outside : (me : Identity) (logs : Logs) (c : Call) → IsOutside (over_on me logs c)
over_outside me logs (Heard line reply) = stays_if_outside me logs (over_way reply)
over_outside me logs c = tt

stay_outside : (me : Identity) (logs : Logs) (c : Call) → IsOutside (stays_on me logs c)
stay_outside me logs FolderIsKept = tt
stay_outside me logs c = tt

stays_outside : (ph : Phase) (c : Call) → StaysOutside ph → IsOutside (phase_after ph c)
stays_outside (Starts worker start) c stays = starts_outside worker start c
stays_outside (Idle me logs) c stays = idle_outside me logs c
stays_outside (Begins me begin) c stays = begins_outside me begin c
stays_outside (Joins me (Locked prior)) c stays = locked_outside me prior c
stays_outside (Joins me (Booted prior boot)) c stays = booted_outside me prior boot c
stays_outside (Unclear s) c stays = tt
stays_outside (Over me logs) c stays = over_outside me logs c
stays_outside (Stays me logs) c stays = stay_outside me logs c
stays_outside Ended c stays = tt
stays_outside ph c stays = absurd stays

-- ---- before its work in a round

-- The process has not begun to work in a round, or has called nothing since it began to work there.
abbrev pub IsBefore : Phase → Type 0
IsBefore (Joins me join) = ⊤
IsBefore (Reads me purpose logs counts left) = ⊤
IsBefore (Works me jobs (Going s a way) owes logs) = ⊤
IsBefore ph = IsOutside ph

-- Each call leaves the process before its work in a round.
abbrev pub StaysBefore : Phase → Type 0
StaysBefore (Joins me join) = ⊤
StaysBefore (Reads me purpose logs counts left) = ⊤
StaysBefore ph = StaysOutside ph

pub outside_before : (ph : Phase) → IsOutside ph → IsBefore ph
outside_before (Joins me join) out = tt
outside_before (Reads me purpose logs counts left) out = tt
outside_before (Works me jobs st owes logs) out = absurd out
outside_before ph out = out

seated_before : (me : Identity) (prior : Option Logs) (file : RoundFile) (seat : Option ℕ) (givens : Result Givens GivensFault) (fits : Bool)
    → IsBefore (seated me prior file seat givens fits)
seated_before me prior file (Some seat) (Ok givens) true = tt
seated_before me prior file (Some seat) (Ok givens) false = tt
seated_before me prior file (Some seat) (Err fault) fits = tt
seated_before me prior file None givens fits = tt

joins_before : (me : Identity) (join : Join) (c : Call) → IsBefore (joins_on me join c)
joins_before me (Locked prior) c = outside_before (joins_on me (Locked prior) c) (locked_outside me prior c)
joins_before me (Booted prior boot) c = outside_before (joins_on me (Booted prior boot) c) (booted_outside me prior boot c)
joins_before me (HasHeader prior file) (JobsAre last lines) = tt
joins_before me (HasHeader prior file) (HasUnlocked lock) = tt
joins_before me (HasJobs prior file) (RegistersAre front registers) =
    let h = file.header in
    seated_before me prior file (seat_of me.worker h.first h.workers h.givens.workers) (givens_of h.givens.jobs h.givens.workers h.givens.beta) (are_of h registers)
joins_before me (Seated prior file givens seat) FolderIsSynced = tt
joins_before me join c = tt

all_before : (me : Identity) (purpose : Purpose) (logs : Logs) (counts : List Extent) → IsBefore (reads_all me purpose logs counts)
all_before me (ToWork file givens seat) logs counts = tt
all_before me (ToBegin boot last known list) logs counts = tt

more_before : (me : Identity) (purpose : Purpose) (logs : Option Logs) (counts : List Extent) (left : List LogFile)
    → IsBefore (reads_more me purpose logs counts left)
more_before me purpose None counts left = tt
more_before me purpose (Some logs) counts (f ∷ left) = tt
more_before me purpose (Some logs) counts [] = all_before me purpose logs counts

reads_before : (me : Identity) (purpose : Purpose) (logs : Logs) (counts : List Extent) (left : List LogFile) (c : Call)
    → IsBefore (reads_after me purpose logs counts left c)
reads_before me purpose logs counts left (LogIs f last texts counted) =
    more_before me purpose (logs_after logs f texts) (counts ++ counted ∷ []) (others left)
reads_before me purpose logs counts left c = tt

stays_before : (ph : Phase) (c : Call) → StaysBefore ph → IsBefore (phase_after ph c)
stays_before (Joins me join) c stays = joins_before me join c
stays_before (Reads me purpose logs counts left) c stays = reads_before me purpose logs counts left c
stays_before ph c stays = outside_before (phase_after ph c) (stays_outside ph c stays)

-- ---- a function of a phase

module _ {A : Type 0} (part : Phase → Option A) where
  -- A call outside of a round gives nothing that no phase outside of a round has.
  pub none_outside : ((ph : Phase) → IsOutside ph → part ph ≡ None) → (ph : Phase) (c : Call) → StaysOutside ph → part (phase_after ph c) ≡ None
  none_outside none ph c stays = none (phase_after ph c) (stays_outside ph c stays)

  -- A call before the work in a round gives nothing that no phase before that work has.
  pub none_before : ((ph : Phase) → IsBefore ph → part ph ≡ None) → (ph : Phase) (c : Call) → StaysBefore ph → part (phase_after ph c) ≡ None
  none_before none ph c stays = none (phase_after ph c) (stays_before ph c stays)

  -- A call of a process that asks for earlier attempts gives nothing that no phase outside of a
  -- round has, and no stage of the asking.
  pub none_asking : ((ph : Phase) → IsOutside ph → part ph ≡ None) → ((me : Identity) (st : Stage) → part (Asks me st) ≡ None)
      → (me : Identity) (st : Stage) (c : Call) → part (asks_on me st c) ≡ None
  none_asking none asks me st (Tried lock Shared true) = none (Joins me (Locked None)) tt
  none_asking none asks me st (Tried lock Exclusive true) = none (Begins me (LockedAlone None)) tt
  none_asking none asks me st (Tried lock Shared false) = asks me st
  none_asking none asks me st (Tried lock Exclusive false) = asks me st
  none_asking none asks me st (Fell (TryLock lock hold)) = none Ended tt
  none_asking none asks me st c = asks me (stage_by (due st) st c)
