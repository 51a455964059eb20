-- The text that a process hands over is the text of that line in the list, if all reads of lines
-- give lines of the list. So if no two lines of the list are equal, no text is performed twice.
use Rattle.std.proofs.Common.{◌≡◌, ◌⊎◌, inl, inr, ⊎_elim, ℕ, zero, suc, ◌<◌, ◌≤◌, ◌^◌, List, [], ◌∷◌, ◌++◌, length, map, Option, Some, None, refl, sym, ap, ◌∙◌, subst, arith}
use Rattle.std.specs.Prelude.{Bool, true, false, Result, Ok, Err}
use Rattle.std.proofs.lemmas.Option.{slice_get_cases}
use Rattle.amo_safety_by_journals.specs.Model.{Handing, AreDistinct, IsOneOf, with_at}
use Rattle.amo_params.specs.declared.givens.Givens.{Givens}
use Rattle.amo_params.specs.declared.givens.GivensFault.{GivensFault}
use Rattle.amo_params.specs.declared.limits.TheConstants.{MAX_WORKERS}
use Rattle.amo_params.specs.Givens.{givens_of}
use Rattle.amo_process.specs.Stepped.{ProcessView}
use Rattle.amo_driver.specs.Stage.{Stage, Clearing}
use Rattle.amo_driver.specs.declared.model.Try.{Try}
use Rattle.amo_driver.specs.declared.model.Try.TheVariants.{Load, Store, Find, Intend, Clear, Perform, Note, Ask}
use Rattle.amo_run_files.specs.declared.extent.Extent.{Extent}
use Rattle.amo_run_files.specs.declared.round_file.RoundFile.{RoundFile}
use Rattle.amo_run_files.specs.Jobs.{line_of}
use Rattle.amo_run_files.specs.Rounds.{seat_of}
use Rattle.amo_host.specs.declared.model.LogFile.{LogFile}
use Rattle.amo_host.specs.Calls.{Request, Say, Put, Owe, Pay, ReadOn, Call, HasUnlocked, FolderIsSynced, JobsAre, RegistersAre, LogIs, HasRead, Fell}
use Rattle.amo_host.specs.Joining.{joins_on, seated, are_of}
use Rattle.amo_host.specs.Logs.{Logs, journals_from, logs_after, others}
use Rattle.amo_host.specs.Phase.{Identity, Join, Locked, Booted, HasHeader, HasJobs, Seated, Purpose, ToWork, ToBegin, Phase, Starts, Asks, Idle, Begins, Joins, Reads, Works, Clears, Unclear, Over, Stays, Ended}
use Rattle.amo_host.specs.Protocol.{CarriesOut, reads_on, reads_first, unread, fails, works_on, clears_on, asks_on, phase_after, Allows}
use Rattle.amo_host.specs.Reading.{reads_all, reads_more, reads_after}
use Rattle.amo_operator.specs.Calls.{Request as CommandRequest, PutDoubt, PutAnswer, Call as CommandCall}
use Rattle.amo_runner_protocol.specs.Sayings.{perform_text}
use Rattle.amo_runner_protocol.proofs.SayingTexts.{over_differs}
use Rattle.amo_program_safety.specs.World.{Process, World, Event, Starts as ProcessStarts, Writes, HandsOver, Calls as EventCalls, Dies as ProcessDies, Stops, Performs, Ends, Doubts, Resolves, Recovers, new_process, process_by, handing_of, written, called, world_after}
use Rattle.amo_program_safety.specs.Runs.{MayFollow as MayCome}
use Rattle.amo_program_safety.specs.Machine.{Operator, Machine, Step, Happens, Begins as CommandBegins, Exits, Drops, Enters, Records, Calls, Dies, recorded, called as command_called, has_recorded, happened, machine_after, first_machine}
use Rattle.amo_program_safety.specs.Steps.{MayFollow, IsRun, IsRunFrom, machine_from, machine_of}
use Rattle.amo_program_safety.specs.Lists.{AreLinesOf, ReadsLinesOf, AllReadLinesOf, HasFewLines, HasNoTwoEqual, AreDistinctTexts}
use Rattle.amo_program_safety.proofs.Happens.{some_is, without_of}
use Rattle.amo_program_safety.proofs.Outside.{IsOutside, StaysOutside, none_outside, none_asking}
use Rattle.amo_program_safety.proofs.Points.{at_number}
use Rattle.amo_program_safety.proofs.Ready.{say_is, starts_quietly, tries_quietly, begins_quietly, joins_quietly, reads_quietly, clears_quietly, asks_otherwise}
use Rattle.amo_program_safety.proofs.Said.{same_job}

-- ---- the lines by which a process works

abbrev lines_in_join : Identity → Join → Option (List (List ℕ))
lines_in_join me (HasJobs prior file) = Some me.lines
lines_in_join me (Seated prior file givens seat) = Some me.lines
lines_in_join me join = None

abbrev lines_for : Identity → Purpose → Option (List (List ℕ))
lines_for me (ToWork file givens seat) = Some me.lines
lines_for me (ToBegin boot last known list) = None

-- The lines by which a process in this phase works in a round, or will.
abbrev pub lines_in_round : Phase → Option (List (List ℕ))
lines_in_round (Joins me join) = lines_in_join me join
lines_in_round (Reads me purpose logs counts left) = lines_for me purpose
lines_in_round (Works me jobs st owes logs) = Some me.lines
lines_in_round (Clears me jobs s a j logs left) = Some me.lines
lines_in_round ph = None

-- The lines that a call reads of those that the run knows.
abbrev lines_read : Call → Option (List (List ℕ))
lines_read (JobsAre last lines) = Some lines
lines_read c = None

abbrev LinesFrom : Phase → Call → Phase → Type 0
LinesFrom ph c ph' = (ls : List (List ℕ)) → lines_in_round ph' ≡ Some ls → (lines_in_round ph ≡ Some ls) ⊎ (lines_read c ≡ Some ls)

lines_outside : (ph : Phase) → IsOutside ph → lines_in_round ph ≡ None
lines_outside (Joins me (HasJobs prior file)) out = absurd out
lines_outside (Joins me (Seated prior file givens seat)) out = absurd out
lines_outside (Reads me (ToWork file givens seat) logs counts left) out = absurd out
lines_outside (Works me jobs st owes logs) out = absurd out
lines_outside (Clears me jobs s a j logs left) out = absurd out
lines_outside ph out = refl

none_from : (ph : Phase) (c : Call) → StaysOutside ph → LinesFrom ph c (phase_after ph c)
none_from ph c stays ls is = absurd (cc (none_outside lines_in_round lines_outside ph c stays, is))

asks_from : (me : Identity) (st : Stage) (c : Call) → LinesFrom (Asks me st) c (asks_on me st c)
asks_from me st c ls is = absurd (cc (none_asking lines_in_round lines_outside (λ you at. refl) me st c, is))

seated_from : (me : Identity) (prior : Option Logs) (file : RoundFile) (seat : Option ℕ) (givens : Result Givens GivensFault) (fits : Bool) (ls : List (List ℕ))
    → lines_in_round (seated me prior file seat givens fits) ≡ Some ls → Some me.lines ≡ Some ls
seated_from me prior file (Some seat) (Ok givens) true ls is = is
seated_from me prior file (Some seat) (Ok givens) false ls is = absurd (cc is)
seated_from me prior file (Some seat) (Err fault) fits ls is = absurd (cc is)
seated_from me prior file None givens fits ls is = absurd (cc is)

joins_from : (me : Identity) (join : Join) (c : Call) → LinesFrom (Joins me join) c (joins_on me join c)
joins_from me (Locked prior) c ls is = none_from (Joins me (Locked prior)) c tt ls is
joins_from me (Booted prior boot) c ls is = none_from (Joins me (Booted prior boot)) c tt ls is
joins_from me (HasHeader prior file) (JobsAre last lines) ls is = inr is
joins_from me (HasHeader prior file) (HasUnlocked lock) ls is = absurd (cc is)
joins_from me (HasJobs prior file) (RegistersAre front registers) ls is =
    let h = file.header in
    inl (seated_from me prior file (seat_of me.worker h.first h.workers h.givens.workers) (givens_of h.givens.jobs h.givens.workers h.givens.beta) (are_of h registers) ls is)
joins_from me (Seated prior file givens seat) FolderIsSynced ls is = inl is
joins_from me join c ls is = absurd (cc is)

all_from : (me : Identity) (purpose : Purpose) (logs : Logs) (counts : List Extent) (ls : List (List ℕ))
    → lines_in_round (reads_all me purpose logs counts) ≡ Some ls → lines_for me purpose ≡ Some ls
all_from me (ToWork file givens seat) logs counts ls is = is
all_from me (ToBegin boot last known list) logs counts ls is = absurd (cc is)

more_from : (me : Identity) (purpose : Purpose) (logs : Option Logs) (counts : List Extent) (left : List LogFile) (ls : List (List ℕ))
    → lines_in_round (reads_more me purpose logs counts left) ≡ Some ls → lines_for me purpose ≡ Some ls
more_from me purpose None counts left ls is = absurd (cc is)
more_from me purpose (Some logs) counts (f ∷ left) ls is = is
more_from me purpose (Some logs) counts [] ls is = all_from me purpose logs counts ls is

reads_from : (me : Identity) (purpose : Purpose) (logs : Logs) (counts : List Extent) (left : List LogFile) (c : Call)
    → LinesFrom (Reads me purpose logs counts left) c (reads_after me purpose logs counts left c)
reads_from me purpose logs counts left (LogIs f last texts counted) ls is =
    inl (more_from me purpose (logs_after logs f texts) (counts ++ counted ∷ []) (others left) ls is)
reads_from me purpose logs counts left c ls is = absurd (cc is)

on_from : (me : Identity) (jobs : List ℕ) (s : ℕ) (a : ProcessView) (j : ℕ) (logs : Option Logs) (left : List LogFile) (ls : List (List ℕ))
    → lines_in_round (reads_on me jobs s a j logs left) ≡ Some ls → Some me.lines ≡ Some ls
on_from me jobs s a j None left ls is = absurd (cc is)
on_from me jobs s a j (Some logs) (f ∷ left) ls is = is
on_from me jobs s a j (Some logs) [] ls is = is

reading_from : (me : Identity) (jobs : List ℕ) (st : Stage) (logs : Logs) (f : LogFile) (texts : List (List ℕ)) (ls : List (List ℕ))
    → lines_in_round (reads_first me jobs st logs f texts) ≡ Some ls → Some me.lines ≡ Some ls
reading_from me jobs (Clearing s a j) logs f texts ls is = on_from me jobs s a j (logs_after logs f texts) (journals_from 1 MAX_WORKERS) ls is
reading_from me jobs st logs f texts ls is = absurd (cc is)

unread_none : (st : Stage) → lines_in_round (unread st) ≡ None
unread_none (Clearing s a j) = refl
unread_none st = refl

fails_from : (me : Identity) (jobs : List ℕ) (st : Stage) (owes : Bool) (logs : Logs) (r : Request) (ls : List (List ℕ))
    → lines_in_round (fails me jobs st owes logs r) ≡ Some ls → Some me.lines ≡ Some ls
fails_from me jobs st owes logs (Put entry) ls is = absurd (cc is)
fails_from me jobs st owes logs (Owe entry) ls is = absurd (cc is)
fails_from me jobs st owes logs Pay ls is = absurd (cc is)
fails_from me jobs st owes logs (ReadOn f) ls is = absurd (cc (unread_none st, is))
fails_from me jobs st owes logs r ls is = is

works_from : (me : Identity) (jobs : List ℕ) (st : Stage) (owes : Bool) (logs : Logs) (c : Call) → LinesFrom (Works me jobs st owes logs) c (works_on me jobs st owes logs c)
works_from me jobs st owes logs (HasUnlocked lock) ls is = absurd (cc is)
works_from me jobs st owes logs (HasRead f texts) ls is = inl (reading_from me jobs st logs f texts ls is)
works_from me jobs st owes logs (Fell r) ls is = inl (fails_from me jobs st owes logs r ls is)
works_from me jobs st owes logs c ls is = inl is

clears_from : (me : Identity) (jobs : List ℕ) (s : ℕ) (a : ProcessView) (j : ℕ) (logs : Logs) (left : List LogFile) (c : Call)
    → LinesFrom (Clears me jobs s a j logs left) c (clears_on me jobs s a j logs left c)
clears_from me jobs s a j logs left (HasRead f texts) ls is = inl (on_from me jobs s a j (logs_after logs f texts) (others left) ls is)
clears_from me jobs s a j logs left (Fell (ReadOn f)) ls is = absurd (cc is)
clears_from me jobs s a j logs left c ls is = absurd (cc is)

-- The lines by which a process works after a call are those before it, or the call has read them.
lines_from : (ph : Phase) (c : Call) → LinesFrom ph c (phase_after ph c)
lines_from (Starts worker start) c = none_from (Starts worker start) c tt
lines_from (Asks me st) c = asks_from me st c
lines_from (Idle me logs) c = none_from (Idle me logs) c tt
lines_from (Begins me begin) c = none_from (Begins me begin) c tt
lines_from (Joins me join) c = joins_from me join c
lines_from (Reads me purpose logs counts left) c = reads_from me purpose logs counts left c
lines_from (Works me jobs st owes logs) c = works_from me jobs st owes logs c
lines_from (Clears me jobs s a j logs left) c = clears_from me jobs s a j logs left c
lines_from (Unclear s) c = none_from (Unclear s) c tt
lines_from (Over me logs) c = none_from (Over me logs) c tt
lines_from (Stays me logs) c = none_from (Stays me logs) c tt
lines_from Ended c = none_from Ended c tt

-- ---- the line that a process hands over

-- The process says the number and the text of a line by which it works.
record SaysLine (serial line : ℕ) (text : List ℕ) (ph : Phase) : Type 0 where
  pub lines : List (List ℕ)
  pub are : lines_in_round ph ≡ Some lines
  pub said : ℕ × ℕ × List ℕ
  pub of : line_of lines said.1 ≡ Some said.2
  pub same : perform_text serial line text ≡ perform_text said.0 said.1 said.2

module _ (serial line : ℕ) (text : List ℕ) where
  works_says : (me : Identity) (jobs : List ℕ) (st : Stage) (owes : Bool) (logs : Logs) (t : Try) → CarriesOut me jobs t (Say (perform_text serial line text))
      → SaysLine serial line text (Works me jobs st owes logs)
  works_says me jobs st owes logs (Load n) e = absurd (cc e)
  works_says me jobs st owes logs (Store n x) e = absurd (cc e)
  works_says me jobs st owes logs (Find j) e = absurd (cc e)
  works_says me jobs st owes logs (Intend s1 j) h = let e = h.3 in absurd (cc e)
  works_says me jobs st owes logs (Clear s1 j) e = absurd (cc e)
  works_says me jobs st owes logs (Perform s1 j) h = record { lines = me.lines; are = refl; said = (s1, h.0, h.1); of = h.3; same = say_is _ _ h.4 }
  works_says me jobs st owes logs (Note s1 c) h = let e = h.1 in absurd (cc e)
  works_says me jobs st owes logs (Ask s1 l) h = absurd h

  says_line : (ph : Phase) → Allows ph (Say (perform_text serial line text)) → SaysLine serial line text ph
  says_line (Starts k start) may = absurd (starts_quietly k start _ may)
  says_line (Asks me st) may = ⊎_elim (λ asks. absurd (asks_otherwise me asks.0 serial line text asks.2)) (λ tries. absurd (tries_quietly _ tries.1)) may
  says_line (Idle me logs) may = absurd (tries_quietly _ may)
  says_line (Begins me begin) may = absurd (begins_quietly me begin _ may)
  says_line (Joins me join) may = absurd (joins_quietly join _ may)
  says_line (Reads me purpose logs counts left) may = absurd (reads_quietly purpose left _ may)
  says_line (Works me jobs st owes logs) may = ⊎_elim
      (λ does. works_says me jobs st owes logs does.0 does.2)
      (λ none. ⊎_elim (λ pays. absurd (cc pays)) (λ unlocks. let e = unlocks.1 in absurd (cc e)) none.1)
      may
  says_line (Clears me jobs n a j logs left) may = absurd (clears_quietly n left _ may)
  says_line (Unclear n) may = absurd (cc may)
  says_line (Over me logs) may = absurd ((over_differs serial line text).0 (say_is _ _ may))
  says_line (Stays me logs) may = absurd (cc may)
  says_line Ended may = absurd may

line_within : (lines : List (List ℕ)) (n : ℕ) (text : List ℕ) → line_of lines n ≡ Some text → n ≤ length lines
line_within lines zero text e = absurd (cc e)
line_within lines (suc i) text e = ⊎_elim (λ h. let less : i < length lines = h.1 in omega arith) (λ h. absurd (cc (h.1, e))) (slice_get_cases lines i).1

-- ---- worlds in which each line has the text of the list

abbrev HasText : (list : List (List ℕ)) → Handing → Type 0
HasText list h = (text : List ℕ) × (line_of list h.line ≡ Some text)

-- The processes work by lines of the list, and each attempt that was handed over is at one.
record Listed (list : List (List ℕ)) (w : World) : Type 0 where
  pub phases : (pid : ℕ) (p : Process) (ls : List (List ℕ)) → w.process pid ≡ Some p → lines_in_round p.phase ≡ Some ls → AreLinesOf list ls
  pub alive : (h : Handing) → IsOneOf w.alive h → HasText list h
  pub performed : (h : Handing) → IsOneOf w.performed h → HasText list h

module _ (list : List (List ℕ)) (few : HasFewLines list) where
  -- The text that is handed over is that of the line in the list.
  handed_text : (w : World) (pid serial line : ℕ) (text : List ℕ) → MayCome w (HandsOver pid serial line text) → Listed list w → line_of list line ≡ Some text
  handed_text w pid serial line text (p, (lives, allowed), first) listed =
      let says : SaysLine serial line text p.phase = says_line serial line text p.phase allowed in
      let there : line_of list says.said.1 ≡ Some says.said.2 = listed.phases pid p says.lines lives says.are says.said.1 says.said.2 says.of in
      let within : says.said.1 ≤ length list = line_within list says.said.1 says.said.2 there in
      let small : says.said.1 < 2 ^ 64 = omega (arith, within, few) in
      let same : (line ≡ says.said.1) × (text ≡ says.said.2) = same_job serial line says.said.0 says.said.1 text says.said.2 small says.same in
      ap (line_of list) same.0 ∙ there ∙ ap Some (sym same.1)

  phases_at : (w : World) (pid : ℕ) (o : Option Process) → Listed list w
      → ((p : Process) (ls : List (List ℕ)) → o ≡ Some p → lines_in_round p.phase ≡ Some ls → AreLinesOf list ls)
      → (q : ℕ) (p : Process) (ls : List (List ℕ)) → with_at w.process pid o q ≡ Some p → lines_in_round p.phase ≡ Some ls → AreLinesOf list ls
  phases_at w pid o listed new q p ls = at_number (λ (x : Option Process). x ≡ Some p → lines_in_round p.phase ≡ Some ls → AreLinesOf list ls) w.process pid o q
      (λ (e : q ≡ pid) own is. new p ls own is) (λ other own is. listed.phases q p ls own is)

  writes_keep : (w : World) (pid : ℕ) (r : Request) (o : Option Process) → w.process pid ≡ o → Listed list w → Listed list (written w pid o r)
  writes_keep w pid r None at listed = listed
  writes_keep w pid r (Some p) at listed = record {
    phases = phases_at w pid (Some (record p { writes = Some r })) listed
        (λ x ls own is. listed.phases pid p ls at (ap (λ (y : Process). lines_in_round y.phase) (some_is own) ∙ is));
    alive = listed.alive;
    performed = listed.performed;
  }

  reads_list : (pid : ℕ) (c : Call) (ls : List (List ℕ)) → ReadsLinesOf list (Happens (EventCalls pid c)) → lines_read c ≡ Some ls → AreLinesOf list ls
  reads_list pid (JobsAre last lines) ls reads is = subst (AreLinesOf list) (some_is is) reads
  reads_list pid c ls reads is = absurd (cc is)

  calls_keep : (w : World) (pid : ℕ) (c : Call) (o : Option Process) → w.process pid ≡ o → ReadsLinesOf list (Happens (EventCalls pid c)) → Listed list w
      → Listed list (called w pid o c)
  calls_keep w pid c None at reads listed = listed
  calls_keep w pid c (Some p) at reads listed = record {
    phases = phases_at w pid (Some (process_by p c)) listed (λ x ls own is. ⊎_elim
        (λ was. listed.phases pid p ls at was)
        (λ read. reads_list pid c ls reads read)
        (lines_from p.phase c ls (ap (λ (y : Process). lines_in_round y.phase) (some_is own) ∙ is)));
    alive = listed.alive;
    performed = listed.performed;
  }

  handed_alive : (o : Option Process) (serial line : ℕ) (text : List ℕ) (hs : List Handing) → line_of list line ≡ Some text → ((h : Handing) → IsOneOf hs h → HasText list h)
      → (h : Handing) → IsOneOf (handing_of o serial line ++ hs) h → HasText list h
  handed_alive None serial line text hs is old h one = old h one
  handed_alive (Some p) serial line text hs is old h one =
      ⊎_elim (λ e. (text, ap (λ (x : Handing). line_of list x.line) (sym e) ∙ is)) (λ rest. old h rest) one

  event_keeps : (w : World) (e : Event) → MayCome w e → ReadsLinesOf list (Happens e) → Listed list w → Listed list (world_after w e)
  event_keeps w (ProcessStarts pid worker) may reads listed = record {
    phases = phases_at w pid (Some (new_process worker)) listed
        (λ x ls own is. let none : None ≡ lines_in_round x.phase = ap (λ (y : Process). lines_in_round y.phase) (some_is own) in absurd (cc (none, is)));
    alive = listed.alive;
    performed = listed.performed;
  }
  event_keeps w (Writes pid r) may reads listed = writes_keep w pid r (w.process pid) refl listed
  event_keeps w (HandsOver pid serial line text) may reads listed = record {
    phases = listed.phases;
    alive = handed_alive (w.process pid) serial line text w.alive (handed_text w pid serial line text may listed) listed.alive;
    performed = listed.performed;
  }
  event_keeps w (EventCalls pid c) may reads listed = calls_keep w pid c (w.process pid) refl reads listed
  event_keeps w (ProcessDies pid) may reads listed = record {
    phases = phases_at w pid None listed (λ x ls own is. absurd (cc own));
    alive = listed.alive;
    performed = listed.performed;
  }
  event_keeps w (Stops left) may reads listed = record { phases = λ pid p ls own is. absurd (cc own); alive = listed.alive; performed = listed.performed }
  event_keeps w (Performs h) may reads listed = record {
    phases = listed.phases;
    alive = listed.alive;
    performed = λ g one. ⊎_elim (λ (e : h ≡ g). subst (HasText list) e (listed.alive h may.0)) (λ rest. listed.performed g rest) one;
  }
  event_keeps w (Ends i) may reads listed = record { phases = listed.phases; alive = λ h one. listed.alive h (without_of i w.alive h one); performed = listed.performed }
  event_keeps w (Doubts worker serial time) may reads listed = record { phases = listed.phases; alive = listed.alive; performed = listed.performed }
  event_keeps w (Resolves f) may reads listed = record { phases = listed.phases; alive = listed.alive; performed = listed.performed }
  event_keeps w (Recovers log more) may reads listed = record { phases = listed.phases; alive = listed.alive; performed = listed.performed }

  happened_world : (m : Machine) (e : Event) → world_after m.world e ≡ (happened m e).world
  happened_world m (Stops left) = refl
  happened_world m e = refl

  recorded_keeps : (w : World) (r : CommandRequest) → Listed list w → Listed list (recorded w r)
  recorded_keeps w (PutDoubt attempt time) listed = record { phases = listed.phases; alive = listed.alive; performed = listed.performed }
  recorded_keeps w (PutAnswer f) listed = record { phases = listed.phases; alive = listed.alive; performed = listed.performed }
  recorded_keeps w r listed = listed

  record_keeps : (m : Machine) (pid : ℕ) (o : Option Operator) (r : CommandRequest) → Listed list m.world → Listed list (has_recorded m pid o r).world
  record_keeps m pid None r listed = listed
  record_keeps m pid (Some o) r listed = recorded_keeps m.world r listed

  command_keeps : (m : Machine) (pid : ℕ) (o : Option Operator) (c : CommandCall) → Listed list m.world → Listed list (command_called m pid o c).world
  command_keeps m pid None c listed = listed
  command_keeps m pid (Some o) c listed = record { phases = listed.phases; alive = listed.alive; performed = listed.performed }

  step_keeps : (m : Machine) (s : Step) → MayFollow m s → ReadsLinesOf list s → Listed list m.world → Listed list (machine_after m s).world
  step_keeps m (Happens e) may reads listed = subst (Listed list) (happened_world m e) (event_keeps m.world e may.0 reads listed)
  step_keeps m (CommandBegins h) may reads listed = listed
  step_keeps m (Exits h) may reads listed = listed
  step_keeps m (Drops h) may reads listed = listed
  step_keeps m (Enters pid command) may reads listed = listed
  step_keeps m (Records pid r) may reads listed = record_keeps m pid (m.operator pid) r listed
  step_keeps m (Calls pid c) may reads listed = command_keeps m pid (m.operator pid) c listed
  step_keeps m (Dies pid) may reads listed = listed

  first_listed : Listed list first_machine.world
  first_listed = record { phases = λ pid p ls own is. absurd (cc own); alive = λ h one. absurd one; performed = λ h one. absurd one }

  all_listed : (steps : List Step) (m : Machine) → IsRunFrom m steps → AllReadLinesOf list steps → Listed list m.world → Listed list (machine_from m steps).world
  all_listed [] m run reads listed = listed
  all_listed (s ∷ steps) m (may, run) (first, reads) listed = all_listed steps (machine_after m s) run reads (step_keeps m s may first listed)

  handed_in : (steps more : List Step) (m : Machine) (pid serial line : ℕ) (text : List ℕ) → IsRunFrom m (steps ++ Happens (HandsOver pid serial line text) ∷ more)
      → AllReadLinesOf list (steps ++ Happens (HandsOver pid serial line text) ∷ more) → Listed list m.world → line_of list line ≡ Some text
  handed_in [] more m pid serial line text (may, run) reads listed = handed_text m.world pid serial line text may.0 listed
  handed_in (s ∷ steps) more m pid serial line text (may, run) (first, reads) listed =
      handed_in steps more (machine_after m s) pid serial line text run reads (step_keeps m s may first listed)

  -- The text that a process hands over in a run is that of its line in the list.
  pub each_is_handed : (steps more : List Step) (pid serial line : ℕ) (text : List ℕ) → IsRun (steps ++ Happens (HandsOver pid serial line text) ∷ more)
      → AllReadLinesOf list (steps ++ Happens (HandsOver pid serial line text) ∷ more) → line_of list line ≡ Some text
  each_is_handed steps more pid serial line text run reads = handed_in steps more first_machine pid serial line text run reads first_listed

  -- Each line that is performed in a run is one of the list.
  pub each_has_text : (steps : List Step) → IsRun steps → AllReadLinesOf list steps → (h : Handing) → IsOneOf (machine_of steps).world.performed h → HasText list h
  each_has_text steps run reads h one = (all_listed steps first_machine run reads first_listed).performed h one

  module _ (differ : HasNoTwoEqual list) where
    same_line_in : (n : ℕ) (text : List ℕ) → line_of list n ≡ Some text → (hs : List Handing)
        → IsOneOf (map (λ (h : Handing). line_of list h.line) hs) (line_of list n) → IsOneOf (map (λ (h : Handing). h.line) hs) n
    same_line_in n text is [] one = one
    same_line_in n text is (g ∷ hs) one = ⊎_elim (λ (e : line_of list g.line ≡ line_of list n). inl (differ g.line n text (e ∙ is) is)) (λ rest. inr (same_line_in n text is hs rest)) one

    -- If no line number is there twice, no text is.
    pub texts_differ : (hs : List Handing) → AreDistinct (map (λ (h : Handing). h.line) hs) → ((h : Handing) → IsOneOf hs h → HasText list h)
        → AreDistinctTexts (map (λ (h : Handing). line_of list h.line) hs)
    texts_differ [] distinct texts = tt
    texts_differ (h ∷ hs) (alone, distinct) texts =
        let (text, is) = texts h (inl refl) in
        ((λ one. alone (same_line_in h.line text is hs one)), texts_differ hs distinct (λ g one. texts g (inr one)))
