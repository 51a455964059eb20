-- No process may hand over an attempt whose outcome is on the disk.
use Rattle.std.proofs.Common.{◌≡◌, ◌⊎◌, inl, inr, ⊎_elim, ℕ, List, [], ◌∷◌, Option, Some, None, refl, sym, ap, ◌∙◌, subst}
use Rattle.std.specs.Prelude.{⊤}
use Rattle.amo_safety_by_journals.specs.Model.{IsOneOf, Site, first_site, with_at}
use Rattle.amo_safety_by_journals.specs.Runs.{site_from}
use Rattle.amo_driver.specs.Stage.{Stage, Going, Finding, Intending, Clearing, Performing, Noting, Leaving, Asking, Settling, Dismissed, Gone, Unanswered, Refused, Broken}
use Rattle.amo_host.specs.declared.model.Hold.{Hold}
use Rattle.amo_host.specs.declared.model.LogFile.{LogFile}
use Rattle.amo_host.specs.declared.model.LogFile.TheVariants.{Answers, Journal}
use Rattle.amo_host.specs.declared.model.RunLock.TheVariants.{Guard}
use Rattle.amo_host.specs.Calls.{Request as WorkerRequest, TryLock, Call as WorkerCall, Recovered, HasPut, HasPaid, request_of}
use Rattle.amo_host.specs.Phase.{Unborn, Guards, Checked, Knows as KnowsRound, HasRecovered, Settled as HasSettled, Phase, Starts as Starting, Asks, Idle, Begins as Beginning, Joins, Reads, Works, Clears, Unclear, Over, Stays, Ended}
use Rattle.amo_host.specs.Protocol.{Allows, phase_after}
use Rattle.amo_run_log.specs.declared.entry.Entry.{Entry}
use Rattle.amo_run_log.specs.declared.entry.Entry.TheVariants.{Answer as Answered}
use Rattle.amo_run_log.specs.declared.append.Append.TheVariants.{One}
use Rattle.amo_run_log.specs.declared.entry.Outcome.{Outcome}
use Rattle.amo_run_log.specs.declared.entry.Outcome.TheVariants.{Doubt}
use Rattle.amo_run_log.specs.Entries.{append_in, text_of_append}
use Rattle.amo_operator.specs.Calls.{Request, PutDoubt, PutAnswer, Call, Recovered as HasRecoveredLog, HasPutDoubt, HasPutAnswer, request_of as request_by}
use Rattle.amo_operator.specs.Protocol.{Allows as Permits}
use Rattle.amo_program_safety.specs.Texts.{entries_of}
use Rattle.amo_program_safety.specs.World.{Log, Process, World, Event, Starts, Writes, HandsOver, Calls as WorkerCalls, Dies as WorkerDies, Stops as Stopped, Performs, Ends, Doubts, Resolves, Recovers, new_process, process_by, journal_by, text_by, with_append, with_append_if, with_log, synced, called as has_called, written, world_after}
use Rattle.amo_program_safety.specs.Machine.{Operator, Machine, Step, Happens, Begins, Exits, Drops, Enters, Records, Calls, Dies, logs_by, recorded, called, has_recorded, machine_after, first_machine}
use Rattle.amo_program_safety.specs.Runs.{held_in}
use Rattle.amo_program_safety.specs.Steps.{MayFollow, IsRun, IsRunFrom, RunnersEnd, machine_from, machine_of}
use Rattle.amo_program_safety.specs.Finality.{IsFinalHere}
use Rattle.amo_program_safety.proofs.Texts.{of_left}
use Rattle.amo_program_safety.proofs.Standing.{WorksAt, At, Settled, Goes}
use Rattle.amo_program_safety.proofs.Points.{at_number, at_it}
use Rattle.amo_program_safety.proofs.Frame.{at_log}
use Rattle.amo_program_safety.proofs.Happens.{some_is}
use Rattle.amo_program_safety.proofs.Ordering.{Runs}
use Rattle.amo_program_safety.proofs.Holding.{HasJustPut, phase_from}
use Rattle.amo_program_safety.proofs.Both.{first_runs, step_leads}
use Rattle.amo_program_safety.proofs.Final.{holder_owns}
use Rattle.amo_program_safety.proofs.Forever.{just_put}
use Rattle.amo_program_safety.proofs.Commanding.{doubt_phase, recover_free, calls_lead, records_lead}
use Rattle.amo_program_safety.proofs.Recording.{recorded_have_ended}

-- A text that is kept of the journal of this worker has an outcome of the attempt of this serial
-- number.
abbrev pub KeptSays : World → (worker serial : ℕ) → Type 0
KeptSays w q s = (text : List ℕ) × (c : Outcome) × IsOneOf (w.logs (Journal q)).kept text × IsOneOf (entries_of (append_in text)) (Answered s c)

-- No process may hand over an attempt with such an outcome.
abbrev pub NoneHeld : World → Type 0
NoneHeld w = (pid : ℕ) (p : Process) → w.process pid ≡ Some p → (s : ℕ) → held_in p.phase ≡ Some s → KeptSays w p.worker s → ⊥

-- ---- which calls change a journal

abbrev Changes : WorkerCall → Type 0
Changes (Recovered last texts) = ⊤
Changes (HasPut entry) = ⊤
Changes HasPaid = ⊤
Changes c = ⊥

abbrev Leaves : WorkerCall → Type 0
Leaves (Recovered last texts) = ⊥
Leaves (HasPut entry) = ⊥
Leaves HasPaid = ⊥
Leaves c = ⊤

changes_or_leaves : (c : WorkerCall) → Changes c ⊎ Leaves c
changes_or_leaves (Recovered last texts) = inl tt
changes_or_leaves (HasPut entry) = inl tt
changes_or_leaves HasPaid = inl tt
changes_or_leaves c = inr tt

left_journal : (log : Log) (owed : Option Entry) (c : WorkerCall) → Leaves c → journal_by log owed c ≡ log
left_journal log owed (Recovered last texts) leaves = absurd leaves
left_journal log owed (HasPut entry) leaves = absurd leaves
left_journal log owed HasPaid leaves = absurd leaves
left_journal log owed c leaves = refl

-- A process that still has its attempt in hand after a call has not changed its journal by the
-- call.
held_leaves : (ph : Phase) (c : WorkerCall) (n : ℕ) → held_in ph ≡ Some n → held_in (phase_after ph c) ≡ Some n → Leaves c
held_leaves (Works me jobs (Clearing s a j) owes logs) (Recovered last texts) n before after = absurd (cc after)
held_leaves (Works me jobs (Clearing s a j) owes logs) (HasPut entry) n before after = absurd (cc after)
held_leaves (Works me jobs (Clearing s a j) owes logs) HasPaid n before after = absurd (cc after)
held_leaves (Works me jobs (Performing s a j) owes logs) (Recovered last texts) n before after = absurd (cc after)
held_leaves (Works me jobs (Performing s a j) owes logs) (HasPut entry) n before after = absurd (cc after)
held_leaves (Works me jobs (Performing s a j) owes logs) HasPaid n before after = absurd (cc after)
held_leaves (Clears me jobs s a j logs left) (Recovered last texts) n before after = absurd (cc after)
held_leaves (Clears me jobs s a j logs left) (HasPut entry) n before after = absurd (cc after)
held_leaves (Clears me jobs s a j logs left) HasPaid n before after = absurd (cc after)
held_leaves ph (Recovered last texts) n before after = absurd (cc before)
held_leaves ph (HasPut entry) n before after = absurd (cc before)
held_leaves ph HasPaid n before after = absurd (cc before)
held_leaves ph c n before after = tt

-- ---- a process that changes its journal has the lock on it

module _ (w : World) (v : Site) (pid : ℕ) (p : Process) where
  works_lock : (jobs : List ℕ) (st : Stage) → WorksAt w v pid p jobs st → w.guard p.worker ≡ Some pid
  works_lock jobs (Going s a way) at = at.0.owns.guard
  works_lock jobs (Finding s a j) at = at.0.owns.guard
  works_lock jobs (Intending s a j) at = at.0.owns.guard
  works_lock jobs (Clearing s a j) at = at.1.owns.guard
  works_lock jobs (Performing s a j) at = ⊎_elim (λ has. has.2.owns.guard) (λ gave. gave.quiet.owns.guard) at
  works_lock jobs (Noting s a c way) at = at.0.owns.guard
  works_lock jobs (Leaving a) at = at.owns.guard
  works_lock jobs Gone at = at.owns.guard
  works_lock jobs (Unanswered s reply) at = at.owns.guard
  works_lock jobs (Refused word value) at = at.owns.guard
  works_lock jobs Broken at = at.owns.guard
  works_lock jobs st at = absurd at

  locks_at : (ph : Phase) (r : WorkerRequest) → At w v pid p ph → Allows ph r → ((q : ℕ) (hold : Hold) → r ≡ TryLock (Guard q) hold → ⊥)
      → w.guard p.worker ≡ Some pid
  locks_at (Starting k Unborn) r at may other = absurd (other k _ may)
  locks_at (Starting k Guards) r at may other = at.2.guard
  locks_at (Starting k Checked) r at may other = at.2.guard
  locks_at (Starting k (KnowsRound last)) r at may other = at.2.guard
  locks_at (Starting k (HasRecovered last texts)) r at may other = at.2.0.owns.guard
  locks_at (Starting k (HasSettled last texts)) r at may other = at.2.0.owns.guard
  locks_at (Asks me (Asking is)) r at may other = at.2.0.owns.guard
  locks_at (Asks me (Settling s c way is)) r at may other = at.2.0.owns.guard
  locks_at (Asks me (Dismissed is)) r at may other = ⊎_elim (λ h. let e = h.1 in absurd (cc e)) (λ h. let e = h.0 in absurd (cc e)) may
  locks_at (Asks me (Unanswered s reply)) r at may other = ⊎_elim (λ h. let e = h.1 in absurd (cc e)) (λ h. let e = h.0 in absurd (cc e)) may
  locks_at (Asks me Broken) r at may other = ⊎_elim (λ h. let e = h.1 in absurd (cc e)) (λ h. let e = h.0 in absurd (cc e)) may
  locks_at (Asks me st) r at may other = absurd at.2
  locks_at (Idle me logs) r at may other = at.2.owns.guard
  locks_at (Beginning me begin) r at may other = at.2.owns.guard
  locks_at (Joins me join) r at may other = at.2.owns.guard
  locks_at (Reads me purpose logs counts left) r at may other = at.2.owns.guard
  locks_at (Works me jobs st owes logs) r at may other = works_lock jobs st at.2
  locks_at (Clears me jobs s a j logs left) r at may other = ⊎_elim (λ clears. clears.2.owns.guard) (λ drops. drops.owns.guard) at.2
  locks_at (Unclear s) r at may other = at.0.owns.guard
  locks_at (Over me logs) r at may other = at.2.owns.guard
  locks_at (Stays me logs) r at may other = at.2.owns.guard
  locks_at Ended r at may other = absurd may

  changer_locks : (ph : Phase) (c : WorkerCall) → At w v pid p ph → Allows ph (request_of c) → Changes c → w.guard p.worker ≡ Some pid
  changer_locks ph (Recovered last texts) at may changes = locks_at ph (request_of (Recovered last texts)) at may (λ q hold e. cc e)
  changer_locks ph (HasPut entry) at may changes = locks_at ph (request_of (HasPut entry)) at may (λ q hold e. cc e)
  changer_locks ph HasPaid at may changes = locks_at ph (request_of HasPaid) at may (λ q hold e. cc e)
  changer_locks ph c at may changes = absurd changes

-- ---- events

-- One process changes, and the kept texts stay.
changed_held : (w w' : World) (pid : ℕ) (x : Option Process) → w'.process ≡ with_at w.process pid x
    → ((q : ℕ) (s : ℕ) → KeptSays w' q s → KeptSays w q s) → ((p : Process) → x ≡ Some p → (s : ℕ) → held_in p.phase ≡ Some s → KeptSays w' p.worker s → ⊥)
    → NoneHeld w → NoneHeld w'
changed_held w w' pid x same kept new old other p lives s held says = at_number
    (λ (y : Option Process). y ≡ Some p → ⊥) w.process pid x other
    (λ e is. new p is s held says)
    (λ n is. old other p is s held (kept p.worker s says))
    (ap (λ (f : ℕ → Option Process). f other) (sym same) ∙ lives)

appended : (log : Log) (x : Option (List ℕ)) (text : List ℕ) → IsOneOf (with_append_if log x).kept text → IsOneOf log.kept text
appended log None text one = one
appended log (Some t) text one = one

-- A text that is kept of a log was there, if the log was changed at this journal so.
kept_from : (logs : LogFile → Log) (q : ℕ) (log : Log) (r : ℕ) (text : List ℕ) → (IsOneOf log.kept text → IsOneOf (logs (Journal q)).kept text)
    → IsOneOf (with_log logs (Journal q) log (Journal r)).kept text → IsOneOf (logs (Journal r)).kept text
kept_from logs q log r text was = at_log (λ (l : Log). IsOneOf l.kept text → IsOneOf (logs (Journal r)).kept text) logs (Journal q) log (Journal r)
    (λ e one. subst (λ g. IsOneOf (logs g).kept text) (sym e) (was one))
    (λ n one. one)

module _ (w : World) (v : Site) (goes : Goes w v) (old : NoneHeld w) (pid : ℕ) (p : Process) (lives : w.process pid ≡ Some p) where
  written_held : (r : WorkerRequest) → NoneHeld (written w pid (Some p) r)
  written_held r = changed_held w (written w pid (Some p) r) pid (Some (record p { writes = Some r })) refl kept
      (λ x e s held says.
      let same : record p { writes = Some r } ≡ x = some_is e in
      old pid p lives s (ap (λ (y : Process). held_in y.phase) same ∙ held) (kept p.worker s (subst (λ (y : Process). KeptSays (written w pid (Some p) r) y.worker s) (sym same) says)))
      old
    where
      kept : (q s : ℕ) → KeptSays (written w pid (Some p) r) q s → KeptSays w q s
      kept q s (text, c, one, says) = (
        text,
        c,
        kept_from w.logs p.worker (with_append_if (w.logs (Journal p.worker)) (text_by p.owed r)) q text
            (appended (w.logs (Journal p.worker)) (text_by p.owed r) text) one,
        says,
      )

  called_held : (v' : Site) (c : WorkerCall) → Goes (has_called w pid (Some p) c) v' → Allows p.phase (request_of c) → NoneHeld (has_called w pid (Some p) c)
  called_held v' c goes' allowed other x lives' s held says = at_number
      (λ (y : Option Process). y ≡ Some x → ⊥) w.process pid (Some (process_by p c)) other
      (λ e is. own (subst (λ (y : Process). held_in y.phase ≡ Some s) (sym (some_is is)) held) (subst (λ (y : Process). KeptSays (has_called w pid (Some p) c) y.worker s) (sym (some_is is)) says))
      (λ n is. ⊎_elim
      (λ changes. far n is changes)
      (λ leaves. old other x is s held (left leaves x.worker says))
      (changes_or_leaves c))
      lives'
    where
      left : Leaves c → (q : ℕ) → KeptSays (has_called w pid (Some p) c) q s → KeptSays w q s
      left leaves q (text, o, one, said) = (
        text,
        o,
        kept_from w.logs p.worker (journal_by (w.logs (Journal p.worker)) p.owed c) q text
            (λ (was : IsOneOf (journal_by (w.logs (Journal p.worker)) p.owed c).kept text).
            subst (λ (l : Log). IsOneOf l.kept text) (left_journal (w.logs (Journal p.worker)) p.owed c leaves) was) one,
        said,
      )

      own : held_in (phase_after p.phase c) ≡ Some s → KeptSays (has_called w pid (Some p) c) p.worker s → ⊥
      own now said = ⊎_elim
          (λ before. old pid p lives s before (left (held_leaves p.phase c s before now) p.worker said))
          (λ (put : HasJustPut (phase_after p.phase c) s).
          just_put (has_called w pid (Some p) c) v' pid (process_by p c) s (phase_after p.phase c)
          (goes'.stand pid (process_by p c) (at_it w.process pid (Some (process_by p c)))).here put
          (settled said))
          (phase_from p.phase c s now)
        where
          settled : KeptSays (has_called w pid (Some p) c) p.worker s → Settled v' p.worker s
          settled (text, o, one, says) =
              let log = (has_called w pid (Some p) c).logs (Journal p.worker) in
              goes'.answered p.worker s o text (of_left log.kept log.rest text one) says

      far : (other ≡ pid → ⊥) → w.process other ≡ Some x → Changes c → ⊥
      far n is changes = by says
        where
          by : KeptSays (has_called w pid (Some p) c) x.worker s → ⊥
          by (text, o, one, said) = old other x is s held (text, o, was one, said)
            where
              was : IsOneOf ((has_called w pid (Some p) c).logs (Journal x.worker)).kept text → IsOneOf (w.logs (Journal x.worker)).kept text
              was = at_log (λ (l : Log). IsOneOf l.kept text → IsOneOf (w.logs (Journal x.worker)).kept text) w.logs (Journal p.worker)
                  (journal_by (w.logs (Journal p.worker)) p.owed c) (Journal x.worker)
                  (λ e at. absurd (n (both e)))
                  (λ away at. at)
                where
                  both : Journal x.worker ≡ Journal p.worker → other ≡ pid
                  both e =
                      let same : x.worker ≡ p.worker = cc e in
                      let mine : w.guard p.worker ≡ Some pid = changer_locks w v pid p p.phase c (goes.stand pid p lives).here allowed changes in
                      let its : w.guard x.worker ≡ Some other = holder_owns w v other x s x.phase (goes.stand other x is).here held in
                      some_is (sym its ∙ (ap w.guard same ∙ mine))

event_held : (m : Machine) (v v' : Site) (e : Event) → MayFollow m (Happens e) → Goes m.world v → Goes (world_after m.world e) v' → NoneHeld m.world
    → NoneHeld (world_after m.world e)
event_held m v v' (Starts pid worker) may goes goes' old =
    changed_held m.world (world_after m.world (Starts pid worker)) pid (Some (new_process worker)) refl (λ q s says. says)
    (λ x e s held says. let none : held_in (new_process worker).phase ≡ Some s = ap (λ (y : Process). held_in y.phase) (some_is e) ∙ held in absurd (cc none))
    old
event_held m v v' (Writes pid r) may goes goes' old =
    subst (λ (o : Option Process). NoneHeld (written m.world pid o r)) (sym may.0.1.0) (written_held m.world v goes old pid may.0.0 may.0.1.0 r)
event_held m v v' (HandsOver pid serial line text) may goes goes' old = old
event_held m v v' (WorkerCalls pid c) may goes goes' old =
    let lives = may.0.1.0 in
    subst (λ (o : Option Process). Goes (has_called m.world pid o c) v' → NoneHeld (has_called m.world pid o c)) (sym lives)
    (λ now. called_held m.world v goes old pid may.0.0 lives v' c now may.0.1.1) goes'
event_held m v v' (WorkerDies pid) may goes goes' old =
    changed_held m.world (world_after m.world (WorkerDies pid)) pid None refl (λ q s says. says) (λ x e s held says. absurd (cc e)) old
event_held m v v' (Stopped left) may goes goes' old = λ pid p lives s held says. absurd (cc lives)
event_held m v v' (Performs h) may goes goes' old = old
event_held m v v' (Ends i) may goes goes' old = old
event_held m v v' (Doubts worker serial time) may goes goes' old = absurd may.2
event_held m v v' (Resolves f) may goes goes' old = absurd may.2
event_held m v v' (Recovers log more) may goes goes' old = absurd may.2

happens_held : (m : Machine) (v v' : Site) (e : Event) → MayFollow m (Happens e) → Runs m v → Runs (machine_after m (Happens e)) v' → NoneHeld m.world
    → NoneHeld (machine_after m (Happens e)).world
happens_held m v v' (Stopped left) may runs runs' old = event_held m v v' (Stopped left) may runs.goes runs'.goes old
happens_held m v v' e may runs runs' old = event_held m v v' e may runs.goes runs'.goes old

-- ---- steps of commands

recorded_kept : (w : World) (r : Request) (q s : ℕ) → KeptSays (recorded w r) q s → KeptSays w q s
recorded_kept w (PutDoubt i time) q s (text, c, one, says) =
    (text, c, kept_from w.logs i.worker (with_append (w.logs (Journal i.worker)) (text_of_append (One (Answered i.serial (Doubt time))))) q text (λ was. was) one, says)
recorded_kept w (PutAnswer f) q s says = says
recorded_kept w r q s says = says

recorded_process : (w : World) (r : Request) → (recorded w r).process ≡ w.process
recorded_process w (PutDoubt i time) = refl
recorded_process w (PutAnswer f) = refl
recorded_process w r = refl

records_held : (m : Machine) (pid : ℕ) (x : Option Operator) (r : Request) → NoneHeld m.world → NoneHeld (has_recorded m pid x r).world
records_held m pid None r old = old
records_held m pid (Some o) r old = λ at p lives s held says.
    old at p (ap (λ (f : ℕ → Option Process). f at) (sym (recorded_process m.world r)) ∙ lives) s held (recorded_kept m.world r p.worker s says)

module _ (m : Machine) (v : Site) (runs : Runs m v) (old : NoneHeld m.world) (pid : ℕ) (o : Operator) (lives : m.operator pid ≡ Some o) where
  -- While no process has the lock on a journal, the journal may change.
  changed_log : (q : ℕ) (log : Log) → m.world.guard q ≡ None → NoneHeld (record m.world { logs = with_log m.world.logs (Journal q) log })
  changed_log q log free at p alive s held (text, c, one, says) = old at p alive s held (text, c, kept_at one, says)
    where
      locked : q ≡ p.worker → ⊥
      locked e =
          let its : m.world.guard p.worker ≡ Some at = holder_owns m.world v at p s p.phase (runs.goes.stand at p alive).here held in
          let none : m.world.guard p.worker ≡ None = ap m.world.guard (sym e) ∙ free in
          absurd (cc (its, none))

      number_is : Journal p.worker ≡ Journal q → q ≡ p.worker
      number_is e = cc

      kept_at : IsOneOf (with_log m.world.logs (Journal q) log (Journal p.worker)).kept text → IsOneOf (m.world.logs (Journal p.worker)).kept text
      kept_at = at_log (λ (l : Log). IsOneOf l.kept text → IsOneOf (m.world.logs (Journal p.worker)).kept text) m.world.logs (Journal q) log (Journal p.worker)
          (λ e was. absurd (locked (number_is e)))
          (λ n was. was)

  command_held : (c : Call) → Permits o.phase (request_by c) → NoneHeld (record m.world { logs = logs_by m.world.logs c })
  command_held (HasRecoveredLog Answers last texts) may = old
  command_held (HasRecoveredLog (Journal q) last texts) may = changed_log q (record { kept = texts; rest = [] })
      (recover_free m v runs pid o lives o.phase (Journal q) last may (runs.stands pid o lives))
  command_held (HasPutDoubt i time) may = changed_log i.worker (synced (m.world.logs (Journal i.worker)))
      (runs.apart i.worker pid (doubt_phase m v pid o.phase i time may (runs.stands pid o lives)).1)
  command_held (HasPutAnswer f) may = old
  command_held c may = old

step_held : (m : Machine) (v v' : Site) (step : Step) → MayFollow m step → Runs m v → Runs (machine_after m step) v' → NoneHeld m.world
    → NoneHeld (machine_after m step).world
step_held m v v' (Happens e) may runs runs' old = happens_held m v v' e may runs runs' old
step_held m v v' (Begins h) may runs runs' old = old
step_held m v v' (Exits h) may runs runs' old = old
step_held m v v' (Drops h) may runs runs' old = old
step_held m v v' (Enters pid command) may runs runs' old = old
step_held m v v' (Records pid r) may runs runs' old = records_held m pid (m.operator pid) r old
step_held m v v' (Calls pid c) may runs runs' old = subst (λ (x : Option Operator). NoneHeld (called m pid x c).world) (sym may.1.0)
    (command_held m v runs old pid may.0 may.1.0 c may.1.1)
step_held m v v' (Dies pid) may runs runs' old = old

-- ---- runs

all_held : (steps : List Step) (m : Machine) (v : Site) → IsRunFrom m steps → Runs m v → NoneHeld m.world → NoneHeld (machine_from m steps).world
all_held [] m v run runs old = old
all_held (s ∷ steps) m v (may, run) runs old =
    let next = step_leads calls_lead records_lead m v s may runs in
    all_held steps (machine_after m s) (site_from v next.events) run next.runs (step_held m v (site_from v next.events) s may runs next.runs old)

-- An attempt whose outcome is on the disk is final, if runners keep their rule.
pub kept_are_final : (steps : List Step) → IsRun steps → RunnersEnd steps → (q s : ℕ) (c : Outcome) (text : List ℕ)
    → IsOneOf ((machine_of steps).world.logs (Journal q)).kept text → IsOneOf (entries_of (append_in text)) (Answered s c)
    → IsFinalHere (machine_of steps) q s
kept_are_final steps run rule q s c text one says =
    let log = (machine_of steps).world.logs (Journal q) in
    let ended = recorded_have_ended steps run rule q s c text (of_left log.kept log.rest text one) says in
    let none = all_held steps first_machine first_site run first_runs (λ pid p lives s held says. absurd (cc lives)) in
    record {
      not_held = λ pid p lives of held. none pid p lives s held (subst (λ k. KeptSays (machine_of steps).world k s) (sym of) (text, c, one, says));
      not_waiting = ended.not_waiting;
      not_running = ended.not_running;
    }
