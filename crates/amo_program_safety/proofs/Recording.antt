-- An attempt with a recorded outcome has ended on its machine, if runners report outcomes only of
-- attempts that have ended.
use Rattle.std.proofs.Common.{◌≡◌, ◌⊎◌, inl, inr, ⊎_elim, ℕ, List, [], ◌∷◌, ◌++◌, take, Option, Some, None, refl, sym, ap, ◌∙◌, subst}
use Rattle.amo_safety_by_journals.specs.Model.{Handing, IsOneOf, Clearing as ModelClearing, Site}
use Rattle.amo_safety_by_journals.specs.Runs.{site_from}
use Rattle.amo_process.specs.declared.access.Access.{Access}
use Rattle.amo_process.specs.declared.access.Access.TheVariants.{Load as LoadAccess, Store as StoreAccess, Nothing}
use Rattle.amo_driver.specs.Course.{access_tried, due}
use Rattle.amo_driver.specs.Stage.{Stage, Going, Clearing, Noting, Asking, Settling}
use Rattle.amo_driver.specs.declared.answer.JobResult.{JobResult}
use Rattle.amo_driver.specs.declared.model.Try.{Try}
use Rattle.amo_driver.specs.declared.model.Try.TheVariants.{Load, Store, Find, Intend, Clear, Perform, Note, Ask}
use Rattle.amo_host.specs.declared.model.LogFile.{LogFile}
use Rattle.amo_host.specs.declared.model.LogFile.TheVariants.{Journal}
use Rattle.amo_host.specs.Calls.{Request as WorkerRequest, Put, Owe, Pay, Call as WorkerCall, Recovered, HasPut, HasOwed, HasPaid, Heard, request_of}
use Rattle.amo_host.specs.Phase.{Identity, Start, Unborn, Guards, Checked, Knows as KnowsRound, HasRecovered, Settled as HasSettled, Purpose, Phase, Starts as Starting, Asks, Idle, Begins as Beginning, Joins, Reads, Works, Clears, Unclear, Over, Stays, Ended}
use Rattle.amo_host.specs.Protocol.{CarriesOut, CarriesOutBefore, MayClear, Allows}
use Rattle.amo_host.specs.Reading.{MayRead}
use Rattle.amo_host.specs.Starting.{MayStart}
use Rattle.amo_run_log.specs.declared.append.Append.TheVariants.{One}
use Rattle.amo_run_log.specs.declared.entry.Entry.{Entry}
use Rattle.amo_run_log.specs.declared.entry.Entry.TheVariants.{Answer as Answered}
use Rattle.amo_run_log.specs.declared.entry.Outcome.{Outcome}
use Rattle.amo_run_log.specs.declared.entry.Outcome.TheVariants.{Doubt}
use Rattle.amo_run_log.specs.Entries.{append_in, entries_of_append, text_of_append}
use Rattle.amo_status.specs.declared.state.AttemptId.{AttemptId}
use Rattle.amo_operator.specs.Calls.{Request, PutDoubt, PutAnswer, Call, Recovered as HasRecoveredLog, HasPutDoubt, HasPutAnswer}
use Rattle.amo_program_safety.specs.Texts.{append_of, entries_of}
use Rattle.amo_program_safety.specs.World.{Log, Process, World, Event, Starts, Writes, HandsOver, Calls as WorkerCalls, Dies as WorkerDies, Stops as Stopped, Performs, Ends, Doubts, Resolves, Recovers, handing_of, new_process, process_by, owed_by, journal_by, text_by, with_append, with_append_if, synced, called as has_called, written, world_after}
use Rattle.amo_program_safety.specs.Machine.{Operator, Machine, Step, Happens, Begins, Exits, Drops, Enters, Records, Calls, Dies, logs_by, recorded, called, has_recorded, without, machine_after, first_machine}
use Rattle.amo_program_safety.specs.Runs.{AreRead, KernelGives, FitsRequest, IsItsCall, IsFirst}
use Rattle.amo_program_safety.specs.Steps.{MachineGives, MayFollow, IsRun, IsRunFrom, RunnerHasEnded, RunnerEnds, RunnersEnd, RunnersEndFrom, machine_from, machine_of}
use Rattle.amo_program_safety.specs.Finality.{HasEndedHere}
use Rattle.amo_program_safety.proofs.Texts.{of_both, of_left, of_right, of_same, taken_of, put_says}
use Rattle.amo_program_safety.proofs.Standing.{At, Settled, Owes, Goes, all_of}
use Rattle.amo_program_safety.proofs.Points.{at_number}
use Rattle.amo_program_safety.proofs.Frame.{at_log}
use Rattle.amo_program_safety.proofs.Plain.{IsPlainRequest}
use Rattle.amo_program_safety.proofs.Quiet.{plain_beginning, plain_joining}
use Rattle.amo_program_safety.proofs.Working.{settled_quiet}
use Rattle.amo_program_safety.proofs.Happens.{some_is}
use Rattle.amo_program_safety.proofs.Ordering.{Runs}
use Rattle.amo_program_safety.proofs.Holding.{HasPutIt}
use Rattle.amo_program_safety.proofs.Noting.{noted_at, noted_in, HasHeard, MayDecline, phase_notes}
use Rattle.amo_program_safety.proofs.Both.{step_leads}
use Rattle.amo_program_safety.proofs.Stopping.{Stops}
use Rattle.amo_program_safety.proofs.StoppingSteps.{left_of, given_at, step_stops}
use Rattle.amo_program_safety.proofs.Final.{Stands, first_stands, doubt_final}
use Rattle.amo_program_safety.proofs.Commanding.{calls_lead, records_lead}

-- ---- the sources of outcomes

-- A text in the journal of this worker has an outcome of the attempt of this serial number.
abbrev pub Says : World → (worker serial : ℕ) → Type 0
Says w q s = (text : List ℕ) × (c : Outcome) × IsOneOf (all_of (w.logs (Journal q))) text × IsOneOf (entries_of (append_in text)) (Answered s c)

-- The process owes its journal an outcome of this attempt, or is about to record one.
abbrev pub Notes : Process → (serial : ℕ) → Type 0
Notes p s = ((c : Outcome) × (p.owed ≡ Some (Answered s c))) ⊎ (noted_in p.phase ≡ Some s)

abbrev pub NotesIt : World → (worker serial : ℕ) → Type 0
NotesIt w q s = (pid : ℕ) × (p : Process) × (w.process pid ≡ Some p) × (p.worker ≡ q) × Notes p s

-- An outcome of this attempt is recorded, or a process of its worker will record one.
abbrev pub IsNoted : World → (worker serial : ℕ) → Type 0
IsNoted w q s = Says w q s ⊎ NotesIt w q s

noted_settled : (w : World) (v : Site) (pid : ℕ) (p : Process) (ph : Phase) (s : ℕ) → At w v pid p ph → noted_in ph ≡ Some s → Settled v p.worker s
noted_settled w v pid p (Asks me st) s at is = by st at is
  where
    by : (st : Stage) → At w v pid p (Asks me st) → noted_at st ≡ Some s → Settled v p.worker s
    by (Settling n c way rest) at is = subst (Settled v p.worker) (some_is is) (settled_quiet w v pid p n at.2.0 at.2.3)
    by (Noting n a c way) at is = absurd at.2
    by st at is = absurd (cc is)
noted_settled w v pid p (Works me jobs st owes logs) s at is = by st at is
  where
    by : (st : Stage) → At w v pid p (Works me jobs st owes logs) → noted_at st ≡ Some s → Settled v p.worker s
    by (Noting n a c way) at is = subst (Settled v p.worker) (some_is is) (settled_quiet w v pid p n at.2.0 at.2.3)
    by (Settling n c way rest) at is = absurd at.2
    by st at is = absurd (cc is)
noted_settled w v pid p (Unclear n) s at is = subst (Settled v p.worker) (some_is is) (settled_quiet w v pid p n at.0 at.2)
noted_settled w v pid p ph s at is = absurd (cc is)

owed_settled : (v : Site) (q : ℕ) (owed : Option Entry) (s : ℕ) (c : Outcome) → Owes v q owed → owed ≡ Some (Answered s c) → Settled v q s
owed_settled v q None s c owes is = absurd (cc is)
owed_settled v q (Some e) s c owes is = owes.2 s c (some_is is)

is_settled : (w : World) (v : Site) → Goes w v → (q s : ℕ) → IsNoted w q s → Settled v q s
is_settled w v goes q s (inl (text, c, one, says)) = goes.answered q s c text one says
is_settled w v goes q s (inr (pid, p, lives, of, inl (c, owed))) =
    subst (λ k. Settled v k s) of (owed_settled v p.worker p.owed s c (goes.stand pid p lives).owes owed)
is_settled w v goes q s (inr (pid, p, lives, of, inr noted)) =
    subst (λ k. Settled v k s) of (noted_settled w v pid p p.phase s (goes.stand pid p lives).here noted)

-- ---- requests that record outcomes

-- the attempt whose outcome a request records
abbrev answered_by : WorkerRequest → Option ℕ
answered_by (Put (Answered s c)) = Some s
answered_by (Owe (Answered s c)) = Some s
answered_by r = None

-- The process asks whether the line of this attempt is clear.
abbrev IsAsking : Phase → ℕ → Type 0
IsAsking (Clears me jobs s a j logs left) n = s ≡ n
IsAsking ph n = ⊥

abbrev Source : Phase → ℕ → Type 0
Source ph n = (noted_in ph ≡ Some n) ⊎ IsAsking ph n

plain_answers : (r : WorkerRequest) → IsPlainRequest r → answered_by r ≡ None
plain_answers (Put entry) plain = absurd plain
plain_answers (Owe entry) plain = absurd plain
plain_answers r plain = refl

-- If two requests are equal and one records no outcome, the other records no outcome.
other : {A : Type 0} (r x : WorkerRequest) (n : ℕ) → r ≡ x → answered_by x ≡ None → answered_by r ≡ Some n → A
other r x n e none is = let same = ap answered_by e in absurd (cc (same, none, is))

starts_source : (k : ℕ) (start : Start) (r : WorkerRequest) (n : ℕ) → MayStart k start r → answered_by r ≡ Some n → ⊥
starts_source k Unborn r n e is = other r _ n e refl is
starts_source k Guards r n e is = other r _ n e refl is
starts_source k Checked r n e is = other r _ n e refl is
starts_source k (KnowsRound last) r n e is = other r _ n e refl is
starts_source k (HasRecovered last texts) r n e is = other r _ n e refl is
starts_source k (HasSettled last texts) r n e is = other r _ n e refl is

tried_is : {a b : Try} → Some a ≡ Some b → b ≡ a
tried_is e = cc

no_note : (x : Access) (m : ℕ) (o : JobResult) → access_tried x ≡ Some (Note m o) → ⊥
no_note (LoadAccess w) m o e = cc
no_note (StoreAccess w n) m o e = cc
no_note Nothing m o e = cc

-- A stage at which it is due to note an outcome notes the outcome of that attempt.
notes_due : (st : Stage) (m : ℕ) (o : JobResult) → due st ≡ Some (Note m o) → noted_at st ≡ Some m
notes_due (Settling s c way rest) m o e = let same : m ≡ s = cc e in ap Some (sym same)
notes_due (Noting s a c way) m o e = let same : m ≡ s = cc e in ap Some (sym same)
notes_due (Going s a way) m o e = absurd (no_note _ m o e)
notes_due (Asking []) m o e = absurd (cc e)
notes_due (Asking (i ∷ rest)) m o e = absurd (cc e)
notes_due st m o e = absurd (cc e)

asks_source : (me : Identity) (st : Stage) (t : Try) (r : WorkerRequest) (n : ℕ) → due st ≡ Some t → CarriesOutBefore me t r → answered_by r ≡ Some n
    → noted_at st ≡ Some n
asks_source me st (Ask s line) r n e out is = other r _ n out.2 refl is
asks_source me st (Note m o) r n e out is = notes_due st m o e ∙ (sym (ap answered_by out.1) ∙ is)
asks_source me st t r n e out is = absurd out

works_source : (me : Identity) (jobs : List ℕ) (st : Stage) (t : Try) (r : WorkerRequest) (n : ℕ) → due st ≡ Some t → CarriesOut me jobs t r
    → answered_by r ≡ Some n → noted_at st ≡ Some n
works_source me jobs st (Load w) r n e out is = other r _ n out refl is
works_source me jobs st (Store w x) r n e out is = other r _ n out refl is
works_source me jobs st (Find j) r n e out is = other r _ n out refl is
works_source me jobs st (Intend s j) r n e out is = other r _ n out.3 refl is
works_source me jobs st (Clear s j) r n e out is = other r _ n out refl is
works_source me jobs st (Perform s j) r n e out is = other r _ n out.4 refl is
works_source me jobs st (Note m o) r n e out is = notes_due st m o e ∙ (sym (ap answered_by out.1) ∙ is)
works_source me jobs st (Ask s line) r n e out is = absurd out

clears_source : (s : ℕ) (left : List LogFile) (r : WorkerRequest) (n : ℕ) → MayClear s left r → answered_by r ≡ Some n → s ≡ n
clears_source s [] r n may is = absurd may
clears_source s (f ∷ left) r n (inl e) is = other r _ n e refl is
clears_source s (f ∷ left) r n (inr e) is = some_is (sym (ap answered_by e) ∙ is)

reads_source : (purpose : Purpose) (left : List LogFile) (r : WorkerRequest) (n : ℕ) → MayRead purpose left r → answered_by r ≡ Some n → ⊥
reads_source purpose [] r n may is = may
reads_source purpose (f ∷ left) r n may is = other r _ n may.1 refl is

plain_source : (r : WorkerRequest) (n : ℕ) → IsPlainRequest r → answered_by r ≡ Some n → ⊥
plain_source r n plain is = let none = plain_answers r plain in absurd (cc (none, is))

-- A process records an outcome only if it is about to, or if it asks whether the line is clear.
source : (ph : Phase) (r : WorkerRequest) (n : ℕ) → Allows ph r → answered_by r ≡ Some n → Source ph n
source (Starting k start) r n may is = absurd (starts_source k start r n may is)
source (Asks me st) r n (inl (t, e, out)) is = inl (asks_source me st t r n e out is)
source (Asks me st) r n (inr (e, (hold, try))) is = other r _ n try refl is
source (Idle me logs) r n (hold, try) is = other r _ n try refl is
source (Beginning me begin) r n may is = absurd (plain_source r n (plain_beginning me begin r may) is)
source (Joins me join) r n may is = absurd (plain_source r n (plain_joining join r may) is)
source (Reads me purpose logs counts left) r n may is = absurd (reads_source purpose left r n may is)
source (Works me jobs st owes logs) r n (inl (t, e, out)) is = inl (works_source me jobs st t r n e out is)
source (Works me jobs st owes logs) r n (inr (none, inl pay)) is = other r _ n pay refl is
source (Works me jobs st owes logs) r n (inr (none, inr unlock)) is = other r _ n unlock.1 refl is
source (Clears me jobs s a j logs left) r n may is = inr (clears_source s left r n may is)
source (Unclear s) r n may is = inl (sym (ap answered_by may) ∙ is)
source (Over me logs) r n may is = other r _ n may refl is
source (Stays me logs) r n may is = other r _ n may refl is
source Ended r n may is = absurd may

-- ---- texts of a journal

of_nil : {A : Type 0} (xs : List A) (x : A) → IsOneOf (xs ++ []) x → IsOneOf xs x
of_nil xs x one = ⊎_elim (λ old. old) (λ none. absurd none) (of_both xs [] x one)

read_of : (log : Log) (texts : List (List ℕ)) (text : List ℕ) → AreRead log texts → IsOneOf (texts ++ []) text → IsOneOf (all_of log) text
read_of log texts text (more, is) one = ⊎_elim
    (λ kept. of_left log.kept log.rest text kept)
    (λ rest. of_right log.kept log.rest text (taken_of more log.rest text rest))
    (of_both log.kept (take more log.rest) text (of_same texts (log.kept ++ take more log.rest) text is (of_nil texts text one)))

left_texts : (log : Log) (k : ℕ) (text : List ℕ) → IsOneOf (log.kept ++ take k log.rest) text → IsOneOf (all_of log) text
left_texts log k text one = ⊎_elim
    (λ kept. of_left log.kept log.rest text kept)
    (λ rest. of_right log.kept log.rest text (taken_of k log.rest text rest))
    (of_both log.kept (take k log.rest) text one)

-- A call of a process adds no text to its journal.
journal_texts : (w : World) (p : Process) (owed : Option Entry) (c : WorkerCall) (text : List ℕ) → KernelGives w p c
    → IsOneOf (all_of (journal_by (w.logs (Journal p.worker)) owed c)) text → IsOneOf (all_of (w.logs (Journal p.worker))) text
journal_texts w p owed (Recovered last texts) text gives one = read_of (w.logs (Journal p.worker)) texts text gives one
journal_texts w p owed (HasPut entry) text gives one = of_nil (all_of (w.logs (Journal p.worker))) text one
journal_texts w p None HasPaid text gives one = one
journal_texts w p (Some entry) HasPaid text gives one = of_nil (all_of (w.logs (Journal p.worker))) text one
journal_texts w p owed c text gives one = one

-- A text that a process writes has the entry of its request, and the entry that it owes.
text_has : (owed : Option Entry) (r : WorkerRequest) (text : List ℕ) (x : Entry) → FitsRequest owed r → text_by owed r ≡ Some text
    → IsOneOf (entries_of (append_in text)) x → (owed ≡ Some x) ⊎ (r ≡ Put x)
text_has owed (Put entry) text x fits is one = ⊎_elim (λ old. inl old) (λ new. inr (ap Put new))
    (by owed (subst (λ a. IsOneOf (entries_of a) x) (put_says owed entry fits) (subst (λ t. IsOneOf (entries_of (append_in t)) x) (sym (some_is is)) one)))
  where
    by : (owed : Option Entry) → IsOneOf (entries_of_append (append_of owed entry)) x → (owed ≡ Some x) ⊎ (entry ≡ x)
    by None (inl e) = inr e
    by None (inr none) = absurd none
    by (Some o) (inl e) = inl (ap Some e)
    by (Some o) (inr (inl e)) = inr e
    by (Some o) (inr (inr none)) = absurd none
text_has None Pay text x fits is one = absurd (cc is)
text_has (Some o) Pay text x fits is one =
    by (subst (λ a. IsOneOf (entries_of a) x) (put_says None o fits) (subst (λ t. IsOneOf (entries_of (append_in t)) x) (sym (some_is is)) one))
  where
    by : IsOneOf (o ∷ []) x → (Some o ≡ Some x) ⊎ (Pay ≡ Put x)
    by (inl e) = inl (ap Some e)
    by (inr none) = absurd none
text_has owed r text x fits is one = absurd (cc is)

-- ---- the claim

-- Each attempt that has a recorded outcome, or that a process is about to record, has ended. Each
-- attempt on the machine was handed over.
pub record AllEnd (m : Machine) : Type 0 where
  pub ended : (q s : ℕ) → IsNoted m.world q s → HasEndedHere m q s
  pub handed : (h : Handing) → IsOneOf m.waiting h ⊎ IsOneOf m.running h → IsOneOf m.world.handed h

first_ended : (m : Machine) → AllEnd m → (q s : ℕ) → IsFirst m.world q s → HasEndedHere m q s
first_ended m ends q s first = record {
  not_waiting = λ h one named. first h (ends.handed h (inl one)) named;
  not_running = λ h one named. first h (ends.handed h (inr one)) named;
}

-- An attempt that a process asks about was not handed over.
asking_ended : (m : Machine) (v : Site) (pid : ℕ) (p : Process) (ph : Phase) (s : ℕ) → At m.world v pid p ph → IsAsking ph s
    → ((x : Entry) → p.writes ≡ Some (Put x) → ⊥) → AllEnd m → HasEndedHere m p.worker s
asking_ended m v pid p (Clears me jobs n a j logs left) s at same idle ends = ⊎_elim
    (λ clears. first_ended m ends p.worker s (subst (IsFirst m.world p.worker) same clears.2.first))
    (λ drops. absurd (idle _ drops.writes))
    at.2
asking_ended m v pid p ph s at asks idle ends = absurd asks

declined_ended : (m : Machine) (v : Site) (pid : ℕ) (p : Process) (ph : Phase) (c : WorkerCall) (s : ℕ) → At m.world v pid p ph → MayDecline ph c s
    → IsItsCall p.writes (request_of c) → AllEnd m → HasEndedHere m p.worker s
declined_ended m v pid p (Asks me st) c s at may its ends = by st at may
  where
    by : (st : Stage) → At m.world v pid p (Asks me st) → HasPutIt st s → HasEndedHere m p.worker s
    by (Clearing n a j) at put = absurd at.2
    by st at put = absurd put
declined_ended m v pid p (Works me jobs st owes logs) c s at may its ends = by st at may
  where
    by : (st : Stage) → At m.world v pid p (Works me jobs st owes logs) → HasPutIt st s → HasEndedHere m p.worker s
    by (Clearing n a j) at put = first_ended m ends p.worker s (subst (IsFirst m.world p.worker) put at.2.1.first)
    by st at put = absurd put
declined_ended m v pid p (Clears me jobs n a j logs left) c s at may its ends =
    asking_ended m v pid p (Clears me jobs n a j logs left) s at may.0
    (λ x is. let put : Put x ≡ request_of c = subst (λ o. IsItsCall o (request_of c)) is its in let read = may.2 in absurd (cc (put, read)))
    ends
declined_ended m v pid p ph c s at may its ends = absurd may

heard_ended : (m : Machine) (pid : ℕ) (p : Process) (c : WorkerCall) (s : ℕ) → RunnerHasEnded m (WorkerCalls pid c) → m.world.process pid ≡ Some p → HasHeard c s
    → HasEndedHere m p.worker s
heard_ended m pid p (Heard line reply) s rule lives heard = rule p lives s heard.0 heard.1 heard.2
heard_ended m pid p c s rule lives heard = absurd heard

owed_from : (owed : Option Entry) (c : WorkerCall) (x : Entry) → owed_by owed c ≡ Some x → (owed ≡ Some x) ⊎ (request_of c ≡ Owe x)
owed_from owed (HasOwed entry) x is = inr (ap Owe (some_is is))
owed_from owed (HasPut entry) x is = absurd (cc is)
owed_from owed HasPaid x is = absurd (cc is)
owed_from owed c x is = inl is

-- ---- calls and appends of workers

module _ (m : Machine) (v : Site) (runs : Runs m v) (ends : AllEnd m) (pid : ℕ) (p : Process) (lives : m.world.process pid ≡ Some p) where
  at_now : At m.world v pid p p.phase
  at_now = (runs.goes.stand pid p lives).here

  old_ended : (s : ℕ) → Notes p s → HasEndedHere m p.worker s
  old_ended s notes = ends.ended p.worker s (inr (pid, p, lives, refl, notes))

  -- An attempt whose outcome the process requests to record has ended.
  source_ended : (s : ℕ) → Source p.phase s → ((x : Entry) → p.writes ≡ Some (Put x) → ⊥) → HasEndedHere m p.worker s
  source_ended s from idle = ⊎_elim (λ noted. old_ended s (inr noted)) (λ asks. asking_ended m v pid p p.phase s at_now asks idle ends) from

  call_ended : (c : WorkerCall) (s : ℕ) → RunnerHasEnded m (WorkerCalls pid c) → Allows p.phase (request_of c) → IsItsCall p.writes (request_of c)
      → Notes (process_by p c) s → HasEndedHere m p.worker s
  call_ended c s rule allowed its (inl (o, owed)) = ⊎_elim
      (λ old. old_ended s (inl (o, old)))
      (λ (new : request_of c ≡ Owe (Answered s o)). source_ended s (source p.phase (request_of c) s allowed (ap answered_by new))
      (λ x is. let put : Put x ≡ request_of c = subst (λ o. IsItsCall o (request_of c)) is its in absurd (cc (put, new))))
      (owed_from p.owed c (Answered s o) owed)
  call_ended c s rule allowed its (inr noted) = ⊎_elim
      (λ old. old_ended s (inr old))
      (λ new. ⊎_elim
      (λ declines. declined_ended m v pid p p.phase c s at_now declines its ends)
      (λ heard. heard_ended m pid p c s rule lives heard)
      new)
      (phase_notes p.phase c s noted)

  called_says : (c : WorkerCall) (q s : ℕ) → KernelGives m.world p c → Says (has_called m.world pid (Some p) c) q s → Says m.world q s
  called_says c q s gives (text, o, one, says) = (text, o, was one, says)
    where
      was : IsOneOf (all_of ((has_called m.world pid (Some p) c).logs (Journal q))) text → IsOneOf (all_of (m.world.logs (Journal q))) text
      was = at_log (λ (l : Log). IsOneOf (all_of l) text → IsOneOf (all_of (m.world.logs (Journal q))) text) m.world.logs (Journal p.worker)
          (journal_by (m.world.logs (Journal p.worker)) p.owed c) (Journal q)
          (λ e one. subst (λ g. IsOneOf (all_of (m.world.logs g)) text) (sym e) (journal_texts m.world p p.owed c text gives one))
          (λ n one. one)

  calls_end : (c : WorkerCall) → RunnerHasEnded m (WorkerCalls pid c) → Allows p.phase (request_of c) → IsItsCall p.writes (request_of c)
      → KernelGives m.world p c → (q s : ℕ) → IsNoted (has_called m.world pid (Some p) c) q s → HasEndedHere m q s
  calls_end c rule allowed its gives q s (inl says) = ends.ended q s (inl (called_says c q s gives says))
  calls_end c rule allowed its gives q s (inr (at, x, lives', of, notes)) = at_number
      (λ (y : Option Process). y ≡ Some x → HasEndedHere m q s) m.world.process pid (Some (process_by p c)) at
      (λ e is.
      let same : process_by p c ≡ x = some_is is in
      subst (λ k. HasEndedHere m k s) (ap (λ (y : Process). y.worker) same ∙ of)
      (call_ended c s rule allowed its (subst (λ (y : Process). Notes y s) (sym same) notes)))
      (λ n is. ends.ended q s (inr (at, x, is, of, notes)))
      lives'

  -- The process writes an append.
  writes_end : (r : WorkerRequest) (text : List ℕ) → Allows p.phase r → p.writes ≡ None → FitsRequest p.owed r → text_by p.owed r ≡ Some text
      → (q s : ℕ) → IsNoted (written m.world pid (Some p) r) q s → HasEndedHere m q s
  writes_end r text allowed idle fits is_text q s (inl (t, o, one, says)) = at_log
      (λ (l : Log). IsOneOf (all_of l) t → HasEndedHere m q s) m.world.logs (Journal p.worker)
      (with_append_if (m.world.logs (Journal p.worker)) (text_by p.owed r)) (Journal q)
      (λ e one.
      let here : p.worker ≡ q = journal_is e in
      subst (λ k. HasEndedHere m k s) here
      (by (subst (λ (x : Option (List ℕ)). IsOneOf (all_of (with_append_if (m.world.logs (Journal p.worker)) x)) t) is_text one)))
      (λ n one. ends.ended q s (inl (t, o, one, says)))
      one
    where
      journal_is : Journal q ≡ Journal p.worker → p.worker ≡ q
      journal_is e = cc

      fresh : text ≡ t → HasEndedHere m p.worker s
      fresh e = ⊎_elim
          (λ owed. old_ended s (inl (o, owed)))
          (λ put. source_ended s (source p.phase r s allowed (ap answered_by put)) (λ x is. absurd (cc (idle, is))))
          (text_has p.owed r text (Answered s o) fits is_text (subst (λ y. IsOneOf (entries_of (append_in y)) (Answered s o)) (sym e) says))

      by : IsOneOf ((m.world.logs (Journal p.worker)).kept ++ ((m.world.logs (Journal p.worker)).rest ++ text ∷ [])) t → HasEndedHere m p.worker s
      by one =
          let log = m.world.logs (Journal p.worker) in
          ⊎_elim
          (λ kept. ends.ended p.worker s (inl (t, o, of_left log.kept log.rest t kept, says)))
          (λ more. ⊎_elim
          (λ rest. ends.ended p.worker s (inl (t, o, of_right log.kept log.rest t rest, says)))
          (λ new. ⊎_elim (λ (e : text ≡ t). fresh e) (λ none. absurd none) new)
          (of_both log.rest (text ∷ []) t more))
          (of_both log.kept (log.rest ++ text ∷ []) t one)
  writes_end r text allowed idle fits is_text q s (inr (at, x, lives', of, notes)) = at_number
      (λ (y : Option Process). y ≡ Some x → HasEndedHere m q s) m.world.process pid (Some (record p { writes = Some r })) at
      (λ e is.
      let same : record p { writes = Some r } ≡ x = some_is is in
      subst (λ k. HasEndedHere m k s) (ap (λ (y : Process). y.worker) same ∙ of)
      (old_ended s (subst (λ (y : Process). Notes y s) (sym same) notes)))
      (λ n is. ends.ended q s (inr (at, x, is, of, notes)))
      lives'

-- ---- events

-- An event records an outcome only of an attempt that has ended.
event_ends : (m : Machine) (v : Site) (e : Event) → MayFollow m (Happens e) → RunnerHasEnded m e → Runs m v → AllEnd m
    → (q s : ℕ) → IsNoted (world_after m.world e) q s → HasEndedHere m q s
event_ends m v (Starts pid worker) may rule runs ends q s (inl says) = ends.ended q s (inl says)
event_ends m v (Starts pid worker) may rule runs ends q s (inr (at, x, lives', of, notes)) = at_number
    (λ (y : Option Process). y ≡ Some x → HasEndedHere m q s) m.world.process pid (Some (new_process worker)) at
    (λ e is. none (subst (λ (y : Process). Notes y s) (sym (some_is is)) notes))
    (λ n is. ends.ended q s (inr (at, x, is, of, notes)))
    lives'
  where
    none : Notes (new_process worker) s → HasEndedHere m q s
    none (inl (c, owed)) = absurd (cc owed)
    none (inr noted) = absurd (cc noted)
event_ends m v (Writes pid r) ((p, (lives, al), idle, fits, text, is_text), free, own) rule runs ends q s noted =
    subst (λ (o : Option Process). IsNoted (written m.world pid o r) q s → HasEndedHere m q s) (sym lives)
    (writes_end m v runs ends pid p lives r text al idle fits is_text q s) noted
event_ends m v (HandsOver pid serial line text) may rule runs ends q s noted = ends.ended q s noted
event_ends m v (WorkerCalls pid c) ((p, (lives, al), its, gives, replies), free, own) rule runs ends q s noted =
    subst (λ (o : Option Process). IsNoted (has_called m.world pid o c) q s → HasEndedHere m q s) (sym lives)
    (calls_end m v runs ends pid p lives c rule al its gives q s) noted
event_ends m v (WorkerDies pid) may rule runs ends q s (inl says) = ends.ended q s (inl says)
event_ends m v (WorkerDies pid) may rule runs ends q s (inr (at, x, lives', of, notes)) = at_number
    (λ (y : Option Process). y ≡ Some x → HasEndedHere m q s) m.world.process pid None at
    (λ e is. absurd (cc is))
    (λ n is. ends.ended q s (inr (at, x, is, of, notes)))
    lives'
event_ends m v (Stopped left) may rule runs ends q s (inl (text, c, one, says)) =
    ends.ended q s (inl (text, c, left_texts (m.world.logs (Journal q)) (left (Journal q)) text one, says))
event_ends m v (Stopped left) may rule runs ends q s (inr (at, x, lives', of, notes)) = absurd (cc lives')
event_ends m v (Performs h) may rule runs ends q s noted = ends.ended q s noted
event_ends m v (Ends i) may rule runs ends q s noted = ends.ended q s noted
event_ends m v (Doubts worker serial time) may rule runs ends q s noted = absurd may.2
event_ends m v (Resolves f) may rule runs ends q s noted = absurd may.2
event_ends m v (Recovers log more) may rule runs ends q s noted = absurd may.2

-- An attempt that has ended stays so after an event.
ended_on : (m : Machine) (v : Site) (e : Event) (q s : ℕ) → MayFollow m (Happens e) → Runs m v → AllEnd m → IsNoted (world_after m.world e) q s
    → HasEndedHere m q s → HasEndedHere (machine_after m (Happens e)) q s
ended_on m v (Stopped left) q s may runs ends noted ended = record { not_waiting = λ h one named. absurd one; not_running = λ h one named. absurd one }
ended_on m v (HandsOver pid serial line text) q s may runs ends noted ended = record {
  not_waiting = λ h one named. ⊎_elim
      (λ new.
      let given = given_at m.world v pid serial line text may.0 runs.goes h new in
      let settled : Settled v q s = is_settled m.world v runs.goes q s noted in
      settled.1 given.line given.seen
      (ap v.stage (sym named.0) ∙ (given.stage ∙ ap (λ (k : ℕ). ModelClearing k given.line given.seen) named.1)))
      (λ old. ended.not_waiting h old named)
      (of_both (handing_of (m.world.process pid) serial line) m.waiting h one);
  not_running = ended.not_running;
}
ended_on m v e q s may runs ends noted ended = record { not_waiting = ended.not_waiting; not_running = ended.not_running }

called_handed : (w : World) (pid : ℕ) (o : Option Process) (c : WorkerCall) (h : Handing) → IsOneOf w.handed h → IsOneOf (has_called w pid o c).handed h
called_handed w pid None c h one = one
called_handed w pid (Some p) c h one = one

written_handed : (w : World) (pid : ℕ) (o : Option Process) (r : WorkerRequest) (h : Handing) → IsOneOf w.handed h → IsOneOf (written w pid o r).handed h
written_handed w pid None r h one = one
written_handed w pid (Some p) r h one = one

handed_on : (m : Machine) (e : Event) → AllEnd m → (h : Handing)
    → IsOneOf (machine_after m (Happens e)).waiting h ⊎ IsOneOf (machine_after m (Happens e)).running h → IsOneOf (world_after m.world e).handed h
handed_on m (HandsOver pid serial line text) ends h (inl waits) = ⊎_elim
    (λ new. of_left (handing_of (m.world.process pid) serial line) m.world.handed h new)
    (λ old. of_right (handing_of (m.world.process pid) serial line) m.world.handed h (ends.handed h (inl old)))
    (of_both (handing_of (m.world.process pid) serial line) m.waiting h waits)
handed_on m (HandsOver pid serial line text) ends h (inr runs) =
    of_right (handing_of (m.world.process pid) serial line) m.world.handed h (ends.handed h (inr runs))
handed_on m (Stopped left) ends h (inl waits) = absurd waits
handed_on m (Stopped left) ends h (inr runs) = absurd runs
handed_on m (Writes pid r) ends h one = written_handed m.world pid (m.world.process pid) r h (ends.handed h one)
handed_on m (WorkerCalls pid c) ends h one = called_handed m.world pid (m.world.process pid) c h (ends.handed h one)
handed_on m (Starts pid worker) ends h one = ends.handed h one
handed_on m (WorkerDies pid) ends h one = ends.handed h one
handed_on m (Performs x) ends h one = ends.handed h one
handed_on m (Ends i) ends h one = ends.handed h one
handed_on m (Doubts worker serial time) ends h one = ends.handed h one
handed_on m (Resolves f) ends h one = ends.handed h one
handed_on m (Recovers log more) ends h one = ends.handed h one

happens_end : (m : Machine) (v : Site) (e : Event) → MayFollow m (Happens e) → RunnerHasEnded m e → Runs m v → AllEnd m → AllEnd (machine_after m (Happens e))
happens_end m v e may rule runs ends = record {
  ended = λ q s noted. ended_on m v e q s may runs ends (same e noted) (event_ends m v e may rule runs ends q s (same e noted));
  handed = λ h one. same_handed e h (handed_on m e ends h one);
}
  where
    same : {q s : ℕ} (e : Event) → IsNoted (machine_after m (Happens e)).world q s → IsNoted (world_after m.world e) q s
    same (Stopped left) noted = noted
    same e noted = noted

    same_handed : (e : Event) (h : Handing) → IsOneOf (world_after m.world e).handed h → IsOneOf (machine_after m (Happens e)).world.handed h
    same_handed (Stopped left) h one = one
    same_handed e h one = one

-- ---- steps of commands

-- the text by which a command records a doubt
abbrev doubt_text : AttemptId → (time : ℕ) → List ℕ
doubt_text i time = text_of_append (One (Answered i.serial (Doubt time)))

-- A command writes an append.
records_end : (m : Machine) (v : Site) (pid : ℕ) (r : Request) → MayFollow m (Records pid r) → Runs m v → Stops m → AllEnd m
    → (q s : ℕ) → IsNoted (recorded m.world r) q s → HasEndedHere m q s
records_end m v pid (PutDoubt i time) may runs stops ends q s (inl (t, o, one, says)) = at_log
    (λ (l : Log). IsOneOf (all_of l) t → HasEndedHere m q s) m.world.logs (Journal i.worker)
    (with_append (m.world.logs (Journal i.worker)) (doubt_text i time)) (Journal q)
    (λ e one. subst (λ k. HasEndedHere m k s) (journal_is e) (by one))
    (λ n one. ends.ended q s (inl (t, o, one, says)))
    one
  where
    journal_is : Journal q ≡ Journal i.worker → i.worker ≡ q
    journal_is e = cc

    doubt_is : IsOneOf (Answered i.serial (Doubt time) ∷ []) (Answered s o) → i.serial ≡ s
    doubt_is (inl e) = cc e
    doubt_is (inr none) = absurd none

    fresh : (doubt_text i time) ≡ t → HasEndedHere m i.worker s
    fresh e =
        let final = doubt_final m v pid i time may runs stops in
        let same : i.serial ≡ s = doubt_is (subst (λ a. IsOneOf (entries_of a) (Answered s o)) (put_says None (Answered i.serial (Doubt time)) may.3)
        (subst (λ y. IsOneOf (entries_of (append_in y)) (Answered s o)) (sym e) says)) in
        subst (HasEndedHere m i.worker) same (record { not_waiting = final.not_waiting; not_running = final.not_running })

    by : IsOneOf ((m.world.logs (Journal i.worker)).kept ++ ((m.world.logs (Journal i.worker)).rest ++ (doubt_text i time) ∷ [])) t → HasEndedHere m i.worker s
    by one =
        let log = m.world.logs (Journal i.worker) in
        ⊎_elim
        (λ kept. ends.ended i.worker s (inl (t, o, of_left log.kept log.rest t kept, says)))
        (λ more. ⊎_elim
        (λ rest. ends.ended i.worker s (inl (t, o, of_right log.kept log.rest t rest, says)))
        (λ new. ⊎_elim (λ (e : (doubt_text i time) ≡ t). fresh e) (λ none. absurd none) new)
        (of_both log.rest ((doubt_text i time) ∷ []) t more))
        (of_both log.kept (log.rest ++ (doubt_text i time) ∷ []) t one)
records_end m v pid (PutDoubt i time) may runs stops ends q s (inr notes) = ends.ended q s (inr notes)
records_end m v pid (PutAnswer f) may runs stops ends q s noted = ends.ended q s noted
records_end m v pid r may runs stops ends q s noted = absurd may.3

-- A call of a command adds no text to a journal.
command_texts : (m : Machine) (o : Operator) (c : Call) (q : ℕ) (t : List ℕ) → MachineGives m o c → IsOneOf (all_of (logs_by m.world.logs c (Journal q))) t
    → IsOneOf (all_of (m.world.logs (Journal q))) t
command_texts m o (HasRecoveredLog log last texts) q t gives one = at_log
    (λ (l : Log). IsOneOf (all_of l) t → IsOneOf (all_of (m.world.logs (Journal q))) t) m.world.logs log (record { kept = texts; rest = [] }) (Journal q)
    (λ e was. subst (λ g. IsOneOf (all_of (m.world.logs g)) t) (sym e) (read_of (m.world.logs log) texts t gives was))
    (λ n was. was)
    one
command_texts m o (HasPutDoubt i time) q t gives one = at_log
    (λ (l : Log). IsOneOf (all_of l) t → IsOneOf (all_of (m.world.logs (Journal q))) t) m.world.logs (Journal i.worker)
    (synced (m.world.logs (Journal i.worker))) (Journal q)
    (λ e was. subst (λ g. IsOneOf (all_of (m.world.logs g)) t) (sym e) (of_nil (all_of (m.world.logs (Journal i.worker))) t was))
    (λ n was. was)
    one
command_texts m o (HasPutAnswer f) q t gives one = one
command_texts m o c q t gives one = one

-- ---- steps

keeps : (m m' : Machine) (q s : ℕ) → ((h : Handing) → IsOneOf m'.waiting h → IsOneOf m.waiting h)
    → ((h : Handing) → IsOneOf m'.running h → IsOneOf m.running h ⊎ IsOneOf m.waiting h) → HasEndedHere m q s → HasEndedHere m' q s
keeps m m' q s waiting running ended = record {
  not_waiting = λ h one named. ended.not_waiting h (waiting h one) named;
  not_running = λ h one named. ⊎_elim (λ ran. ended.not_running h ran named) (λ waited. ended.not_waiting h waited named) (running h one);
}

-- A step changes only the attempts on the machine.
attempts_end : (m : Machine) (waiting running : List Handing) → ((h : Handing) → IsOneOf waiting h → IsOneOf m.waiting h)
    → ((h : Handing) → IsOneOf running h → IsOneOf m.running h ⊎ IsOneOf m.waiting h) → AllEnd m
    → AllEnd (record m { waiting = waiting; running = running })
attempts_end m waiting running waits ran ends = record {
  ended = λ q s noted. keeps m (record m { waiting = waiting; running = running }) q s waits ran (ends.ended q s noted);
  handed = λ h one. ⊎_elim
      (λ waited. ends.handed h (inl (waits h waited)))
      (λ runs. ⊎_elim (λ old. ends.handed h (inr old)) (λ new. ends.handed h (inl new)) (ran h runs))
      one;
}

records_all : (m : Machine) (pid : ℕ) (x : Option Operator) (r : Request) → ((q s : ℕ) → IsNoted (recorded m.world r) q s → HasEndedHere m q s) → AllEnd m
    → AllEnd (has_recorded m pid x r)
records_all m pid None r new ends = ends
records_all m pid (Some o) (PutDoubt i time) new ends = record {
  ended = λ q s noted. let was = new q s noted in record { not_waiting = was.not_waiting; not_running = was.not_running };
  handed = ends.handed;
}
records_all m pid (Some o) (PutAnswer f) new ends = record {
  ended = λ q s noted. let was = new q s noted in record { not_waiting = was.not_waiting; not_running = was.not_running };
  handed = ends.handed;
}
records_all m pid (Some o) r new ends = record {
  ended = λ q s noted. let was = new q s noted in record { not_waiting = was.not_waiting; not_running = was.not_running };
  handed = ends.handed;
}

command_calls_end : (m : Machine) (pid : ℕ) (o : Operator) (c : Call) → MachineGives m o c → AllEnd m → AllEnd (called m pid (Some o) c)
command_calls_end m pid o c gives ends = record {
  ended = λ q s noted. let was = old q s noted in record { not_waiting = was.not_waiting; not_running = was.not_running };
  handed = ends.handed;
}
  where
    old : (q s : ℕ) → IsNoted (called m pid (Some o) c).world q s → HasEndedHere m q s
    old q s (inl (t, x, one, says)) = ends.ended q s (inl (t, x, command_texts m o c q t gives one, says))
    old q s (inr notes) = ends.ended q s (inr notes)

pub step_ends : (m : Machine) (v : Site) (step : Step) → MayFollow m step → RunnerEnds m step → Runs m v → Stops m → AllEnd m → AllEnd (machine_after m step)
step_ends m v (Happens e) may rule runs stops ends = happens_end m v e may rule runs ends
step_ends m v (Begins h) may rule runs stops ends = attempts_end m (without h m.waiting) (h ∷ m.running)
    (λ x one. left_of h m.waiting x one)
    (λ x one. ⊎_elim (λ (e : h ≡ x). inr (subst (IsOneOf m.waiting) e may)) (λ old. inl old) one)
    ends
step_ends m v (Exits h) may rule runs stops ends = attempts_end m m.waiting (without h m.running) (λ x one. one) (λ x one. inl (left_of h m.running x one)) ends
step_ends m v (Drops h) may rule runs stops ends = attempts_end m (without h m.waiting) m.running (λ x one. left_of h m.waiting x one) (λ x one. inl one) ends
step_ends m v (Enters pid command) may rule runs stops ends = record {
  ended = λ q s noted. let was = ends.ended q s noted in record { not_waiting = was.not_waiting; not_running = was.not_running };
  handed = ends.handed;
}
step_ends m v (Records pid r) may rule runs stops ends = records_all m pid (m.operator pid) r (records_end m v pid r may runs stops ends) ends
step_ends m v (Calls pid c) (o, (is, allowed), its, gives) rule runs stops ends =
    subst (λ (x : Option Operator). AllEnd (called m pid x c)) (sym is) (command_calls_end m pid o c gives ends)
step_ends m v (Dies pid) may rule runs stops ends = record {
  ended = λ q s noted. let was = ends.ended q s noted in record { not_waiting = was.not_waiting; not_running = was.not_running };
  handed = ends.handed;
}

-- ---- runs

pub first_ends : AllEnd first_machine
first_ends = record { ended = λ q s noted. none q s noted; handed = λ h one. ⊎_elim (λ waits. absurd waits) (λ runs. absurd runs) one }
  where
    none : (q s : ℕ) → IsNoted first_machine.world q s → HasEndedHere first_machine q s
    none q s (inl (t, c, one, says)) = absurd one
    none q s (inr (pid, p, lives, of, notes)) = absurd (cc lives)

all_end : (steps : List Step) (m : Machine) → IsRunFrom m steps → RunnersEndFrom m steps → Stands m → AllEnd m → AllEnd (machine_from m steps)
all_end [] m run rule stands ends = ends
all_end (s ∷ steps) m (may, run) (keeps, rule) stands ends =
    let next = step_leads calls_lead records_lead m stands.site s may stands.runs in
    all_end steps (machine_after m s) run rule
    (record { site = site_from stands.site next.events; runs = next.runs; stops = step_stops m stands.site s may stands.runs stands.stops })
    (step_ends m stands.site s may keeps stands.runs stands.stops ends)

-- In each run in which runners keep their rule, an attempt with a recorded outcome has ended.
pub recorded_have_ended : (steps : List Step) → IsRun steps → RunnersEnd steps → (q s : ℕ) (c : Outcome) (text : List ℕ)
    → IsOneOf (all_of ((machine_of steps).world.logs (Journal q))) text → IsOneOf (entries_of (append_in text)) (Answered s c)
    → HasEndedHere (machine_of steps) q s
recorded_have_ended steps run rule q s c text one says =
    (all_end steps first_machine run rule first_stands first_ends).ended q s (inl (text, c, one, says))
