-- Runs by moves: a process does what its phase has it do next, and the world gives what it may
-- give.
use Rattle.std.proofs.Common.{◌≡◌, inl, inr, ℕ, zero, suc, ◌+◌, ◌<◌, ◌^◌, Bool, true, false, cond, ◌&&◌, List, [], ◌∷◌, ◌++◌, length, drop, Option, Some, None, refl, sym, ap, subst, ◌∙◌, arith}
use Rattle.std.specs.Prelude.{◌==◌, nat_lt, not, slice_get, is_none, option_map, option_and_then, if◌then◌else◌}
use Rattle.std.proofs.lemmas.Bool.{and_parts, eq-eqb, eqb-true}
use Rattle.std.proofs.lemmas.Bool.Decides.{nat_tests}
use Rattle.std.proofs.lemmas.List.{take_all}
use Rattle.amo_safety_by_journals.specs.Model.{Handing, IsOneOf}
use Rattle.amo_driver.specs.declared.answer.JobResult.TheVariants.{Unbegun}
use Rattle.amo_driver.specs.declared.answer.Reply.{Reply}
use Rattle.amo_driver.specs.declared.answer.Reply.TheVariants.{Answered}
use Rattle.amo_driver.specs.declared.answer.Way.{Way}
use Rattle.amo_driver.specs.declared.model.Try.{Try}
use Rattle.amo_driver.specs.declared.model.Try.TheVariants.{Load, Store, Find, Intend, Clear, Perform, Note, Ask}
use Rattle.amo_driver.specs.Course.{due}
use Rattle.amo_driver.specs.Stage.{Stage, Performing, Asking, Settling}
use Rattle.amo_params.specs.declared.limits.TheConstants.{MAX_WORKERS}
use Rattle.amo_host.specs.declared.model.Hold.TheVariants.{Shared, Exclusive}
use Rattle.amo_host.specs.declared.model.LogFile.{LogFile}
use Rattle.amo_host.specs.declared.model.LogFile.TheVariants.{Answers, Journal}
use Rattle.amo_host.specs.declared.model.RunLock.TheVariants.{Guard, Round}
use Rattle.amo_host.specs.Calls.{Request, Put, Pay, Call, Tried, FolderIsKept, FolderIsSynced, BootIs, RoundIs, Recovered, JobsAre, RegistersAre, LogIs, Loaded, Stored, PassedOver, HasRead, HasPut, HasOwed, HasPaid, Heard, Say, request_of}
use Rattle.amo_host.specs.Joining.{MayJoin}
use Rattle.amo_host.specs.Phase.{Identity, Start, Unborn, Guards, Checked, Knows, HasRecovered, Settled, Join, Locked, Booted, HasHeader, HasJobs, Seated, Purpose, ToWork, ToBegin, Phase, Starts as Starting, Asks, Joins, Reads, Works, Clears}
use Rattle.amo_host.specs.Protocol.{Allows, CarriesOut, MayAsk, MayWork, line_at, outcome_entry}
use Rattle.amo_host.specs.Reading.{MayRead}
use Rattle.amo_host.specs.Starting.{MayStart}
use Rattle.amo_runner_protocol.specs.Lines.{reply_heard}
use Rattle.amo_runner_protocol.specs.Sayings.{perform_text, was_text}
use Rattle.amo_run_files.specs.declared.extent.Extent.{Extent}
use Rattle.amo_run_files.specs.declared.round_file.RoundFile.{RoundFile}
use Rattle.amo_run_files.specs.Heads.{head_of}
use Rattle.amo_run_files.specs.Jobs.{line_of}
use Rattle.amo_run_files.specs.Records.{said_by}
use Rattle.amo_run_files.specs.Words.{words_len}
use Rattle.amo_run_log.specs.declared.entry.Entry.{Entry}
use Rattle.amo_run_log.specs.declared.entry.Entry.TheVariants.{Intent, Answer as AnswerTo}
use Rattle.amo_run_log.specs.declared.entry.Outcome.{Outcome}
use Rattle.amo_run_log.specs.declared.entry.Outcome.TheVariants.{Done as DoneAt, Doubt as DoubtAt, Unbegun as NotBegun, Untouched as UntouchedAt}
use Rattle.amo_run_log.specs.Entries.{Fits, FitsAnswer}
use Rattle.amo_run_log.proofs.Words.{and_then_some}
use Rattle.amo_program_safety.specs.World.{Log, Process, World, Event, Starts, Writes, HandsOver, Calls, Dies, Stops, Performs, Ends, text_by, world_after}
use Rattle.amo_program_safety.specs.Runs.{AreRead, FitsRequest, IsWritten, IsItsCall, IsNamed, IsUntouched, KernelGives, RunnerGives, MayFollow, IsRunFrom, world_from}

-- ---- what a process does next

-- Processes are given the file of the round that they join, the lines of the run, how much of a log
-- is counted, and the reply of a runner.
pub record Given : Type 0 where
  pub file : RoundFile
  pub lines : List (List ℕ)
  pub counted : Extent
  pub reply : Option (List ℕ)

-- the registers of this round, in which nothing is stored yet
abbrev registers_of : RoundFile → Option (ℕ × List ℕ)
registers_of file = option_map (λ head. (words_len file.header.givens, head)) (head_of (said_by file.header))

module _ (g : Given) (texts : LogFile → List (List ℕ)) where
  abbrev next_start : (worker : ℕ) → Start → Call
  next_start k Unborn = Tried (Guard k) Exclusive true
  next_start k Guards = FolderIsKept
  next_start k Checked = RoundIs None
  next_start k (Knows last) = Recovered last (texts (Journal k))
  next_start k (HasRecovered last said) = FolderIsSynced
  next_start k (Settled last said) = JobsAre last g.lines

  abbrev next_join : Join → Call
  next_join (Locked prior) = BootIs []
  next_join (Booted prior boot) = RoundIs (Some g.file)
  next_join (HasHeader prior file) = JobsAre (Some file) g.lines
  next_join (HasJobs prior file) = RegistersAre 512 (registers_of file)
  next_join (Seated prior file givens seat) = FolderIsSynced

  abbrev next_ask : Identity → Stage → Option Call
  next_ask me (Asking []) = Some (Tried Round Shared true)
  next_ask me (Asking (i ∷ rest)) = option_map (λ text. Heard (was_text i.serial i.line text) g.reply) (line_of me.lines i.line)
  next_ask me (Settling s c way rest) = Some (HasPut (outcome_entry s 0 c))
  next_ask me st = None

  abbrev next_read : Purpose → List LogFile → Option Call
  next_read (ToWork file givens seat) (f ∷ left) = Some (LogIs f (Some file) (texts f) g.counted)
  next_read purpose left = None

  abbrev next_work : Identity → List ℕ → Option Try → Option Call
  next_work me jobs None = Some HasPaid
  next_work me jobs (Some (Load w)) = Some (Loaded w 0)
  next_work me jobs (Some (Store w v)) = Some (Stored w v)
  next_work me jobs (Some (Find j)) = Some (PassedOver j)
  next_work me jobs (Some (Intend s j)) = option_map (λ line. HasPut (Intent s line 0)) (line_at jobs j)
  next_work me jobs (Some (Clear s j)) = Some (HasRead Answers (texts Answers))
  next_work me jobs (Some (Perform s j)) = option_and_then (λ line. option_map (λ text. Heard (perform_text s line text) g.reply) (line_of me.lines line)) (line_at jobs j)
  next_work me jobs (Some (Note s c)) = Some (HasOwed (outcome_entry s 0 c))
  next_work me jobs (Some (Ask s line)) = None

  abbrev next_clearance : List LogFile → Option Call
  next_clearance [] = None
  next_clearance (f ∷ left) = Some (HasRead f (texts f))

  -- its next call, if all goes well
  abbrev pub next : Phase → Option Call
  next (Starting k start) = Some (next_start k start)
  next (Asks me st) = next_ask me st
  next (Joins me join) = Some (next_join join)
  next (Reads me purpose logs counts left) = next_read purpose left
  next (Works me jobs st owes logs) = next_work me jobs (due st)
  next (Clears me jobs s a j logs left) = next_clearance left
  next ph = None

  start_allowed : (k : ℕ) (start : Start) → MayStart k start (request_of (next_start k start))
  start_allowed k Unborn = refl
  start_allowed k Guards = refl
  start_allowed k Checked = refl
  start_allowed k (Knows last) = refl
  start_allowed k (HasRecovered last said) = refl
  start_allowed k (Settled last said) = refl

  join_allowed : (join : Join) → MayJoin join (request_of (next_join join))
  join_allowed (Locked prior) = refl
  join_allowed (Booted prior boot) = refl
  join_allowed (HasHeader prior file) = inl refl
  join_allowed (HasJobs prior file) = (512, refl)
  join_allowed (Seated prior file givens seat) = refl

  some_is : {A : Type 0} {x y : A} → Some x ≡ Some y → x ≡ y
  some_is e = cc

  mapped : {A B : Type 0} (f : A → B) (o : Option A) (y : B) → option_map f o ≡ Some y → (x : A) × (o ≡ Some x) × (f x ≡ y)
  mapped f None y h = absurd (cc h)
  mapped f (Some x) y h = (x, refl, some_is h)

  ask_allowed : (me : Identity) (st : Stage) (c : Call) → next_ask me st ≡ Some c → MayAsk me st (request_of c)
  ask_allowed me (Asking []) c h = subst (λ x. MayAsk me (Asking []) (request_of x)) (some_is h) (inr (refl, (Shared, refl)))
  ask_allowed me (Asking (i ∷ rest)) c h =
      let (text, is, said) = mapped (λ text. Heard (was_text i.serial i.line text) g.reply) (line_of me.lines i.line) c h in
      inl (Ask i.serial i.line, refl, (text, is, ap request_of (sym said)))
  ask_allowed me (Settling s o way rest) c h = subst (λ x. MayAsk me (Settling s o way rest) (request_of x)) (some_is h) (inl (Note s o, refl, (0, refl)))
  ask_allowed me st c h = absurd (cc h)

  read_allowed : (purpose : Purpose) (left : List LogFile) (c : Call) → next_read purpose left ≡ Some c → MayRead purpose left (request_of c)
  read_allowed (ToWork file givens seat) (f ∷ left) c h = subst (λ x. MayRead (ToWork file givens seat) (f ∷ left) (request_of x)) (some_is h) (tt, refl)
  read_allowed (ToWork file givens seat) [] c h = absurd (cc h)
  read_allowed (ToBegin boot last known list) left c h = absurd (cc h)

  tried_allowed : (me : Identity) (jobs : List ℕ) (t : Try) (c : Call) → next_work me jobs (Some t) ≡ Some c → CarriesOut me jobs t (request_of c)
  tried_allowed me jobs (Load w) c h = ap request_of (sym (some_is h))
  tried_allowed me jobs (Store w v) c h = ap request_of (sym (some_is h))
  tried_allowed me jobs (Find j) c h = ap request_of (sym (some_is h))
  tried_allowed me jobs (Intend s j) c h =
      let (line, is, put) = mapped (λ line. HasPut (Intent s line 0)) (line_at jobs j) c h in
      (line, 0, is, ap request_of (sym put))
  tried_allowed me jobs (Clear s j) c h = ap request_of (sym (some_is h))
  tried_allowed me jobs (Perform s j) c h =
      let (line, is, more) = and_then_some (λ line. option_map (λ text. Heard (perform_text s line text) g.reply) (line_of me.lines line)) (line_at jobs j) c h in
      let (text, text_is, said) = mapped (λ text. Heard (perform_text s line text) g.reply) (line_of me.lines line) c more in
      (line, text, is, text_is, ap request_of (sym said))
  tried_allowed me jobs (Note s o) c h = (0, ap request_of (sym (some_is h)))
  tried_allowed me jobs (Ask s line) c h = absurd (cc h)

  work_allowed : (me : Identity) (jobs : List ℕ) (st : Stage) (owes : Bool) (o : Option Try) → due st ≡ o → (c : Call) → next_work me jobs o ≡ Some c → MayWork me jobs st owes (request_of c)
  work_allowed me jobs st owes None is c h = inr (is, inl (ap request_of (sym (some_is h))))
  work_allowed me jobs st owes (Some t) is c h = inl (t, is, tried_allowed me jobs t c h)

  pub next_allowed : (ph : Phase) (c : Call) → next ph ≡ Some c → Allows ph (request_of c)
  next_allowed (Starting k start) c h = subst (λ x. MayStart k start (request_of x)) (some_is h) (start_allowed k start)
  next_allowed (Asks me st) c h = ask_allowed me st c h
  next_allowed (Joins me join) c h = subst (λ x. MayJoin join (request_of x)) (some_is h) (join_allowed join)
  next_allowed (Reads me purpose logs counts left) c h = read_allowed purpose left c h
  next_allowed (Works me jobs st owes logs) c h = work_allowed me jobs st owes (due st) refl c h
  next_allowed (Clears me jobs s a j logs []) c h = absurd (cc h)
  next_allowed (Clears me jobs s a j logs (f ∷ left)) c h = inl (ap request_of (sym (some_is h)))
  next_allowed ph c h = absurd (cc h)

-- ---- what the world gives

-- what a process has not read yet of a log
abbrev pub unread : World → Process → LogFile → List (List ℕ)
unread w p log = drop (length (p.read log)) ((w.logs log).kept ++ (w.logs log).rest)

abbrev same_text : List ℕ → List ℕ → Bool
same_text [] [] = true
same_text (x ∷ xs) (y ∷ ys) = (x == y) && same_text xs ys
same_text xs ys = false

text_is : (xs ys : List ℕ) → same_text xs ys ≡ true → xs ≡ ys
text_is [] [] h = refl
text_is (x ∷ xs) (y ∷ ys) h =
    let both = and_parts (x == y) (same_text xs ys) h in
    let first : x ≡ y = eqb-true x y both.0 in
    let others : xs ≡ ys = text_is xs ys both.1 in
    cc
text_is [] (y ∷ ys) h = absurd (cc h)
text_is (x ∷ xs) [] h = absurd (cc h)

abbrev same_texts : List (List ℕ) → List (List ℕ) → Bool
same_texts [] [] = true
same_texts (x ∷ xs) (y ∷ ys) = same_text x y && same_texts xs ys
same_texts xs ys = false

texts_are : (xs ys : List (List ℕ)) → same_texts xs ys ≡ true → xs ≡ ys
texts_are [] [] h = refl
texts_are (x ∷ xs) (y ∷ ys) h =
    let both = and_parts (same_text x y) (same_texts xs ys) h in
    let first : x ≡ y = text_is x y both.0 in
    let others : xs ≡ ys = texts_are xs ys both.1 in
    cc
texts_are [] (y ∷ ys) h = absurd (cc h)
texts_are (x ∷ xs) [] h = absurd (cc h)

abbrev are_all : Log → List (List ℕ) → Bool
are_all log texts = same_texts texts (log.kept ++ log.rest)

all_read : (log : Log) (texts : List (List ℕ)) → are_all log texts ≡ true → AreRead log texts
all_read log texts h = (length log.rest, texts_are texts (log.kept ++ log.rest) h ∙ ap (λ more. log.kept ++ more) (sym (take_all (length log.rest) log.rest (omega arith))))

abbrev same_outcome : Outcome → Outcome → Bool
same_outcome NotBegun NotBegun = true
same_outcome (DoneAt code time) (DoneAt other late) = (code == other) && (time == late)
same_outcome one other = false

outcome_is : (one other : Outcome) → same_outcome one other ≡ true → one ≡ other
outcome_is NotBegun NotBegun h = refl
outcome_is (DoneAt code time) (DoneAt other late) h =
    let both = and_parts (code == other) (time == late) h in
    let codes : code ≡ other = eqb-true code other both.0 in
    let times : time ≡ late = eqb-true time late both.1 in
    cc
outcome_is one other h = absurd (cc h)

abbrev same_entry : Entry → Entry → Bool
same_entry (Intent s line time) (Intent r other late) = (s == r) && ((line == other) && (time == late))
same_entry (AnswerTo s outcome) (AnswerTo r other) = (s == r) && same_outcome outcome other
same_entry one other = false

entry_is : (one other : Entry) → same_entry one other ≡ true → one ≡ other
entry_is (Intent s line time) (Intent r other late) h =
    let parts = and_parts (s == r) ((line == other) && (time == late)) h in
    let both = and_parts (line == other) (time == late) parts.1 in
    let serials : s ≡ r = eqb-true s r parts.0 in
    let lines : line ≡ other = eqb-true line other both.0 in
    let times : time ≡ late = eqb-true time late both.1 in
    cc
entry_is (AnswerTo s outcome) (AnswerTo r other) h =
    let parts = and_parts (s == r) (same_outcome outcome other) h in
    let serials : s ≡ r = eqb-true s r parts.0 in
    let outcomes : outcome ≡ other = outcome_is outcome other parts.1 in
    cc
entry_is one other h = absurd (cc h)

abbrev same_request : Request → Request → Bool
same_request (Put entry) (Put other) = same_entry entry other
same_request Pay Pay = true
same_request one other = false

request_is : (one other : Request) → same_request one other ≡ true → one ≡ other
request_is (Put entry) (Put other) h = ap Put (entry_is entry other h)
request_is Pay Pay h = refl
request_is one other h = absurd (cc h)

abbrev is_its_call : Option Request → Request → Bool
is_its_call None r = true
is_its_call (Some written) r = same_request written r

its_call : (writes : Option Request) (r : Request) → is_its_call writes r ≡ true → IsItsCall writes r
its_call None r h = tt
its_call (Some written) r h = request_is written r h

abbrev was_written : Option Request → Request → Bool
was_written None r = false
was_written (Some written) r = same_request written r

written_is : (writes : Option Request) (r : Request) → was_written writes r ≡ true → writes ≡ Some r
written_is None r h = absurd (cc h)
written_is (Some written) r h = ap Some (request_is written r h)

abbrev kernel_gives : World → Process → Call → Bool
kernel_gives w p (Tried (Guard worker) hold true) = is_none (w.guard worker)
kernel_gives w p (Recovered last texts) = are_all (w.logs (Journal p.worker)) texts
kernel_gives w p (LogIs log last texts counted) = are_all (w.logs log) (p.read log ++ texts)
kernel_gives w p (HasRead log texts) = are_all (w.logs log) (p.read log ++ texts)
kernel_gives w p (HasPut entry) = was_written p.writes (Put entry)
kernel_gives w p HasPaid = if is_none p.owed then true else was_written p.writes Pay
kernel_gives w p c = true

none_is : {A : Type 0} (o : Option A) → is_none o ≡ true → o ≡ None
none_is None h = refl
none_is (Some x) h = absurd (cc h)

paid : (owed : Option Entry) (writes : Option Request) → cond (is_none owed) true (was_written writes Pay) ≡ true → IsWritten owed writes
paid None writes h = tt
paid (Some entry) writes h = written_is writes Pay h

kernel : (w : World) (p : Process) (c : Call) → kernel_gives w p c ≡ true → KernelGives w p c
kernel w p (Tried (Guard worker) hold true) h = none_is (w.guard worker) h
kernel w p (Recovered last texts) h = all_read (w.logs (Journal p.worker)) texts h
kernel w p (LogIs log last texts counted) h = all_read (w.logs log) (p.read log ++ texts) h
kernel w p (HasRead log texts) h = all_read (w.logs log) (p.read log ++ texts) h
kernel w p (HasPut entry) h = written_is p.writes (Put entry) h
kernel w p HasPaid h = paid p.owed p.writes h
kernel w p c h = tt

abbrev is_empty : List Handing → Bool
is_empty [] = true
is_empty (h ∷ hs) = false

nothing_in : (hs : List Handing) (h : Handing) → is_empty hs ≡ true → IsOneOf hs h → ⊥
nothing_in [] h empty one = one
nothing_in (x ∷ hs) h empty one = absurd (cc empty)

abbrev is_honest : World → Reply → Bool
is_honest w (Answered serial Unbegun way) = is_empty w.alive && is_empty w.performed
is_honest w reply = true

untouched : (w : World) (worker serial : ℕ) → (is_empty w.alive && is_empty w.performed) ≡ true → IsUntouched w worker serial
untouched w worker serial h =
    let both = and_parts (is_empty w.alive) (is_empty w.performed) h in
    record { not_alive = λ x one named. nothing_in w.alive x both.0 one; not_performed = λ x one named. nothing_in w.performed x both.1 one }

honest : (w : World) (worker : ℕ) (reply : Reply) → is_honest w reply ≡ true → (serial : ℕ) (way : Way) → reply ≡ Answered serial Unbegun way → IsUntouched w worker serial
honest w worker (Answered s Unbegun way) h serial go is = untouched w worker serial h
honest w worker reply h serial go is = absurd (cc is)

abbrev runner_gives : World → Call → Bool
runner_gives w (Heard line reply) = is_honest w (reply_heard reply)
runner_gives w c = true

runner : (w : World) (worker : ℕ) (c : Call) → runner_gives w c ≡ true → RunnerGives w worker c
runner w worker (Heard line reply) h = honest w worker (reply_heard reply) h
runner w worker c h = tt

-- ---- what fits

abbrev fit_both : ℕ → ℕ → ℕ → Bool
fit_both serial code time = nat_lt serial (2 ^ 64) && (nat_lt code (2 ^ 8) && nat_lt time (2 ^ 64))

abbrev fits_answer : ℕ → Outcome → Bool
fits_answer serial (DoneAt code time) = fit_both serial code time
fits_answer serial (DoubtAt time) = fit_both serial 0 time
fits_answer serial NotBegun = fit_both serial 0 0
fits_answer serial (UntouchedAt code time) = fit_both serial code time

abbrev fits : Entry → Bool
fits (Intent serial line time) = nat_lt serial (2 ^ 64) && (nat_lt line (2 ^ 64) && nat_lt time (2 ^ 64))
fits (AnswerTo serial outcome) = fits_answer serial outcome

below : (n m : ℕ) → nat_lt n m ≡ true → n < m
below n m h = grind (arith, nat_tests)

three_below : (a b c x y z : ℕ) → (nat_lt a x && (nat_lt b y && nat_lt c z)) ≡ true → (a < x) × (b < y) × (c < z)
three_below a b c x y z h =
    let parts = and_parts (nat_lt a x) (nat_lt b y && nat_lt c z) h in
    let both = and_parts (nat_lt b y) (nat_lt c z) parts.1 in
    (below a x parts.0, below b y both.0, below c z both.1)

answer_fits : (serial : ℕ) (outcome : Outcome) → fits_answer serial outcome ≡ true → FitsAnswer serial outcome
answer_fits serial (DoneAt code time) h = three_below serial code time (2 ^ 64) (2 ^ 8) (2 ^ 64) h
answer_fits serial (DoubtAt time) h = let all = three_below serial 0 time (2 ^ 64) (2 ^ 8) (2 ^ 64) h in (all.0, all.2)
answer_fits serial NotBegun h = (three_below serial 0 0 (2 ^ 64) (2 ^ 8) (2 ^ 64) h).0
answer_fits serial (UntouchedAt code time) h = three_below serial code time (2 ^ 64) (2 ^ 8) (2 ^ 64) h

entry_fits : (entry : Entry) → fits entry ≡ true → Fits entry
entry_fits (Intent serial line time) h = three_below serial line time (2 ^ 64) (2 ^ 64) (2 ^ 64) h
entry_fits (AnswerTo serial outcome) h = answer_fits serial outcome h

abbrev request_fits : Option Entry → Request → Bool
request_fits None (Put entry) = fits entry
request_fits (Some owed) (Put entry) = fits owed && fits entry
request_fits None Pay = true
request_fits (Some owed) Pay = fits owed
request_fits owed r = true

fits_request : (owed : Option Entry) (r : Request) → request_fits owed r ≡ true → FitsRequest owed r
fits_request None (Put entry) h = entry_fits entry h
fits_request (Some owed) (Put entry) h = let both = and_parts (fits owed) (fits entry) h in (entry_fits owed both.0, entry_fits entry both.1)
fits_request None Pay h = tt
fits_request (Some owed) Pay h = entry_fits owed h
fits_request owed r h = tt

-- ---- runs

-- A move of a run. A first number is a process id.
pub data Move : Type 0 where
  -- A process of this worker is started.
  Birth : (process worker : ℕ) → Move
  -- Its next call ends, and all went well.
  Step : Given → (process : ℕ) → Move
  -- The append of its next request is written.
  Write : Given → (process : ℕ) → Move
  -- It hands its attempt over.
  Hand : (process : ℕ) → Move
  Death : (process : ℕ) → Move
  -- The machine stops, and nothing is left that was not kept.
  Halt : Move
  -- The line of the attempt at this place among those that are alive is performed.
  Deed : ℕ → Move
  -- The attempt at this place among those that are alive is over.
  End : ℕ → Move

abbrev named : (worker serial : ℕ) → Handing → Bool
named worker serial h = (h.worker == worker) && (h.serial == serial)

abbrev none_named : (worker serial : ℕ) → List Handing → Bool
none_named worker serial [] = true
none_named worker serial (h ∷ hs) = not (named worker serial h) && none_named worker serial hs

abbrev if_so : Bool → Event → Option Event
if_so b e = if b then Some e else None

abbrev call_of : World → ℕ → Process → Call → Option Event
call_of w process p c = if_so (is_its_call p.writes (request_of c) && (kernel_gives w p c && runner_gives w c)) (Calls process c)

abbrev write_of : ℕ → Process → Request → Option Event
write_of process p r = if_so (is_none p.writes && (request_fits p.owed r && not (is_none (text_by p.owed r)))) (Writes process r)

abbrev hand_of : World → ℕ → Process → Phase → Option Event
hand_of w process p (Works me jobs (Performing s a j) owes logs) =
    option_and_then (λ line. option_and_then (λ text. if_so (none_named p.worker s w.handed) (HandsOver process s line text)) (line_of me.lines line)) (line_at jobs j)
hand_of w process p ph = None

-- the event of a move, if it may come next
abbrev pub event_of : World → Move → Option Event
event_of w (Birth process worker) = if_so (is_none (w.process process) && (nat_lt 0 worker && nat_lt worker (MAX_WORKERS + 1))) (Starts process worker)
event_of w (Step g process) = option_and_then (λ p. option_and_then (λ c. call_of w process p c) (next g (unread w p) p.phase)) (w.process process)
event_of w (Write g process) = option_and_then (λ p. option_and_then (λ c. write_of process p (request_of c)) (next g (unread w p) p.phase)) (w.process process)
event_of w (Hand process) = option_and_then (λ p. hand_of w process p p.phase) (w.process process)
event_of w (Death process) = Some (Dies process)
event_of w Halt = Some (Stops (λ log. 0))
event_of w (Deed i) = option_and_then (λ h. if_so (none_named h.worker h.serial w.performed) (Performs h)) (slice_get w.alive i)
event_of w (End i) = Some (Ends i)

if_so_is : (b : Bool) (e e' : Event) → if_so b e ≡ Some e' → (b ≡ true) × (e ≡ e')
if_so_is true e e' h = (refl, cc)
if_so_is false e e' h = absurd (cc h)

not_named : (worker serial : ℕ) (hs : List Handing) → none_named worker serial hs ≡ true → (h : Handing) → IsOneOf hs h → IsNamed worker serial h → ⊥
not_named worker serial [] none h one is = one
not_named worker serial (x ∷ hs) none h (inl same) is =
    let parts = and_parts (not (named worker serial x)) (none_named worker serial hs) none in
    clash (subst (λ y. not (named worker serial y) ≡ true) same parts.0)
  where
    clash : not (named worker serial h) ≡ true → ⊥
    clash off =
        let a : (h.worker == worker) ≡ true = eq-eqb h.worker worker is.0 in
        let b : (h.serial == serial) ≡ true = eq-eqb h.serial serial is.1 in
        let both : named worker serial h ≡ true = rw (a, b) refl in
        let never : not true ≡ true = subst (λ x. not x ≡ true) both off in
        cc
not_named worker serial (x ∷ hs) none h (inr one) is =
    let parts = and_parts (not (named worker serial x)) (none_named worker serial hs) none in
    not_named worker serial hs parts.1 h one is

one_at : (hs : List Handing) (i : ℕ) (h : Handing) → slice_get hs i ≡ Some h → IsOneOf hs h
one_at [] i h is = absurd (cc is)
one_at (x ∷ hs) zero h is = inl cc
one_at (x ∷ hs) (suc i) h is = inr (one_at hs i h is)

text_there : (o : Option (List ℕ)) → not (is_none o) ≡ true → (text : List ℕ) × (o ≡ Some text)
text_there None h = absurd (cc h)
text_there (Some text) h = (text, refl)

call_follows : (w : World) (process : ℕ) (p : Process) (c : Call) (e : Event) → w.process process ≡ Some p → Allows p.phase (request_of c) → call_of w process p c ≡ Some e → MayFollow w e
call_follows w process p c e lives allowed h =
    let (all, is) = if_so_is (is_its_call p.writes (request_of c) && (kernel_gives w p c && runner_gives w c)) (Calls process c) e h in
    let parts = and_parts (is_its_call p.writes (request_of c)) (kernel_gives w p c && runner_gives w c) all in
    let both = and_parts (kernel_gives w p c) (runner_gives w c) parts.1 in
    subst (MayFollow w) is (p, (lives, allowed), its_call p.writes (request_of c) parts.0, kernel w p c both.0, runner w p.worker c both.1)

write_follows : (w : World) (process : ℕ) (p : Process) (r : Request) (e : Event) → w.process process ≡ Some p → Allows p.phase r → write_of process p r ≡ Some e → MayFollow w e
write_follows w process p r e lives allowed h =
    let (all, is) = if_so_is (is_none p.writes && (request_fits p.owed r && not (is_none (text_by p.owed r)))) (Writes process r) e h in
    let parts = and_parts (is_none p.writes) (request_fits p.owed r && not (is_none (text_by p.owed r))) all in
    let both = and_parts (request_fits p.owed r) (not (is_none (text_by p.owed r))) parts.1 in
    let (text, said) = text_there (text_by p.owed r) both.1 in
    subst (MayFollow w) is (p, (lives, allowed), none_is p.writes parts.0, fits_request p.owed r both.0, text, said)

hand_follows : (w : World) (process : ℕ) (p : Process) (ph : Phase) (e : Event) → w.process process ≡ Some p → p.phase ≡ ph → hand_of w process p ph ≡ Some e → MayFollow w e
hand_follows w process p (Works me jobs (Performing s a j) owes logs) e lives phase h =
    let (line, line_is, more) = and_then_some (λ line. option_and_then (λ text. if_so (none_named p.worker s w.handed) (HandsOver process s line text)) (line_of me.lines line)) (line_at jobs j) e h in
    let (text, text_is, last) = and_then_some (λ text. if_so (none_named p.worker s w.handed) (HandsOver process s line text)) (line_of me.lines line) e more in
    let (first, is) = if_so_is (none_named p.worker s w.handed) (HandsOver process s line text) e last in
    let allowed : Allows (Works me jobs (Performing s a j) owes logs) (Say (perform_text s line text)) = inl (Perform s j, refl, (line, text, line_is, text_is, refl)) in
    subst (MayFollow w) is (p, (lives, subst (λ x. Allows x (Say (perform_text s line text))) (sym phase) allowed), not_named p.worker s w.handed first)
hand_follows w process p ph e lives phase h = absurd (cc h)

event_is : {e e' : Event} → Some e ≡ Some e' → e ≡ e'
event_is h = cc

pub event_follows : (w : World) (m : Move) (e : Event) → event_of w m ≡ Some e → MayFollow w e
event_follows w (Birth process worker) e h =
    let (all, is) = if_so_is (is_none (w.process process) && (nat_lt 0 worker && nat_lt worker (MAX_WORKERS + 1))) (Starts process worker) e h in
    let parts = and_parts (is_none (w.process process)) (nat_lt 0 worker && nat_lt worker (MAX_WORKERS + 1)) all in
    let both = and_parts (nat_lt 0 worker) (nat_lt worker (MAX_WORKERS + 1)) parts.1 in
    let low : 0 < worker = below 0 worker both.0 in
    let high : worker < MAX_WORKERS + 1 = below worker (MAX_WORKERS + 1) both.1 in
    subst (MayFollow w) is (none_is (w.process process) parts.0, omega arith, omega arith)
event_follows w (Step g process) e h =
    let (p, lives, more) = and_then_some (λ p. option_and_then (λ c. call_of w process p c) (next g (unread w p) p.phase)) (w.process process) e h in
    let (c, is, last) = and_then_some (λ c. call_of w process p c) (next g (unread w p) p.phase) e more in
    call_follows w process p c e lives (next_allowed g (unread w p) p.phase c is) last
event_follows w (Write g process) e h =
    let (p, lives, more) = and_then_some (λ p. option_and_then (λ c. write_of process p (request_of c)) (next g (unread w p) p.phase)) (w.process process) e h in
    let (c, is, last) = and_then_some (λ c. write_of process p (request_of c)) (next g (unread w p) p.phase) e more in
    write_follows w process p (request_of c) e lives (next_allowed g (unread w p) p.phase c is) last
event_follows w (Hand process) e h =
    let (p, lives, more) = and_then_some (λ p. hand_of w process p p.phase) (w.process process) e h in
    hand_follows w process p p.phase e lives refl more
event_follows w (Death process) e h = subst (MayFollow w) (event_is h) tt
event_follows w Halt e h = subst (MayFollow w) (event_is h) tt
event_follows w (Deed i) e h =
    let (x, is, more) = and_then_some (λ x. if_so (none_named x.worker x.serial w.performed) (Performs x)) (slice_get w.alive i) e h in
    let (none, same) = if_so_is (none_named x.worker x.serial w.performed) (Performs x) e more in
    subst (MayFollow w) same (one_at w.alive i x is, λ one. not_named x.worker x.serial w.performed none x one (refl, refl))
event_follows w (End i) e h = subst (MayFollow w) (event_is h) tt

-- The events of these moves, as far as each may come next.
abbrev pub run_of : World → List Move → List Event
run_of w [] = []
run_of w (m ∷ ms) = elim (event_of w m) [ None ↦ [] | Some e ↦ e ∷ run_of (world_after w e) ms ]

pub is_run : (ms : List Move) (w : World) → IsRunFrom w (run_of w ms)
is_run [] w = tt
is_run (m ∷ ms) w = by_event (λ e. is_run ms (world_after w e)) (event_of w m) refl
  where
    by_event : ((e : Event) → IsRunFrom (world_after w e) (run_of (world_after w e) ms)) → (o : Option Event) → event_of w m ≡ o → IsRunFrom w (elim o [ None ↦ [] | Some e ↦ e ∷ run_of (world_after w e) ms ])
    by_event rest None is = tt
    by_event rest (Some e) is = (event_follows w m e is, rest e)

-- one run after another
pub run_both : (w : World) (es fs : List Event) → IsRunFrom w es → IsRunFrom (world_from w es) fs → IsRunFrom w (es ++ fs)
run_both w [] fs run rest = rest
run_both w (e ∷ es) fs run rest = (run.0, run_both (world_after w e) es fs run.1 rest)
