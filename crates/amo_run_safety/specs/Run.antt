-- Runs: lists of what may happen, one after the other.
use Rattle.std.specs.Prelude.{◌≡◌, ◌⊎◌, ⊤, ℕ, ◌+◌, ◌≤◌, Bool, true, false, ◌&&◌, ◌||◌, ◌==◌, List, [], ◌∷◌, ◌++◌, length, map, Option, Some, None, if◌then◌else◌}
use Rattle.std.specs.List.{AllByRecursion}
use Rattle.amo_sets.specs.Lists.{numbered, table}
use Rattle.amo_sets.specs.Sets.{has}
use Rattle.amo_params.specs.declared.givens.Givens.{Givens}
use Rattle.amo_params.specs.declared.limits.TheConstants.{MAX_WORKERS}
use Rattle.amo_driver.specs.declared.answer.JobResult.{JobResult}
use Rattle.amo_driver.specs.declared.answer.JobResult.TheVariants.{Done, Doubt, Unbegun, Untouched}
use Rattle.amo_driver.specs.declared.model.Deed.{Deed}
use Rattle.amo_driver.specs.declared.model.Deed.TheVariants.{Fell}
use Rattle.amo_driver.specs.declared.model.Try.{Try}
use Rattle.amo_driver.specs.declared.model.Try.TheVariants.{Intend, Perform, Note}
use Rattle.amo_driver.specs.declared.past.Intent.{Intent}
use Rattle.amo_driver.specs.Stage.{Asking, Broken}
use Rattle.amo_driver.specs.Course.{try_of, due, stage_after}
use Rattle.amo_driver_safety.specs.Scene.{scene_of, MayBe}
use Rattle.amo_driver_safety.specs.declared.model.Moment.{Moment}
use Rattle.amo_driver_safety.specs.declared.model.Moment.TheVariants.{Does, Loses, Begins}
use Rattle.amo_run_log.specs.declared.entry.Outcome.{Outcome as NotedAnswer}
use Rattle.amo_run_log.specs.declared.entry.Outcome.TheVariants.{Done as NotedDone, Doubt as NotedDoubt, Unbegun as NotedUnbegun, Untouched as NotedUntouched}
use Rattle.amo_run_log.specs.declared.entry.Entry.{Entry}
use Rattle.amo_run_log.specs.declared.entry.Entry.TheVariants.{Intent as IntentOf, Answer as AnswerTo}
use Rattle.amo_run_log.specs.declared.finding.Finding.{Finding}
use Rattle.amo_run_log.specs.declared.journal.Attempt.{Attempt}
use Rattle.amo_run_log.specs.Findings.{is_not_done}
use Rattle.amo_run_log.specs.Journals.{journal_of, pending_from}
use Rattle.amo_run_log.specs.Open.{opens, open_lines, IsAnswer}
use Rattle.amo_run_files.specs.Records.{RecordView, is_sound}
use Rattle.amo_run_files.specs.Rounds.{seat_of}
use Rattle.amo_run_safety.specs.File.{read_of, settled, with_put, with_unheard, with_unread, after_put, after_stop}
use Rattle.amo_run_safety.specs.Site.{Whereabouts, Away, Before, Inside, Round, Site, first_site, Event, Dies, Starts, RoundBegins, Joins, Acts, Misses, Pays, PaysUnheard, PaysUnread, Says, SaysUnheard, SaysUnread, Stops, IsNumber, is_inside, with_at, lines_at}

-- what comes into a journal

-- an answer, as it is noted at this time
abbrev pub as_noted : (time : ℕ) → JobResult → NotedAnswer
as_noted time (Done code) = NotedDone code time
as_noted time Doubt = NotedDoubt time
as_noted time Unbegun = NotedUnbegun
as_noted time (Untouched code) = NotedUntouched code time

-- The entry of this try, if the jobs of the round are these lines, as a list of one or none.
abbrev pub entries_of_try : List ℕ → (time : ℕ) → Try → List Entry
entries_of_try lines time (Intend n j) = IntentOf n (numbered 0 lines j) time ∷ []
entries_of_try lines time (Note n answer) = AnswerTo n (as_noted time answer) ∷ []
entries_of_try lines time t = []

-- In a round a process that tries this, and owes these outcomes, appends these entries. It appends
-- an intent, and in the same append the outcomes that it owes. It appends no note: an outcome is
-- owed once it is noted.
abbrev pub with_owed : (owed : List Entry) → List ℕ → (time : ℕ) → Try → List Entry
with_owed owed lines time (Intend n j) = owed ++ IntentOf n (numbered 0 lines j) time ∷ []
with_owed owed lines time t = []

-- The entries that a process appends that is here. Before it has joined a round it appends each
-- note at once.
abbrev pub appended : Whereabouts → (owed : List Entry) → List ℕ → (time : ℕ) → Try → List Entry
appended Away owed lines time t = []
appended (Before s) owed lines time t = entries_of_try lines time t
appended (Inside k q) owed lines time t = with_owed owed lines time t

-- The outcomes that it owes in a round once it has tried this, or has tried it and failed.
abbrev pub still_owed : (failed : Bool) → (owed : List Entry) → (time : ℕ) → Try → List Entry
still_owed failed owed time (Intend n j) = []
still_owed true owed time (Note n answer) = owed
still_owed false owed time (Note n answer) = owed ++ AnswerTo n (as_noted time answer) ∷ []
still_owed failed owed time t = owed

-- The outcomes that a process owes that is here: none but those that it has noted in a round.
abbrev pub owed_after : Whereabouts → (failed : Bool) → (owed : List Entry) → (time : ℕ) → Try → List Entry
owed_after Away failed owed time t = owed
owed_after (Before s) failed owed time t = owed
owed_after (Inside k q) failed owed time t = still_owed failed owed time t

-- Whether what was tried has failed.
abbrev pub has_fallen : Deed → Bool
has_fallen (Fell t) = true
has_fallen d = false

-- The site after the next event.

-- an intent of a journal, by its serial number and its line
abbrev pub intent_of : (ℕ × ℕ) → Intent
intent_of i = record { serial = i.0; line = i.1 }

-- the intents that are pending in a journal, in their order
abbrev pub left_in : List Attempt → List Intent
left_in es = map intent_of (pending_from 1 es)

-- the place of the process after this deed; in a round the history has its stage
abbrev pub whereabouts_after : Whereabouts → Deed → Whereabouts
whereabouts_after Away d = Away
whereabouts_after (Before s) d = Before (stage_after s d)
whereabouts_after (Inside k q) d = Inside k q

-- the place of a process that never learns the result of its try
abbrev pub whereabouts_missing : Whereabouts → Whereabouts
whereabouts_missing Away = Away
whereabouts_missing (Before s) = Before Broken
whereabouts_missing (Inside k q) = Inside k q

-- the round with one moment more
abbrev pub with_moment : Moment → Option Round → Option Round
with_moment m None = None
with_moment m (Some r) = Some (record r { moments = r.moments ++ m ∷ [] })

-- the rounds, if this happens to a process that is here; by the worker as which it acts
abbrev pub with_moment_at : Whereabouts → (ℕ → Moment) → (ℕ → Option Round) → ℕ → Option Round
with_moment_at Away moment rounds = rounds
with_moment_at (Before s) moment rounds = rounds
with_moment_at (Inside k q) moment rounds = with_at rounds k (with_moment (moment q) (rounds k))

-- the site after the next event
abbrev pub site_after : Site → Event → Site
site_after w (Dies p) = record w { owed = with_at w.owed p []; whereabouts = with_at w.whereabouts p Away }
site_after w (Starts p es) = record w {
  journals = with_at w.journals p (settled (w.journals p));
  owed = with_at w.owed p [];
  whereabouts = with_at w.whereabouts p (Before (Asking (left_in es)));
}
site_after w (RoundBegins g r lines) = record w {
  lines = lines;
  rounds = with_at w.rounds (w.last + 1) (Some (record { givens = g; written = r; moments = [] }));
  last = w.last + 1;
  joinable = true;
}
site_after w (Joins p q n) = record w { rounds = with_at w.rounds w.last (with_moment (Begins q n) (w.rounds w.last)); whereabouts = with_at w.whereabouts p (Inside w.last q) }
site_after w (Acts p time d) = record w {
  journals = with_at w.journals p (after_put (has_fallen d) (w.journals p) (appended (w.whereabouts p) (w.owed p) (lines_at w.rounds (w.whereabouts p)) time (try_of d)));
  owed = with_at w.owed p (owed_after (w.whereabouts p) (has_fallen d) (w.owed p) time (try_of d));
  rounds = with_moment_at (w.whereabouts p) (λ q. Does q d) w.rounds;
  whereabouts = with_at w.whereabouts p (whereabouts_after (w.whereabouts p) d);
}
site_after w (Misses p time t) = record w {
  journals = with_at w.journals p (with_unheard (w.journals p) (appended (w.whereabouts p) (w.owed p) (lines_at w.rounds (w.whereabouts p)) time t));
  owed = with_at w.owed p (owed_after (w.whereabouts p) false (w.owed p) time t);
  rounds = with_moment_at (w.whereabouts p) (λ q. Loses q t) w.rounds;
  whereabouts = with_at w.whereabouts p (whereabouts_missing (w.whereabouts p));
}
site_after w (Pays p) = record w { journals = with_at w.journals p (with_put (w.journals p) (w.owed p)); owed = with_at w.owed p [] }
site_after w (PaysUnheard p) = record w {
  journals = with_at w.journals p (with_unheard (w.journals p) (w.owed p));
  owed = with_at w.owed p [];
  whereabouts = with_at w.whereabouts p Away;
}
site_after w (PaysUnread p) = record w {
  journals = with_at w.journals p (with_unread (w.journals p) (w.owed p));
  owed = with_at w.owed p [];
  whereabouts = with_at w.whereabouts p Away;
}
site_after w (Says f) = record w { findings = with_put (settled w.findings) (f ∷ []) }
site_after w (SaysUnheard f) = record w { findings = with_unheard (settled w.findings) (f ∷ []) }
site_after w (SaysUnread f) = record w { findings = with_unread (settled w.findings) (f ∷ []) }
site_after w (Stops left n) = record w {
  journals = λ p. after_stop (left p) (w.journals p);
  findings = after_stop n w.findings;
  owed = λ p. [];
  joinable = false;
  whereabouts = λ p. Away;
}

-- what may happen

-- these entries were read, and since then only answers have come
abbrev pub MissesAnswers : (seen all : List Entry) → Type 0
MissesAnswers seen all = (missed : List Entry) × (all ≡ seen ++ missed) × AllByRecursion IsAnswer missed

-- these findings were read, and any have come since
abbrev pub MissesSome : (seen all : List Finding) → Type 0
MissesSome seen all = (missed : List Finding) × (all ≡ seen ++ missed)

-- Nobody is in a round: who begins one holds its lock alone. It has read the findings and then each
-- journal, and answers and findings may have come since; no intents, since those come of who is in
-- a round. Each journal can be read, and by what all say, and what persons said, each line of the
-- record is open. Which of the open lines it has, who begins it, and its threshold are free.
pub record MayBegin (w : Site) (g : Givens) (r : RecordView) (lines : ℕ) : Type 0 where
  pub nobody : (p : ℕ) → IsNumber p → is_inside (w.whereabouts p) ≡ false
  pub findings : List Finding
  pub findings_seen : MissesSome findings (read_of w.findings)
  pub entries : ℕ → List Entry
  pub entries_seen : (p : ℕ) → IsNumber p → MissesAnswers (entries p) (read_of (w.journals p))
  pub attempts : ℕ → List Attempt
  pub journals : (p : ℕ) → IsNumber p → journal_of lines (entries p) ≡ Some (attempts p)
  pub are_open : (line : ℕ) → has r.lines line ≡ true → has (open_lines findings (table MAX_WORKERS attempts) lines) line ≡ true
  pub sound : is_sound r ≡ true
  pub jobs : g.jobs ≡ r.givens.jobs
  pub workers : g.workers ≡ r.givens.workers

-- The process has asked for all that was left, the last round is of this boot, and it has its seat
-- by the record. It owes nothing, since it was in no round. Its next intent is the next of its
-- journal.
pub record MayJoin (w : Site) (p q n : ℕ) : Type 0 where
  pub asked : w.whereabouts p ≡ Before (Asking [])
  pub joinable : w.joinable ≡ true
  pub round : Round
  pub stands : w.rounds w.last ≡ Some round
  pub seat : seat_of p round.written.first round.written.workers round.written.givens.workers ≡ Some q
  pub attempts : List Attempt
  pub journal : journal_of w.lines (read_of (w.journals p)) ≡ Some attempts
  pub next : n ≡ length attempts + 1

-- this may be in the round, by its history so far
abbrev pub MayBeIn : Option Round → Moment → Type 0
MayBeIn None m = ⊥
MayBeIn (Some r) m = MayBe r.givens (scene_of r.givens r.moments) m

-- a process that is there may do this: what is due, and in a round what is true of its words
abbrev pub MayAct : (ℕ → Option Round) → Whereabouts → Deed → Type 0
MayAct rounds Away d = ⊥
MayAct rounds (Before s) d = due s ≡ Some (try_of d)
MayAct rounds (Inside k q) d = MayBeIn (rounds k) (Does q d)

-- this may come about unknown to the process: the try that is due
abbrev pub MayMiss : (ℕ → Option Round) → Whereabouts → Try → Type 0
MayMiss rounds Away t = ⊥
MayMiss rounds (Before s) t = due s ≡ Some t
MayMiss rounds (Inside k q) t = MayBeIn (rounds k) (Loses q t)

-- the process of worker p owes something
abbrev pub IsOwing : Site → (p : ℕ) → Type 0
IsOwing w p = w.owed p ≡ [] → ⊥

-- A person speaks of an intent that every stop is known to leave: the journal was settled after it.
pub record IsOfIntent (w : Site) (f : Finding) : Type 0 where
  pub attempts : List Attempt
  pub journal : journal_of w.lines (w.journals f.worker).kept ≡ Some attempts
  pub high : f.serial ≤ length attempts

-- this event may be the next
abbrev pub MayHappen : Site → Event → Type 0
MayHappen w (Dies p) = ⊤
MayHappen w (Starts p es) = IsNumber p × (journal_of w.lines (read_of (w.journals p)) ≡ Some es)
MayHappen w (RoundBegins g r lines) = MayBegin w g r lines
MayHappen w (Joins p q n) = MayJoin w p q n
MayHappen w (Acts p time d) = IsNumber p × MayAct w.rounds (w.whereabouts p) d
MayHappen w (Misses p time t) = IsNumber p × MayMiss w.rounds (w.whereabouts p) t
MayHappen w (Pays p) = IsOwing w p
MayHappen w (PaysUnheard p) = IsOwing w p
MayHappen w (PaysUnread p) = IsOwing w p
MayHappen w (Says f) = IsOfIntent w f
MayHappen w (SaysUnheard f) = IsOfIntent w f
MayHappen w (SaysUnread f) = IsOfIntent w f
MayHappen w (Stops left n) = ⊤

-- these may happen, one after the other, from here on
abbrev pub IsRunFrom : Site → List Event → Type 0
IsRunFrom w [] = ⊤
IsRunFrom w (e ∷ es) = MayHappen w e × IsRunFrom (site_after w e) es

-- these may happen from the first on
abbrev pub IsRun : List Event → Type 0
IsRun es = IsRunFrom first_site es

-- the site after all of these, in their order
abbrev pub site_after_all : Site → List Event → Site
site_after_all w [] = w
site_after_all w (e ∷ es) = site_after_all (site_after w e) es

-- what there is after these
abbrev pub site_of : List Event → Site
site_of es = site_after_all first_site es

-- what was handed over, and what was said not to have been performed

-- A line is handed to a partner, by this intent of this worker.
pub record Handing : Type 0 where
  pub worker : ℕ
  pub serial : ℕ
  pub line : ℕ

-- what this try hands over, as a list of one or none
abbrev pub handings_of_try : (p : ℕ) → List ℕ → Try → List Handing
handings_of_try p lines (Perform n j) = record { worker = p; serial = n; line = numbered 0 lines j } ∷ []
handings_of_try p lines t = []

-- what is handed over in an event: whether the partner answers, the call fails, or the process dies
-- in it
abbrev pub handings_by : Site → Event → List Handing
handings_by w (Acts p time d) = handings_of_try p (lines_at w.rounds (w.whereabouts p)) (try_of d)
handings_by w (Misses p time t) = handings_of_try p (lines_at w.rounds (w.whereabouts p)) t
handings_by w e = []

-- what is handed over in these, from here on
abbrev pub handings_from : Site → List Event → List Handing
handings_from w [] = []
handings_from w (e ∷ es) = handings_by w e ++ handings_from (site_after w e) es

-- all that is handed over, in its order
abbrev pub handings : List Event → List Handing
handings es = handings_from first_site es

-- The intents of worker p that these entries say were not begun. An intent is named by its worker
-- and its serial number.
abbrev pub opened_by_entries : (p : ℕ) → List Entry → List (ℕ × ℕ)
opened_by_entries p [] = []
opened_by_entries p (IntentOf n line time ∷ es) = opened_by_entries p es
opened_by_entries p (AnswerTo n answer ∷ es) = if opens answer then (p, n) ∷ opened_by_entries p es else opened_by_entries p es

-- the intent that this says was not done
abbrev pub opened_by_finding : Finding → List (ℕ × ℕ)
opened_by_finding f = if is_not_done f.verdict then (f.worker, f.serial) ∷ [] else []

-- The intents that an event says this of, also if it is lost or fails. A note counts from then on,
-- whether appended or owed.
abbrev pub openings_by : Site → Event → List (ℕ × ℕ)
openings_by w (Acts p time d) = opened_by_entries p (entries_of_try (lines_at w.rounds (w.whereabouts p)) time (try_of d))
openings_by w (Misses p time t) = opened_by_entries p (entries_of_try (lines_at w.rounds (w.whereabouts p)) time t)
openings_by w (Says f) = opened_by_finding f
openings_by w (SaysUnheard f) = opened_by_finding f
openings_by w (SaysUnread f) = opened_by_finding f
openings_by w e = []

-- the intents of which it is said in these, from here on
abbrev pub openings_from : Site → List Event → List (ℕ × ℕ)
openings_from w [] = []
openings_from w (e ∷ es) = openings_by w e ++ openings_from (site_after w e) es

-- all intents of which it is ever said, noted by a process as `unbegun` or by a person as
-- `not-done`
abbrev pub openings : List Event → List (ℕ × ℕ)
openings es = openings_from first_site es

-- whether the intent of this worker and serial number is among these
abbrev pub is_among : List (ℕ × ℕ) → (p n : ℕ) → Bool
is_among [] p n = false
is_among (i ∷ is) p n = ((i.0 == p) && (i.1 == n)) || is_among is p n

-- This test says which intents were performed. None of these intents was.
abbrev pub AreUnperformed : (performed : ℕ → ℕ → Bool) → List (ℕ × ℕ) → Type 0
AreUnperformed performed is = (p n : ℕ) → is_among is p n ≡ true → performed p n ≡ false

-- the lines that were performed, each as often as it was, in their order
abbrev pub performed_lines : (performed : ℕ → ℕ → Bool) → List Handing → List ℕ
performed_lines performed [] = []
performed_lines performed (h ∷ hs) = if performed h.worker h.serial then h.line ∷ performed_lines performed hs else performed_lines performed hs

-- it is one of these
abbrev pub IsOneOf : List Handing → Handing → Type 0
IsOneOf [] h = ⊥
IsOneOf (x ∷ hs) h = (x ≡ h) ⊎ IsOneOf hs h

-- by which intents they were handed over
abbrev pub names_of : List Handing → List (ℕ × ℕ)
names_of [] = []
names_of (h ∷ hs) = (h.worker, h.serial) ∷ names_of hs

-- no intent stands among these twice
abbrev pub AreDifferent : List (ℕ × ℕ) → Type 0
AreDifferent [] = ⊤
AreDifferent (i ∷ is) = (is_among is i.0 i.1 ≡ false) × AreDifferent is

-- those of the second intents that are among the first
abbrev pub common : (names is : List (ℕ × ℕ)) → List (ℕ × ℕ)
common names [] = []
common names (i ∷ is) = if is_among names i.0 i.1 then i ∷ common names is else common names is

-- the intents by which this line was handed over, in their order
abbrev pub names_of_line : (line : ℕ) → List Handing → List (ℕ × ℕ)
names_of_line line [] = []
names_of_line line (h ∷ hs) = if h.line == line then (h.worker, h.serial) ∷ names_of_line line hs else names_of_line line hs

-- its intent is in the journal, and every stop leaves it there
abbrev pub IsKept : Site → Handing → Type 0
IsKept w h = (front : List Entry) × (time : ℕ) × (back : List Entry) × ((w.journals h.worker).kept ≡ front ++ IntentOf h.serial h.line time ∷ back)
