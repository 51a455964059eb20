-- Runs in which a line is performed.
use Rattle.std.proofs.Common.{◌≡◌, ℕ, Bool, true, false, ◌&&◌, List, [], ◌∷◌, ◌++◌, map, Option, Some, None, refl, ap, ◌∙◌, arith}
use Rattle.std.proofs.lemmas.Bool.{and_parts, eqb-true}
use Rattle.std.specs.Fmt.{digits}
use Rattle.std.specs.Prelude.{◌==◌, codes, if◌then◌else◌, replicate}
use denote.RawPtr.{null_ptr}
use Rattle.amo_host.specs.declared.model.LogFile.TheVariants.{Journal}
use Rattle.amo_host.specs.Calls.{Request, Put, Call}
use Rattle.amo_run_files.specs.declared.extent.Extent.{Extent}
use Rattle.amo_run_files.specs.declared.round_file.RoundFile.{RoundFile}
use Rattle.amo_run_log.specs.declared.entry.Entry.TheVariants.{Intent}
use Rattle.amo_run_log.specs.declared.finding.Finding.{Finding}
use Rattle.amo_run_log.specs.declared.finding.Resolution.TheVariants.{NotDone}
use Rattle.amo_run_log.specs.Findings.{FitsFinding}
use Rattle.amo_program_safety.specs.World.{Process, World, Event, Starts, Writes, Calls, Dies, Stops, Ends, Resolves, called, written, new_process, process_by, world_after}
use Rattle.amo_program_safety.specs.Runs.{IsOver, IsRun, world_from, world_of, first_world}
use Rattle.amo_program_safety.specs.Lists.{texts_handed}
use Rattle.amo_program_safety.proofs.Playing.{Given, Move, Birth, Step, Write, Hand, Death, Deed, End, event_follows, run_of, is_run, run_both}

-- the file of a round of line 1 alone, which this worker began
abbrev file_by : (worker : ℕ) → RoundFile
file_by worker = record {
  header = record {
    round = 1;
    boot = record { items = []; len = 0; cap = 0; ptr = null_ptr; alloc = record { memory = record { seal = tt } }; ok = (refl, omega arith); small = omega arith };
    givens = record { jobs = 1; workers = 1; beta = 1 };
    workers = 16;
    first = worker;
    lines = record { items = 1 ∷ []; len = 1; cap = 1; ptr = null_ptr; alloc = record { memory = record { seal = tt } }; ok = (refl, omega arith); small = omega arith };
  };
  extents = record { items = []; len = 0; cap = 0; ptr = null_ptr; alloc = record { memory = record { seal = tt } }; ok = (refl, omega arith); small = omega arith };
}

abbrev nothing_counted : Extent
nothing_counted = record {
  name = record { items = []; len = 0; cap = 0; ptr = null_ptr; alloc = record { memory = record { seal = tt } }; ok = (refl, omega arith); small = omega arith };
  len = 0;
  digest = record { items = []; len = 0; cap = 0; ptr = null_ptr; alloc = record { memory = record { seal = tt } }; ok = (refl, omega arith); small = omega arith };
}

-- what the processes of a worker are given, whose runner replies so
abbrev pub given : (worker : ℕ) → (reply : List ℕ) → Given
given worker reply = record { file = file_by worker; lines = codes "a" ∷ []; counted = nothing_counted; reply = Some reply }

-- so many calls of the process
abbrev pub steps : ℕ → Given → ℕ → List Move
steps n g process = replicate n (Step g process)

-- It takes its number, joins a round, reads all logs, and claims the job. Then its intent is due.
abbrev pub up_to_intent : Given → (process worker : ℕ) → List Move
up_to_intent g process worker = Birth process worker ∷ steps 34 g process

-- Its intent is put, and it asks whether the line is clear.
abbrev pub clears : Given → (process : ℕ) → List Move
clears g process = Write g process ∷ steps 18 g process

abbrev pub one : Given
one = given 1 (codes "done 1 0 go")

abbrev pub two : Given
two = given 2 (codes "done 1 0 go")

-- process 1 of worker 1 hands the line over
abbrev pub hands_over : List Move
hands_over = up_to_intent one 1 1 ++ clears one 1 ++ Hand 1 ∷ []

-- process 2 of worker 2 hands it over, and it is performed
abbrev pub hands_over_too : List Move
hands_over_too = up_to_intent two 2 2 ++ clears two 2 ++ Hand 2 ∷ Deed 0 ∷ []

-- the world after these moves
abbrev pub after : World → List Move → World
after w ms = world_from w (run_of w ms)

-- ---- a line is performed

-- The runner replies that it is done, and the process records that.
abbrev performing : List Move
performing = hands_over ++ Deed 0 ∷ End 0 ∷ steps 3 one 1 ++ Write one 1 ∷ Step one 1 ∷ []

pub a_line_is_performed : (es : List Event) × IsRun es × (map (λ h. h.line) (world_of es).performed ≡ 1 ∷ [])
unfolding digits
a_line_is_performed = (run_of first_world performing, is_run performing first_world, refl)

-- ---- two processes read different lists

-- the file of a round of line 2 alone, which worker 2 began
abbrev file_of_line_2 : RoundFile
file_of_line_2 = record (file_by 2) {
  header = record (file_by 2).header {
    lines = record { items = 2 ∷ []; len = 1; cap = 1; ptr = null_ptr; alloc = record { memory = record { seal = tt } }; ok = (refl, omega arith); small = omega arith };
  };
}

-- a process of worker 2 reads a list in which the second line has the text of the first one of the other list
abbrev other_list : Given
other_list = record { file = file_of_line_2; lines = codes "b" ∷ codes "a" ∷ []; counted = nothing_counted; reply = Some (codes "done 1 0 go") }

abbrev by_two_lists : List Move
by_two_lists = hands_over ++ Deed 0 ∷ End 0 ∷ up_to_intent other_list 2 2 ++ clears other_list 2 ++ Hand 2 ∷ Deed 0 ∷ []

pub two_lists_perform_a_text_twice : (es : List Event) × IsRun es × (texts_handed es ≡ codes "a" ∷ codes "a" ∷ []) × (map (λ h. h.line) (world_of es).performed ≡ 2 ∷ 1 ∷ [])
unfolding digits
two_lists_perform_a_text_twice = (run_of first_world by_two_lists, is_run by_two_lists first_world, refl, refl)

-- ---- an append is lost

abbrev begun : Event
begun = Writes 1 (Put (Intent 1 1 0))

abbrev has_begun : World
has_begun = world_after (after first_world (up_to_intent one 1 1)) begun

abbrev has_stopped : World
has_stopped = world_after has_begun (Stops (λ log. 0))

abbrev again : List Move
again = up_to_intent one 2 1 ++ clears one 2 ++ Hand 2 ∷ Deed 0 ∷ steps 1 one 2

pub a_stop_takes_an_append : (before : List Event) × (after : List Event) × IsRun (before ++ Writes 1 (Put (Intent 1 1 0)) ∷ Stops (λ log. 0) ∷ after)
    × (map (λ h. h.line) (world_of (before ++ Writes 1 (Put (Intent 1 1 0)) ∷ Stops (λ log. 0) ∷ after)).performed ≡ 1 ∷ [])
unfolding digits
a_stop_takes_an_append = (
  run_of first_world (up_to_intent one 1 1),
  run_of has_stopped again,
  run_both first_world (run_of first_world (up_to_intent one 1 1)) (begun ∷ Stops (λ log. 0) ∷ run_of has_stopped again)
      (is_run (up_to_intent one 1 1) first_world)
      (event_follows (after first_world (up_to_intent one 1 1)) (Write one 1) begun refl, (tt, is_run again has_stopped)),
  refl,
)

-- ---- an append is left

-- the machine stops, and the intent is left, of which no process has learned
abbrev has_left : World
has_left = world_after has_begun (Stops (λ log. 1))

-- the runner says that its attempt was not started
abbrev pub not_started : Given
not_started = given 1 (codes "unbegun 1 go")

-- process 2 of worker 1 asks the runner and records what it says, and tries the line again
abbrev asks_and_tries : List Move
asks_and_tries = Birth 2 1 ∷ steps 6 one 2 ++ Step not_started 2 ∷ Write one 2 ∷ steps 29 one 2 ++ clears one 2 ++ Hand 2 ∷ Deed 0 ∷ steps 1 (given 1 (codes "done 2 0 go")) 2

pub a_stop_leaves_an_append : (before : List Event) × (after : List Event) × IsRun (before ++ Writes 1 (Put (Intent 1 1 0)) ∷ Stops (λ log. 1) ∷ after)
    × (map (λ h. h.serial) (world_of (before ++ Writes 1 (Put (Intent 1 1 0)) ∷ Stops (λ log. 1) ∷ after)).handed ≡ 2 ∷ [])
    × (map (λ h. h.line) (world_of (before ++ Writes 1 (Put (Intent 1 1 0)) ∷ Stops (λ log. 1) ∷ after)).performed ≡ 1 ∷ [])
unfolding digits
a_stop_leaves_an_append = (
  run_of first_world (up_to_intent one 1 1),
  run_of has_left asks_and_tries,
  run_both first_world (run_of first_world (up_to_intent one 1 1)) (begun ∷ Stops (λ log. 1) ∷ run_of has_left asks_and_tries)
      (is_run (up_to_intent one 1 1) first_world)
      (event_follows (after first_world (up_to_intent one 1 1)) (Write one 1) begun refl, (tt, is_run asks_and_tries has_left)),
  refl,
  refl,
)

-- ---- a process dies, and the next one asks what became of its attempt

abbrev asks_after_death : List Move
asks_after_death = hands_over ++ Death 1 ∷ Deed 0 ∷ End 0 ∷ Birth 2 1 ∷ steps 7 one 2 ++ Write one 2 ∷ Step one 2 ∷ []

pub an_attempt_is_asked_for : (es : List Event) × IsRun es × (map (λ h. h.line) (world_of es).performed ≡ 1 ∷ [])
    × (((world_of es).logs (Journal 1)).kept ≡ codes "intent 1 1 0" ∷ codes "done 1 0 0" ∷ [])
unfolding digits
an_attempt_is_asked_for = (run_of first_world asks_after_death, is_run asks_after_death first_world, refl, refl)

-- ---- a line is tried again

-- this event changes no other process than this one
abbrev is_by : ℕ → Event → Bool
is_by process (Starts p worker) = p == process
is_by process (Writes p r) = p == process
is_by process (Calls p c) = p == process
is_by process (Dies p) = p == process
is_by process (Stops left) = false
is_by process e = true

abbrev are_by : ℕ → List Event → Bool
are_by process [] = true
are_by process (e ∷ es) = is_by process e && are_by process es

called_alone : (w : World) (process q : ℕ) (o : Option Process) (c : Call) → (q == process) ≡ false → (called w process o c).process q ≡ w.process q
called_alone w process q None c other = refl
called_alone w process q (Some p) c other = ap (λ b. if b then Some (process_by p c) else w.process q) other

written_alone : (w : World) (process q : ℕ) (o : Option Process) (r : Request) → (q == process) ≡ false → (written w process o r).process q ≡ w.process q
written_alone w process q None r other = refl
written_alone w process q (Some p) r other = ap (λ b. if b then Some (record p { writes = Some r }) else w.process q) other

event_alone : (process q : ℕ) (w : World) (e : Event) → is_by process e ≡ true → (q == process) ≡ false → (world_after w e).process q ≡ w.process q
event_alone process q w (Starts p worker) by other = let is : p ≡ process = eqb-true p process by in ap (λ b. if b then Some (new_process worker) else w.process q) (ap (λ x. q == x) is ∙ other)
event_alone process q w (Writes p r) by other = let is : p ≡ process = eqb-true p process by in written_alone w p q (w.process p) r (ap (λ x. q == x) is ∙ other)
event_alone process q w (Calls p c) by other = let is : p ≡ process = eqb-true p process by in called_alone w p q (w.process p) c (ap (λ x. q == x) is ∙ other)
event_alone process q w (Dies p) by other = let is : p ≡ process = eqb-true p process by in ap (λ b. if b then None else w.process q) (ap (λ x. q == x) is ∙ other)
event_alone process q w (Stops left) by other = absurd (cc by)
event_alone process q w e by other = refl

events_alone : (process q : ℕ) (w : World) (es : List Event) → are_by process es ≡ true → (q == process) ≡ false → (world_from w es).process q ≡ w.process q
events_alone process q w [] by other = refl
events_alone process q w (e ∷ es) by other =
    let both = and_parts (is_by process e) (are_by process es) by in
    events_alone process q (world_after w e) es both.1 other ∙ event_alone process q w e both.0 other

-- nobody lives once the only process has died
nobody : (process : ℕ) (es : List Event) → are_by process es ≡ true → (q : ℕ) → (world_after (world_from first_world es) (Dies process)).process q ≡ None
nobody process es by q = by_test (q == process) refl
  where
    by_test : (b : Bool) → (q == process) ≡ b → (if b then None else (world_from first_world es).process q) ≡ None
    by_test true is = refl
    by_test false is = events_alone process q first_world es by is

pub not_none : {A B : Type 0} {x : A} {o : Option A} → o ≡ Some x → o ≡ None → B
not_none is none = absurd (cc (is, none))

abbrev pub has_died : World
has_died = world_after (world_after (after first_world hands_over) (Dies 1)) (Ends 0)

pub nobody_lives : (q : ℕ) → has_died.process q ≡ None
unfolding digits
nobody_lives q = nobody 1 (run_of first_world hands_over) refl q

is_over : IsOver has_died 1 1
unfolding digits
is_over = record {
  kept = (1, refl);
  not_held = λ q p lives. not_none lives (nobody_lives q);
  untouched = record { not_alive = λ h one is. one; not_performed = λ h one is. one };
}

-- an operator answers the attempt
abbrev pub undone : Finding
undone = record { verdict = NotDone; worker = 1; serial = 1; time = 0 }

pub undone_fits : FitsFinding undone
undone_fits = (omega arith, omega arith, omega arith)

abbrev answered : World
answered = world_after has_died (Resolves undone)

abbrev tried_again : List Move
tried_again = hands_over_too ++ steps 3 two 2

pub a_line_is_tried_again : (es : List Event) × IsRun es × (map (λ h. h.line) (world_of es).handed ≡ 1 ∷ 1 ∷ []) × (map (λ h. h.line) (world_of es).performed ≡ 1 ∷ [])
unfolding digits
a_line_is_tried_again = (
  run_of first_world hands_over ++ Dies 1 ∷ Ends 0 ∷ Resolves undone ∷ run_of answered tried_again,
  run_both first_world (run_of first_world hands_over) (Dies 1 ∷ Ends 0 ∷ Resolves undone ∷ run_of answered tried_again)
      (is_run hands_over first_world)
      (tt, (tt, ((undone_fits, λ is. is_over), is_run tried_again answered))),
  refl,
  refl,
)

-- ---- a line is tried again since a runner has not started its attempt

abbrev given_up : List Move
given_up = hands_over ++ End 0 ∷ Step not_started 1 ∷ steps 2 one 1 ++ Write one 1 ∷ Step one 1 ∷ tried_again

pub an_attempt_is_given_up : (es : List Event) × IsRun es × (map (λ h. h.line) (world_of es).handed ≡ 1 ∷ 1 ∷ []) × (map (λ h. h.line) (world_of es).performed ≡ 1 ∷ [])
unfolding digits
an_attempt_is_given_up = (run_of first_world given_up, is_run given_up first_world, refl, refl)
