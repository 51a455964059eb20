-- A run in which runners report outcomes only of attempts that have ended, and in which an outcome
-- is recorded.
use Rattle.std.proofs.Common.{◌≡◌, inl, Bool, true, false, ◌&&◌, List, [], ◌∷◌, ◌++◌, map, refl}
use Rattle.std.proofs.lemmas.Bool.{and_parts}
use Rattle.std.specs.Fmt.{digits}
use Rattle.std.specs.Prelude.{codes}
use Rattle.amo_safety_by_journals.specs.Model.{Handing}
use Rattle.amo_host.specs.declared.model.LogFile.TheVariants.{Journal}
use Rattle.amo_host.specs.Calls.{Heard}
use Rattle.amo_program_safety.specs.World.{Event, HandsOver, Calls, Stops, Doubts, Resolves, Recovers}
use Rattle.amo_program_safety.specs.Runs.{first_world}
use Rattle.amo_program_safety.specs.Machine.{Machine, Step, Happens, Begins, Exits, first_machine, happened, machine_after}
use Rattle.amo_program_safety.specs.Steps.{AreOfNoCommand, IsOfNoCommand, IsRun, IsRunFrom, RunnerHasEnded, RunnersEnd, RunnersEndFrom, machine_from, machine_of}
use Rattle.amo_program_safety.proofs.Texts.{of_same}
use Rattle.amo_program_safety.proofs.Playing.{Write, Step as Next, Deed, End, run_of, is_run}
use Rattle.amo_program_safety.proofs.Witness.{one, steps, hands_over}
use Rattle.amo_program_safety.proofs.Alone.{all_run}

-- ---- events of workers alone

abbrev is_own : Event → Bool
is_own (Doubts worker serial time) = false
is_own (Resolves f) = false
is_own (Recovers log more) = false
is_own e = true

abbrev are_own : List Event → Bool
are_own [] = true
are_own (e ∷ es) = is_own e && are_own es

own_one : (e : Event) → is_own e ≡ true → IsOfNoCommand e
own_one (Doubts worker serial time) own = absurd (cc own)
own_one (Resolves f) own = absurd (cc own)
own_one (Recovers log more) own = absurd (cc own)
own_one e own = tt

own_none : (es : List Event) → are_own es ≡ true → AreOfNoCommand es
own_none [] own = tt
own_none (e ∷ es) own = let parts = and_parts (is_own e) (are_own es) own in (own_one e parts.0, own_none es parts.1)

-- ---- runners keep their rule

abbrev is_silent : Event → Bool
is_silent (Calls process (Heard line reply)) = false
is_silent e = true

abbrev are_silent : List Event → Bool
are_silent [] = true
are_silent (e ∷ es) = is_silent e && are_silent es

silent_one : (m : Machine) (e : Event) → is_silent e ≡ true → RunnerHasEnded m e
silent_one m (Calls process (Heard line reply)) silent = absurd (cc silent)
silent_one m e silent = tt

-- If no runner replies, runners keep their rule.
silent_end : (es : List Event) (m : Machine) → are_silent es ≡ true → RunnersEndFrom m (map Happens es)
silent_end [] m silent = tt
silent_end (e ∷ es) m silent =
    let parts = and_parts (is_silent e) (are_silent es) silent in
    (silent_one m e parts.0, silent_end es (happened m e) parts.1)

abbrev is_calm : Event → Bool
is_calm (HandsOver process serial line text) = false
is_calm e = true

abbrev are_calm : List Event → Bool
are_calm [] = true
are_calm (e ∷ es) = is_calm e && are_calm es

calm_one : (m : Machine) (e : Event) → m.waiting ≡ [] → m.running ≡ [] → RunnerHasEnded m e
calm_one m (Calls process (Heard line reply)) waiting running = λ p lives serial result way is. record {
  not_waiting = λ h one named. absurd (of_same m.waiting [] h waiting one);
  not_running = λ h one named. absurd (of_same m.running [] h running one);
}
calm_one m e waiting running = tt

calm_on : (m : Machine) (e : Event) → is_calm e ≡ true → m.waiting ≡ [] → m.running ≡ [] → ((happened m e).waiting ≡ []) × ((happened m e).running ≡ [])
calm_on m (HandsOver process serial line text) calm waiting running = absurd (cc calm)
calm_on m (Stops left) calm waiting running = (refl, refl)
calm_on m e calm waiting running = (waiting, running)

-- If no attempt is on the machine and none is handed over, runners keep their rule.
calm_end : (es : List Event) (m : Machine) → are_calm es ≡ true → m.waiting ≡ [] → m.running ≡ [] → RunnersEndFrom m (map Happens es)
calm_end [] m calm waiting running = tt
calm_end (e ∷ es) m calm waiting running =
    let parts = and_parts (is_calm e) (are_calm es) calm in
    let on = calm_on m e parts.0 waiting running in
    (calm_one m e waiting running, calm_end es (happened m e) parts.1 on.0 on.1)

-- ---- runs one after the other

runs_join : (steps more : List Step) (m : Machine) → IsRunFrom m steps → IsRunFrom (machine_from m steps) more → IsRunFrom m (steps ++ more)
runs_join [] more m run next = next
runs_join (s ∷ steps) more m (may, run) next = (may, runs_join steps more (machine_after m s) run next)

ends_join : (steps more : List Step) (m : Machine) → RunnersEndFrom m steps → RunnersEndFrom (machine_from m steps) more → RunnersEndFrom m (steps ++ more)
ends_join [] more m run next = next
ends_join (s ∷ steps) more m (may, run) next = (may, ends_join steps more (machine_after m s) run next)

-- ---- the run

abbrev first : List Event
first = run_of first_world hands_over

abbrev handed : Machine
handed = machine_of (map Happens first)

abbrev attempt : Handing
attempt = record { worker = 1; serial = 1; line = 1 }

abbrev exited : Machine
exited = machine_from handed (Begins attempt ∷ Exits attempt ∷ [])

-- The line is performed, the runner reports that, and the process records it.
abbrev last : List Event
last = run_of exited.world (Deed 0 ∷ End 0 ∷ steps 3 one 1 ++ Write one 1 ∷ Next one 1 ∷ [])

abbrev all_steps : List Step
all_steps = map Happens first ++ (Begins attempt ∷ Exits attempt ∷ map Happens last)

pub an_outcome_is_recorded : (steps : List Step) × IsRun steps × RunnersEnd steps
    × (((machine_of steps).world.logs (Journal 1)).kept ≡ codes "intent 1 1 0" ∷ codes "done 1 0 0" ∷ [])
unfolding digits
an_outcome_is_recorded = (
  all_steps,
  runs_join (map Happens first) (Begins attempt ∷ Exits attempt ∷ map Happens last) first_machine
      (all_run first first_machine (λ q. refl) (is_run hands_over first_world) (own_none first refl)).0
      (inl refl, (tt, (all_run last exited (λ q. refl) (is_run (Deed 0 ∷ End 0 ∷ steps 3 one 1 ++ Write one 1 ∷ Next one 1 ∷ []) exited.world) (own_none last refl)).0)),
  ends_join (map Happens first) (Begins attempt ∷ Exits attempt ∷ map Happens last) first_machine
      (silent_end first first_machine refl)
      (tt, (tt, calm_end last exited refl refl refl)),
  refl,
)

-- ---- the rule is needed

-- The runner reports that the line is performed, and still has the attempt.
abbrev early : List Event
early = run_of first_world (hands_over ++ Deed 0 ∷ End 0 ∷ steps 3 one 1 ++ Write one 1 ∷ Next one 1 ∷ [])

pub an_attempt_is_left : (all : List Step) × IsRun all
    × (((machine_of all).world.logs (Journal 1)).kept ≡ codes "intent 1 1 0" ∷ codes "done 1 0 0" ∷ []) × (map (λ h. h.serial) (machine_of all).waiting ≡ 1 ∷ [])
unfolding digits
an_attempt_is_left = (
  map Happens early,
  (all_run early first_machine (λ q. refl) (is_run (hands_over ++ Deed 0 ∷ End 0 ∷ steps 3 one 1 ++ Write one 1 ∷ Next one 1 ∷ []) first_world) (own_none early refl)).0,
  refl,
  refl,
)
