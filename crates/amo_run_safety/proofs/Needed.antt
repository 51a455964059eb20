-- By two of the three locks a line is performed twice, though all that is said is true when it is
-- said, and nothing of it is under way. So it is if a process may still ask for the line. By all
-- three it is, if what is said isn't true, or if a request is under way.
use Rattle.std.proofs.lemmas.Bool.{true≢false}
use Rattle.std.proofs.Common.{◌≡◌, ℕ, true, List, [], ◌∷◌, ◌++◌, map, Some, refl, inl, inr, arith, sym}
use Rattle.amo_driver.specs.declared.model.Deed.TheVariants.{Cleared}
use Rattle.amo_driver.specs.declared.model.Try.TheVariants.{Clear, Perform}
use Rattle.amo_run_log.specs.declared.entry.Outcome.TheVariants.{Doubt as NotedDoubt}
use Rattle.amo_run_log.specs.declared.entry.Entry.TheVariants.{Answer as AnswerTo}
use Rattle.amo_run_safety.specs.Site.{Acts, Misses, Says}
use Rattle.amo_run_safety.specs.Run.{IsRunFrom, site_after_all, is_among}
use Rattle.amo_run_safety.specs.Commands.{Action, Happens, Begins, Sends, Arrives, Ends, Lists, Yard, first_yard, yard_after, IsOver, AreActionsBy, AreActions, yard_after_all, yard_of, IsTruthful, IsPatient, lines_in}
use Rattle.amo_run_safety.specs.Fewer.{IsOverButForProcesses, IsOverButForRunners, IsOverButForCommands, IsOverButForAsking}
use Rattle.amo_run_safety.specs.Site.{first_site}
use Rattle.amo_run_safety.proofs.Once.{run_parts}
use Rattle.amo_run_safety.proofs.Example.{number_1, pending, in_doubt, undone, put, intended, handed, asked, again}
use Rattle.amo_run_safety.proofs.Commanded.{quiet_actions, said_once, of_the_first, parts, first_part, second_part, first_command, at_last, then_again}

-- without the runner's lock: the first command begins after it was said not to have been

abbrev late_command : List Action
late_command = at_last ++ Begins first_command ∷ Sends first_command ∷ Arrives first_command ∷ []

abbrev until_asked : List Action
until_asked = map Happens handed ++ map Happens asked

abbrev pub runners_actions : List Action
runners_actions = until_asked ++ then_again late_command

abbrev asked_yard : Yard
asked_yard = yard_after_all (yard_after_all first_yard (map Happens handed)) (map Happens asked)

pub are_runners_actions : AreActionsBy IsOverButForRunners runners_actions
are_runners_actions =
    quiet_actions IsOverButForRunners first_yard handed (map Happens asked ++ then_again late_command) first_part refl
    (quiet_actions IsOverButForRunners (yard_after_all first_yard (map Happens handed)) asked (then_again late_command) second_part refl (
      (parts.1.0, of_the_first asked_yard.site (IsOverButForRunners asked_yard) (record { asked = λ j may. may; due = λ j may. may; runs = refl })),
      quiet_actions IsOverButForRunners (yard_after asked_yard (Happens (Says undone))) again late_command parts.1.1 refl
          (inr (inl refl), (inl refl, ((inl refl, refl), (inl refl, (inr (inl refl), ((inl refl, refl), tt)))))),
    ))

pub runners_truth : IsTruthful runners_actions
runners_truth = said_once (λ (y : Yard). y.performed) until_asked (map Happens again ++ late_command) refl (λ p n t. refl) refl

pub runners_patience : IsPatient runners_actions
runners_patience = said_once (λ (y : Yard). y.sent) until_asked (map Happens again ++ late_command) refl (λ p n t. refl) refl

pub runners_lines : lines_in (yard_of runners_actions).performed ≡ 1 ∷ 1 ∷ []
runners_lines = refl

-- without the command's lock: the first command goes on, and sends its request after it was said
-- not to have been performed

abbrev late_effect : List Action
late_effect = at_last ++ Sends first_command ∷ Arrives first_command ∷ []

abbrev until_running : List Action
until_running = map Happens handed ++ Begins first_command ∷ map Happens asked

abbrev pub commands_actions : List Action
commands_actions = until_running ++ then_again late_effect

abbrev begun_yard : Yard
begun_yard = yard_after (yard_after_all first_yard (map Happens handed)) (Begins first_command)

abbrev going_yard : Yard
going_yard = yard_after_all begun_yard (map Happens asked)

pub are_commands_actions : AreActionsBy IsOverButForCommands commands_actions
are_commands_actions =
    quiet_actions IsOverButForCommands first_yard handed (Begins first_command ∷ map Happens asked ++ then_again late_effect) first_part refl (
      inl refl,
      quiet_actions IsOverButForCommands begun_yard asked (then_again late_effect) second_part refl (
        (parts.1.0, of_the_first going_yard.site (IsOverButForCommands going_yard) (record { asked = λ j may. may; due = λ j may. may; waits = refl })),
        quiet_actions IsOverButForCommands (yard_after going_yard (Happens (Says undone))) again late_effect parts.1.1 refl
            (inl refl, (inr (inl refl), ((inl refl, refl), (inl refl, ((inl refl, refl), tt))))),
      ),
    )

pub commands_truth : IsTruthful commands_actions
commands_truth = said_once (λ (y : Yard). y.performed) until_running (map Happens again ++ late_effect) refl (λ p n t. refl) refl

pub commands_patience : IsPatient commands_actions
commands_patience = said_once (λ (y : Yard). y.sent) until_running (map Happens again ++ late_effect) refl (λ p n t. refl) refl

pub commands_lines : lines_in (yard_of commands_actions).performed ≡ 1 ∷ 1 ∷ []
commands_lines = refl

-- without the journal's lock: its process hands the line over after it was said not to have been

-- the first command, from its beginning to its end
abbrev pub whole_command : List Action
whole_command = Begins first_command ∷ Sends first_command ∷ Arrives first_command ∷ Ends first_command ∷ []

abbrev handed_first : List Action
handed_first = Happens (Misses 1 20 (Perform 1 1)) ∷ whole_command

abbrev then_handed : List Action
then_handed = handed_first ++ map Happens asked ++ map Happens again ++ at_last

abbrev pub processes_actions : List Action
processes_actions = map Happens intended ++ Happens (Says undone) ∷ then_handed

abbrev intended_yard : Yard
intended_yard = yard_after_all first_yard (map Happens intended)

abbrev over_yard : Yard
over_yard = yard_after_all (yard_after intended_yard (Happens (Says undone))) handed_first

intended_part : IsRunFrom first_site intended × IsRunFrom (site_after_all first_site intended) (Misses 1 20 (Perform 1 1) ∷ [])
intended_part = run_parts first_site intended (Misses 1 20 (Perform 1 1) ∷ []) first_part

nothing_opened : (over : (p n : ℕ) → Type 0) (p n : ℕ) → is_among [] p n ≡ true → over p n
nothing_opened over p n t = absurd (true≢false (sym t))

pub are_processes_actions : AreActionsBy IsOverButForProcesses processes_actions
are_processes_actions =
    quiet_actions IsOverButForProcesses first_yard intended (Happens (Says undone) ∷ then_handed) intended_part.0 refl (
      (
        record { attempts = pending ∷ []; journal = refl; high = omega arith },
        of_the_first intended_yard.site (IsOverButForProcesses intended_yard) (record { waits = refl; runs = refl }),
      ),
      (
        (intended_part.1.0, nothing_opened (IsOverButForProcesses (yard_after intended_yard (Happens (Says undone))))),
        (
          inl refl,
          (
            inl refl,
            (
              (inl refl, refl),
              (
                tt,
                quiet_actions IsOverButForProcesses over_yard asked (map Happens again ++ at_last) second_part refl
                    (quiet_actions IsOverButForProcesses (yard_after_all over_yard (map Happens asked)) again at_last parts.1.1 refl (inl refl, (inl refl, ((inl refl, refl), tt)))),
              ),
            ),
          ),
        ),
      ),
    )

pub processes_truth : IsTruthful processes_actions
processes_truth = said_once (λ (y : Yard). y.performed) (map Happens intended) then_handed refl (λ p n t. refl) refl

pub processes_patience : IsPatient processes_actions
processes_patience = said_once (λ (y : Yard). y.sent) (map Happens intended) then_handed refl (λ p n t. refl) refl

pub processes_lines : lines_in (yard_of processes_actions).performed ≡ 1 ∷ 1 ∷ []
processes_lines = refl

-- it is said while the process may still ask for the line: it asks, it is clear, and the process
-- hands the line over

abbrev then_asked : List Action
then_asked = Happens (Acts 1 20 (Cleared 1 1 true)) ∷ then_handed

abbrev pub asking_actions : List Action
asking_actions = map Happens put ++ Happens (Says undone) ∷ then_asked

abbrev put_yard : Yard
put_yard = yard_after_all first_yard (map Happens put)

abbrev clear_yard : Yard
clear_yard = yard_after (yard_after put_yard (Happens (Says undone))) (Happens (Acts 1 20 (Cleared 1 1 true)))

abbrev over_at_last : Yard
over_at_last = yard_after_all clear_yard handed_first

put_part : IsRunFrom first_site put × IsRunFrom (site_after_all first_site put) (Acts 1 20 (Cleared 1 1 true) ∷ [])
put_part = run_parts first_site put (Acts 1 20 (Cleared 1 1 true) ∷ []) intended_part.0

not_performing : (j : ℕ) → Some (Clear 1 1) ≡ Some (Perform 1 j) → ⊥
not_performing j e = cc

pub are_asking_actions : AreActionsBy IsOverButForAsking asking_actions
are_asking_actions =
    quiet_actions IsOverButForAsking first_yard put (Happens (Says undone) ∷ then_asked) put_part.0 refl (
      (
        record { attempts = pending ∷ []; journal = refl; high = omega arith },
        of_the_first put_yard.site (IsOverButForAsking put_yard) (record { due = λ j may. not_performing j may.1; waits = refl; runs = refl }),
      ),
      (
        (put_part.1.0, nothing_opened (IsOverButForAsking (yard_after put_yard (Happens (Says undone))))),
        (
          (intended_part.1.0, nothing_opened (IsOverButForAsking clear_yard)),
          (
            inl refl,
            (
              inl refl,
              (
                (inl refl, refl),
                (
                  tt,
                  quiet_actions IsOverButForAsking over_at_last asked (map Happens again ++ at_last) second_part refl
                      (quiet_actions IsOverButForAsking (yard_after_all over_at_last (map Happens asked)) again at_last parts.1.1 refl (inl refl, (inl refl, ((inl refl, refl), tt)))),
                ),
              ),
            ),
          ),
        ),
      ),
    )

pub asking_truth : IsTruthful asking_actions
asking_truth = said_once (λ (y : Yard). y.performed) (map Happens put) then_asked refl (λ p n t. refl) refl

pub asking_patience : IsPatient asking_actions
asking_patience = said_once (λ (y : Yard). y.sent) (map Happens put) then_asked refl (λ p n t. refl) refl

pub asking_lines : lines_in (yard_of asking_actions).performed ≡ 1 ∷ 1 ∷ []
asking_lines = refl

-- by all three, if a person calls a performed line not done

abbrev until_paid : List Action
until_paid = map Happens handed ++ whole_command ++ map Happens asked

abbrev pub false_actions : List Action
false_actions = until_paid ++ then_again at_last

abbrev ended_yard : Yard
ended_yard = yard_after_all (yard_after_all first_yard (map Happens handed)) whole_command

abbrev false_yard : Yard
false_yard = yard_after_all ended_yard (map Happens asked)

pub are_false_actions : AreActions false_actions
are_false_actions =
    quiet_actions IsOver first_yard handed (whole_command ++ map Happens asked ++ then_again at_last) first_part refl (
      inl refl,
      (
        inl refl,
        (
          (inl refl, refl),
          (
            tt,
            quiet_actions IsOver ended_yard asked (then_again at_last) second_part refl (
              (parts.1.0, of_the_first false_yard.site (IsOver false_yard) (record { asked = λ j may. may; due = λ j may. may; waits = refl; runs = refl })),
              quiet_actions IsOver (yard_after false_yard (Happens (Says undone))) again at_last parts.1.1 refl (inl refl, (inl refl, ((inl refl, refl), tt))),
            ),
          ),
        ),
      ),
    )

pub false_patience : IsPatient false_actions
false_patience = said_once (λ (y : Yard). y.sent) until_paid (map Happens again ++ at_last) refl (λ p n t. refl) refl

pub false_lines : lines_in (yard_of false_actions).performed ≡ 1 ∷ 1 ∷ []
false_lines = refl

-- by all three, if a person says it truly, and too early: the first request is under way

abbrev pub until_listed : List Action
until_listed = map Happens handed ++ Begins first_command ∷ Sends first_command ∷ Ends first_command ∷ map Happens asked

abbrev late_request : List Action
late_request = at_last ++ Arrives first_command ∷ []

abbrev pub from_listed : List Action
from_listed = then_again late_request

abbrev pub early_actions : List Action
early_actions = until_listed ++ Lists 1 1 1 ∷ from_listed

abbrev sent_yard : Yard
sent_yard = yard_after_all (yard_after_all first_yard (map Happens handed)) (Begins first_command ∷ Sends first_command ∷ Ends first_command ∷ [])

abbrev listed_yard : Yard
listed_yard = yard_after_all sent_yard (map Happens asked)

listed_over : IsOver listed_yard 1 1
listed_over = record { asked = λ j may. may; due = λ j may. may; waits = refl; runs = refl }

pub are_early_actions : AreActions early_actions
are_early_actions =
    quiet_actions IsOver first_yard handed (Begins first_command ∷ Sends first_command ∷ Ends first_command ∷ map Happens asked ++ Lists 1 1 1 ∷ from_listed) first_part refl (
      inl refl,
      (
        inl refl,
        (
          tt,
          quiet_actions IsOver sent_yard asked (Lists 1 1 1 ∷ from_listed) second_part refl (
            record { number = number_1; kept = ([], 20, AnswerTo 1 (NotedDoubt 30) ∷ [], refl); attempts = in_doubt ∷ []; journal = refl; there = omega arith; its_end = listed_over },
            (
              (parts.1.0, of_the_first listed_yard.site (IsOver listed_yard) listed_over),
              quiet_actions IsOver (yard_after listed_yard (Happens (Says undone))) again late_request parts.1.1 refl
                  (inl refl, (inl refl, ((inr (inl refl), refl), ((inl refl, refl), tt)))),
            ),
          ),
        ),
      ),
    )

pub early_truth : IsTruthful early_actions
early_truth = said_once (λ (y : Yard). y.performed) (until_listed ++ Lists 1 1 1 ∷ []) (map Happens again ++ late_request) refl (λ p n t. refl) refl

pub early_lines : lines_in (yard_of early_actions).performed ≡ 1 ∷ 1 ∷ []
early_lines = refl
