-- The run of the example with its commands: the first begins and does nothing, the request of the
-- second arrives.
use Rattle.std.proofs.Common.{◌≡◌, ℕ, Bool, true, false, List, [], ◌∷◌, ◌++◌, map, refl, sym, ap, ◌∙◌, subst, inl, arith}
use Rattle.std.proofs.lemmas.Bool.{true≢false}
use Rattle.amo_run_log.specs.declared.entry.Outcome.TheVariants.{Doubt as NotedDoubt}
use Rattle.amo_run_log.specs.declared.entry.Entry.TheVariants.{Answer as AnswerTo}
use Rattle.amo_run_safety.specs.Site.{Site, first_site, Event, Says, Stops}
use Rattle.amo_run_safety.specs.Run.{site_after, IsRunFrom, Handing, openings_by, openings_from, is_among, names_of, site_after_all}
use Rattle.amo_run_safety.specs.Commands.{Action, Happens, Begins, Sends, Arrives, Ends, Lists, Yard, first_yard, yard_after, IsOver, AreActionsFrom, AreActions, yard_after_all, yard_of, said_by, said_from, AreNotAmong, IsSaidOfNone, IsTruthful, IsPatient}
use Rattle.amo_run_safety.proofs.Once.{run_parts}
use Rattle.amo_run_safety.proofs.Said.{one_among}
use Rattle.amo_run_safety.proofs.Example.{number_1, in_doubt, undone, handed, asked, again}
use Rattle.amo_run_safety.proofs.Example.{is_run as is_run_of_events}

-- events in which nothing is said not to have been begun or done

abbrev is_empty : List (ℕ × ℕ) → Bool
is_empty [] = true
is_empty (x ∷ xs) = false

none_first : (xs ys : List (ℕ × ℕ)) → is_empty (xs ++ ys) ≡ true → (xs ≡ []) × (is_empty ys ≡ true)
none_first [] ys e = (refl, e)
none_first (x ∷ xs) ys e = absurd (true≢false (sym e))

pub quiet_actions : (over : Yard → (p n : ℕ) → Type 0) (y : Yard) (es : List Event) (rest : List Action) → IsRunFrom y.site es → is_empty (openings_from y.site es) ≡ true
    → AreActionsFrom over (yard_after_all y (map Happens es)) rest → AreActionsFrom over y (map Happens es ++ rest)
quiet_actions over y [] rest run none may = may
quiet_actions over y (e ∷ es) rest run none may =
    let parts = none_first (openings_by y.site e) (openings_from (site_after y.site e) es) none in (
      (run.0, λ p n t. absurd (true≢false (sym t ∙ ap (λ l. is_among l p n) parts.0))),
      quiet_actions over (yard_after y (Happens e)) es rest run.1 parts.1 may,
    )

-- actions in which nothing is said

module _ (these : Yard → List Handing) where
  silent : (y : Yard) (actions rest : List Action) → is_empty (said_from y actions) ≡ true → IsSaidOfNone these (yard_after_all y actions) rest → IsSaidOfNone these y (actions ++ rest)
  silent y [] rest none may = may
  silent y (a ∷ actions) rest none may =
      let parts = none_first (said_by y a) (said_from (yard_after y a) actions) none in (
        λ p n t. absurd (true≢false (sym t ∙ ap (λ l. is_among l p n) parts.0)),
        silent (yard_after y a) actions rest parts.1 may,
      )

  silent_on : (y : Yard) (actions : List Action) → is_empty (said_from y actions) ≡ true → IsSaidOfNone these y actions
  silent_on y [] none = tt
  silent_on y (a ∷ actions) none =
      let parts = none_first (said_by y a) (said_from (yard_after y a) actions) none in
      ((λ p n t. absurd (true≢false (sym t ∙ ap (λ l. is_among l p n) parts.0))), silent_on (yard_after y a) actions parts.1)

  -- it is said once, by a person, of what stands among none of these
  pub said_once : (before after : List Action) → is_empty (said_from first_yard before) ≡ true → AreNotAmong (these (yard_of before)) ((1, 1) ∷ [])
      → is_empty (said_from (yard_after (yard_of before) (Happens (Says undone))) after) ≡ true → IsSaidOfNone these first_yard (before ++ Happens (Says undone) ∷ after)
  said_once before after none there rest =
      silent first_yard before (Happens (Says undone) ∷ after) none (there, silent_on (yard_after (yard_of before) (Happens (Says undone))) after rest)

-- the two commands

abbrev pub first_command : Handing
first_command = record { worker = 1; serial = 1; line = 1 }

abbrev pub second_command : Handing
second_command = record { worker = 2; serial = 1; line = 1 }

-- what the person says is of the first intent, and of no other
pub of_the_first : (w : Site) (P : (p n : ℕ) → Type 0) → P 1 1 → (p n : ℕ) → is_among (openings_by w (Says undone)) p n ≡ true → P p n
of_the_first w P h p n t = let at = one_among 1 1 p n t in subst (λ x. P x n) (sym at.0) (subst (P 1) (sym at.1) h)

pub parts : IsRunFrom first_site (handed ++ asked) × IsRunFrom (site_after_all first_site (handed ++ asked)) (Says undone ∷ again)
parts = run_parts first_site (handed ++ asked) (Says undone ∷ again) is_run_of_events

pub first_part : IsRunFrom first_site handed
first_part = (run_parts first_site handed asked parts.0).0

pub second_part : IsRunFrom (site_after_all first_site handed) asked
second_part = (run_parts first_site handed asked parts.0).1

-- the second command, at the end

abbrev pub at_last : List Action
at_last = Begins second_command ∷ Sends second_command ∷ Arrives second_command ∷ []

abbrev pub then_again : (last : List Action) → List Action
then_again last = Happens (Says undone) ∷ map Happens again ++ last

-- The first begins, and does nothing. The second sends its request and ends, the machine stops, and
-- the request arrives.

abbrev late_arrival : List Action
late_arrival = Begins second_command ∷ Sends second_command ∷ Ends second_command ∷ Happens (Stops (λ p. 0) 0) ∷ Arrives second_command ∷ []

abbrev until_said : List Action
until_said = map Happens handed ++ Begins first_command ∷ Ends first_command ∷ map Happens asked ++ Lists 1 1 1 ∷ []

abbrev pub actions : List Action
actions = until_said ++ then_again late_arrival

abbrev ended : Yard
ended = yard_after (yard_after (yard_after_all first_yard (map Happens handed)) (Begins first_command)) (Ends first_command)

abbrev noted : Yard
noted = yard_after_all ended (map Happens asked)

is_over : IsOver noted 1 1
is_over = record { asked = λ j may. may; due = λ j may. may; waits = refl; runs = refl }

pub are_actions : AreActions actions
are_actions = quiet_actions IsOver first_yard handed (Begins first_command ∷ Ends first_command ∷ map Happens asked ++ Lists 1 1 1 ∷ then_again late_arrival) first_part refl (
  inl refl,
  (
    tt,
    quiet_actions IsOver ended asked (Lists 1 1 1 ∷ then_again late_arrival) second_part refl (
      record { number = number_1; kept = ([], 20, AnswerTo 1 (NotedDoubt 30) ∷ [], refl); attempts = in_doubt ∷ []; journal = refl; there = omega arith; its_end = is_over },
      (
        (parts.1.0, of_the_first noted.site (IsOver noted) is_over),
        quiet_actions IsOver (yard_after noted (Happens (Says undone))) again late_arrival parts.1.1 refl
            (inl refl, (inl refl, (tt, ((tt, λ p n t. absurd (true≢false (sym t))), ((inl refl, refl), tt))))),
      ),
    ),
  ),
)

pub is_truthful : IsTruthful actions
is_truthful = said_once (λ (y : Yard). y.performed) until_said (map Happens again ++ late_arrival) refl (λ p n t. refl) refl

pub is_patient : IsPatient actions
is_patient = said_once (λ (y : Yard). y.sent) until_said (map Happens again ++ late_arrival) refl (λ p n t. refl) refl

pub begun_names : names_of (yard_of actions).begun ≡ (1, 1) ∷ (2, 1) ∷ []
begun_names = refl

pub performed_names : names_of (yard_of actions).performed ≡ (2, 1) ∷ []
performed_names = refl
