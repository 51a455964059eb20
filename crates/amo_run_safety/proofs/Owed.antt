-- A process appends and owes no more than what it owed before, and the entry of its try.
use Rattle.std.proofs.Common.{ℕ, Bool, true, false, List, [], ◌∷◌}
use Rattle.std.specs.List.{AllByRecursion}
use Rattle.amo_driver.specs.declared.model.Try.{Try}
use Rattle.amo_driver.specs.declared.model.Try.TheVariants.{Intend, Note}
use Rattle.amo_run_log.specs.declared.entry.Entry.{Entry}
use Rattle.amo_run_log.specs.declared.entry.Entry.TheVariants.{Answer as AnswerTo}
use Rattle.amo_run_log.specs.Open.{IsAnswer}
use Rattle.amo_run_safety.specs.Site.{Whereabouts, Away, Before, Inside}
use Rattle.amo_run_safety.specs.Run.{as_noted, entries_of_try, with_owed, appended, still_owed, owed_after}
use Rattle.amo_run_safety.proofs.Openings.{all_both}

-- what holds of both holds of all that is appended or owed

module _ (P : Entry → Type 0) (owed : List Entry) (lines : List ℕ) (time : ℕ) (all : AllByRecursion P owed) where
  with_all : (t : Try) → AllByRecursion P (entries_of_try lines time t) → AllByRecursion P (with_owed owed lines time t)
  with_all (Intend n j) own = all_both P owed (entries_of_try lines time (Intend n j)) all own
  with_all t own = tt

  pub appended_all : (whereabouts : Whereabouts) (t : Try) → AllByRecursion P (entries_of_try lines time t) → AllByRecursion P (appended whereabouts owed lines time t)
  appended_all Away t own = tt
  appended_all (Before s) t own = own
  appended_all (Inside k q) t own = with_all t own

  still_all : (failed : Bool) (t : Try) → AllByRecursion P (entries_of_try lines time t) → AllByRecursion P (still_owed failed owed time t)
  still_all failed (Intend n j) own = tt
  still_all true (Note n answer) own = all
  still_all false (Note n answer) own = all_both P owed (AnswerTo n (as_noted time answer) ∷ []) all own
  still_all failed t own = all

  pub owed_all : (whereabouts : Whereabouts) (failed : Bool) (t : Try) → AllByRecursion P (entries_of_try lines time t) → AllByRecursion P (owed_after whereabouts failed owed time t)
  owed_all Away failed t own = all
  owed_all (Before s) failed t own = all
  owed_all (Inside k q) failed t own = still_all failed t own

-- only answers are owed

module _ (owed : List Entry) (time : ℕ) (all : AllByRecursion IsAnswer owed) where
  still_answers : (failed : Bool) (t : Try) → AllByRecursion IsAnswer (still_owed failed owed time t)
  still_answers failed (Intend n j) = tt
  still_answers true (Note n answer) = all
  still_answers false (Note n answer) = all_both IsAnswer owed (AnswerTo n (as_noted time answer) ∷ []) all (tt, tt)
  still_answers failed t = all

  pub owed_answers : (whereabouts : Whereabouts) (failed : Bool) (t : Try) → AllByRecursion IsAnswer (owed_after whereabouts failed owed time t)
  owed_answers Away failed t = all
  owed_answers (Before s) failed t = all
  owed_answers (Inside k q) failed t = still_answers failed t
