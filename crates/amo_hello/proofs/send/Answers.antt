-- The jobs that are sent are those that the outcome has as answered, and then those that it has as
-- free, in another order.
use Rattle.std.proofs.Common.{◌≡◌, ◌++◌, [], ℕ, List, ◌∷◌, length, arith, map, Result, Ok, Err, IfOk, IfSome, refl, sym, ap, ◌∙◌, subst}
use Rattle.std.specs.Result.{result_ok}
use Rattle.std.specs.Vec.Iter.{into_iter_items}
use Rattle.std.specs.List.Sorted.{IsPermutation}
use Rattle.std.proofs.lemmas.List.{append-nil}
use Rattle.std.proofs.lemmas.List.Sorted.{IsPermutation-map}
use Rattle.amo_mailbox.specs.declared.output.Output.{Output}
use Rattle.amo_crew.specs.declared.outcome.Outcome.{Outcome}
use Rattle.amo_crew.specs.Outcomes.{IsOutcome, answered, free_jobs}
use Rattle.amo_crew.specs.Refusing.{Refuses}
use Rattle.amo_crew.specs.Unsettling.{IsUnsettled, IsSettledOf}
use Rattle.amo_hello.specs.declared.Letter.{Letter}
use Rattle.amo_hello.proofs.Orders.{none_twice}
use Rattle.amo_hello.proofs.send.Goals.{in-Err-Unsettled+in_ok-outcome-in-Err-Unsettled, in-Ok, in-Err-ThreadRefused}
use Rattle.amo_hello.proofs.send.Goals as goal

-- what belongs to a letter
abbrev Answers : ℕ → ℕ → Letter → ℕ → Type 0
Answers worker job letter house = house ≡ letter.0

of_ok : {A E : Type 0} (r : Result A E) (P : A → Type 0) → IfOk r P → IfSome (result_ok r) P
of_ok (Ok x) P h = h
of_ok (Err e) P h = tt

empty : {X : Type 0} (xs : List X) → length xs ≡ 0 → xs ≡ []
empty [] h = refl
empty (x ∷ xs) h = absurd (omega (arith, h))

-- a loop that has nothing left has gone over all
done : {X Y : Type 0} (f : X → ℕ) (h : Y → ℕ) (xs : List X) (ys : List Y) (all : List ℕ) → ys ≡ [] → map f xs ++ map h ys ≡ all → map f xs ≡ all
done f h xs ys all none e = sym (append-nil (map f xs)) ∙ subst (λ l. map f xs ++ map h l ≡ all) none e

pub loop-job-init : goal.loop-job-init
loop-job-init g c =
    let o = c.match-execute.outcome in
    let ended : c.loop-output.output-iterator.rest.len ≡ 0 = c.in-None.ensures.steps.0 in
    let none : into_iter_items c.loop-output.output-iterator ≡ [] = empty (into_iter_items c.loop-output.output-iterator) (omega (arith, c.loop-output.output-iterator.rest.ok.0, ended)) in
    let first = done (λ (t : ℕ × ℕ). t.0) (λ (x : Output ℕ). x.job) c.loop-output.sent.items (into_iter_items c.loop-output.output-iterator) _ none c.loop-output.invariant in
    ap (λ (l : List (ℕ × Letter)). map (λ (t : ℕ × ℕ). t.0) c.loop-output.sent.items ++ map (λ (t : ℕ × Letter). t.0) l) c.into_iter-job-iterator.ensures.into_iter_gives.0
    ∙ ap (λ (l : List ℕ). l ++ map (λ (t : ℕ × Letter). t.0) o.settlement.free.items) first

pub returns : goal.returns
returns g c =
    let o = c.match-execute.outcome in
    let givens = c.in_ok-givens.givens in
    let budgets = c.in_ok-plan.plan.budgets in
    let IsOurs : Outcome Letter ℕ → Type 0 = IsOutcome Answers givens c.args.all.items budgets in
    let is : IsOurs c.match-execute.outcome = elim c.match-execute.branch [
      | in-Err-Unsettled+in_ok-outcome-in-Err-Unsettled w ↦ (
          let left = w.in-Err-Unsettled.rest in
          let later = w.in_ok-outcome-in-Err-Unsettled.outcome in
          let unsettled : IsUnsettled Answers givens c.args.all.items budgets left = subst (Refuses Answers givens c.args.all.items budgets) w.in-Err-Unsettled.field-0-is w.in-Err-Unsettled.ensures.refused in
          let settled : IsSettledOf left later = subst (λ r. IfSome r (IsSettledOf left)) (sym w.ok-in-Err-Unsettled.ensures.value ∙ w.in_ok-outcome-in-Err-Unsettled.was) (of_ok w.settle.result (IsSettledOf left) w.settle.ensures.settled) in
          subst IsOurs (sym w.outcome-is) (c.settled_later.ensures givens c.args.all.items budgets left later unsettled settled))
      | in-Ok w ↦ subst IsOurs (sym w.outcome-is) w.in-Ok.ensures.done.0
      | in-Err-ThreadRefused w ↦ (
          let both = subst (Refuses Answers givens c.args.all.items budgets) w.in-Err-ThreadRefused.field-0-is w.in-Err-ThreadRefused.ensures.refused in
          subst IsOurs (sym w.outcome-is) both.0)
    ] in
    let ended : c.loop-job.job-iterator.rest.len ≡ 0 = c.in-None-2.ensures.steps.0 in
    let none : into_iter_items c.loop-job.job-iterator ≡ [] = empty (into_iter_items c.loop-job.job-iterator) (omega (arith, c.loop-job.job-iterator.rest.ok.0, ended)) in
    let listed = done (λ (t : ℕ × ℕ). t.0) (λ (t : ℕ × Letter). t.0) c.loop-job.sent.items (into_iter_items c.loop-job.job-iterator) (answered o ++ free_jobs o) none c.loop-job.invariant in
    let moved = IsPermutation-map (λ (t : ℕ × ℕ). t.0) _ _ c.sort_unstable.ensures.permutation in
    record {
      once = none_twice (answered o) (free_jobs o) _
          (c.each_job_is_answered_once.ensures.once _ _ _ o is)
          (c.each_job_has_a_place.ensures.free _ _ _ o is)
          (λ j. c.each_job_is_answered_once.ensures.free _ _ _ o j is)
          (subst (λ (l : List ℕ). IsPermutation l (map (λ (t : ℕ × ℕ). t.0) c.sort_unstable.new.self.items)) listed moved);
    }
