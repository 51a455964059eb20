-- The state of the judge as the object, and its walk over the events.
use Rattle.std.proofs.Common.{◌≡◌, ℕ, suc, ◌+◌, ◌^◌, ◌≤◌, ◌<◌, Bool, true, false, ◌↔◌, List, [], ◌∷◌, ◌++◌, length, take, drop, get_or, refl, sym, ap, ◌∙◌, subst, arith, add-one}
use Rattle.std.specs.Prelude.{if◌then◌else◌, ◌==◌}
use Rattle.std.proofs.lemmas.Bool.{true≢false}
use Rattle.std.proofs.lemmas.Bool.Decides.{nat_tests}
use Rattle.std.proofs.lemmas.List.{length-take-le}
use Rattle.std.proofs.Math.Seq.{take-suc, drop-cons}
use Rattle.amo_kk.specs.Object.{first_object, is_step, object_after}
use Rattle.amo_kk.specs.Run.{object_after_all, IsRun, first_bad, IsFirstBad}
use Rattle.amo_params.specs.declared.givens.Givens.{Givens}
use Rattle.amo_kk.specs.declared.model.Object.{Object}
use Rattle.amo_kk.specs.declared.event.Event.{Event}
use Rattle.amo_kk.proofs.Claims.{run_first_bad, first_bad_is}
use Rattle.amo_kk.proofs.Room.{run_is_short}
use Rattle.amo_world.specs.declared.answer.Verdict.{Verdict}
use Rattle.amo_world.specs.declared.answer.Verdict.TheVariants.{Lawful, FirstBad}

-- the place n counted from k places earlier, or None if n is 0
abbrev pub later : ℕ → ℕ → ℕ
later k n = if n == 0 then 0 else k + n

-- a run with one step more, and the state after it

after_push : (s : Object) (es : List Event) (e : Event) → object_after_all s (es ++ e ∷ []) ≡ object_after (object_after_all s es) e
after_push s [] e = refl
after_push s (x ∷ es) e = after_push (object_after s x) es e

run_push : (g : Givens) (s : Object) (es : List Event) (e : Event) → IsRun g s es → is_step g (object_after_all s es) e ≡ true → IsRun g s (es ++ e ∷ [])
run_push g s [] e run step = (step, tt)
run_push g s (x ∷ es) e run step = (run.0, run_push g (object_after s x) es e run.1 step)

-- the walk goes one event further

taken : (es : List Event) (k : ℕ) (d : Event) → k < length es → take (k + 1) es ≡ take k es ++ get_or es k d ∷ []
taken es k d l = rw add-one (take-suc es k d l)

pub next_run : (g : Givens) (s : Object) (es : List Event) (k : ℕ) (d : Event) → k < length es → IsRun g s (take k es) → is_step g (object_after_all s (take k es)) (get_or es k d) ≡ true → IsRun g s (take (k + 1) es)
next_run g s es k d l run step = subst (λ x. IsRun g s x) (sym (taken es k d l)) (run_push g s (take k es) (get_or es k d) run step)

pub next_object : (s : Object) (es : List Event) (k : ℕ) (d : Event) → k < length es → object_after (object_after_all s (take k es)) (get_or es k d) ≡ object_after_all s (take (k + 1) es)
next_object s es k d l = sym (after_push s (take k es) (get_or es k d)) ∙ ap (λ x. object_after_all s x) (sym (taken es k d l))

-- the first bad event of these, and then of those
abbrev first_of : Bool → ℕ → ℕ
first_of step n = if step then (if n == 0 then 0 else suc n) else 1

dropped : (g : Givens) (s : Object) (es : List Event) (k : ℕ) (d : Event) → k < length es
    → first_bad g s (drop k es) ≡ first_of (is_step g s (get_or es k d)) (first_bad g (object_after s (get_or es k d)) (drop (k + 1) es))
dropped g s es k d l = ap (λ x. first_bad g s x) (drop-cons es k d l) ∙ (λ i. first_of (is_step g s (get_or es k d)) (first_bad g (object_after s (get_or es k d)) (drop (sym (add-one k) i) es)))

-- an event that is a step is not the first bad one
pub next_rest : (g : Givens) (s : Object) (es : List Event) (k : ℕ) (d : Event) → k < length es → is_step g s (get_or es k d) ≡ true
    → later k (first_bad g s (drop k es)) ≡ later (k + 1) (first_bad g (object_after s (get_or es k d)) (drop (k + 1) es))
next_rest g s es k d l step = ap (λ n. later k n) (dropped g s es k d l) ∙ one (is_step g s (get_or es k d)) (first_bad g (object_after s (get_or es k d)) (drop (k + 1) es)) step
  where
    one : (b : Bool) (n : ℕ) → b ≡ true → later k (first_of b n) ≡ later (k + 1) n
    one b n e = grind (arith, nat_tests)

-- an event that is no step is the first bad one, after a run
pub bad_here : (g : Givens) (s : Object) (es : List Event) (k : ℕ) (d : Event) → k < length es → is_step g s (get_or es k d) ≡ false → later k (first_bad g s (drop k es)) ≡ suc k
bad_here g s es k d l refused = ap (λ n. later k n) (dropped g s es k d l) ∙ one (is_step g s (get_or es k d)) (first_bad g (object_after s (get_or es k d)) (drop (k + 1) es)) refused
  where
    one : (b : Bool) (n : ℕ) → b ≡ false → later k (first_of b n) ≡ suc k
    one b n e = grind (arith, nat_tests)

-- which verdict it is, and the place that it names

is_lawful : Verdict → Bool
is_lawful Lawful = true
is_lawful (FirstBad i) = false

place_of : Verdict → ℕ
place_of Lawful = 0
place_of (FirstBad i) = i

-- what it means that the first bad event is named
module _ (g : Givens) (es : List Event) (k place : ℕ) (is : first_bad g (first_object g) es ≡ suc k) (same : place ≡ k) where
  pub named_no_run : (FirstBad (place + 1) ≡ Lawful) ↔ IsRun g (first_object g) es
  unfolding is_lawful
  named_no_run = (
    λ e. absurd (true≢false (sym (ap is_lawful e))),
    λ run. let none = run_first_bad g (first_object g) es run in absurd (omega arith),
  )

  pub named_first : (i : ℕ) → FirstBad (place + 1) ≡ FirstBad i → IsFirstBad g (first_object g) es i
  unfolding place_of
  named_first i e = let one : place + 1 ≡ i = ap place_of e in subst (λ n. IsFirstBad g (first_object g) es n) (omega arith) (first_bad_is g (first_object g) es k is)

-- the place of an event after a run is small
pub place_fits : (g : Givens) (es : List Event) (k : ℕ) → k ≤ length es → IsRun g (first_object g) (take k es) → k + 1 < 2 ^ 32
place_fits g es k l run = let short = run_is_short g (take k es) run in let size = length-take-le k es l in let jobs = g.limits.few_jobs in let workers = g.limits.few_workers in omega arith
