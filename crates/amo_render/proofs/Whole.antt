-- The plan of what was read is the plan of what the source had, also where reading stopped at the
-- limit.
use Rattle.std.proofs.Common.{◌≡◌, ℕ, ◌<◌, ◌≤◌, List, [], ◌++◌, length, Option, Some, None, Result, Ok, Err, refl, sym, ap, ◌∙◌, inl, inr, length-append, arith}
use Rattle.std.specs.Prelude.{IfSome}
use Rattle.std.specs.Io.KnownBytes.{Consumes, IsAtEnd}
use Rattle.std.proofs.lemmas.Bool.{cases_lt, lt-leb}
use Rattle.std.proofs.lemmas.List.{append-nil}
use Rattle.amo_plan.specs.declared.fault.PlanFault.{PlanFault}
use Rattle.amo_plan.specs.declared.fault.PlanFault.TheVariants.{TooLong}
use Rattle.amo_plan.specs.declared.limits.TheConstants.{MOST_BYTES}
use Rattle.amo_plan.specs.Plan.{PlanSeen, plan_of}
use Rattle.amo_render.specs.declared.writing.ReplayFault.{ReplayFault}
use Rattle.amo_render.specs.declared.writing.ReplayFault.TheVariants.{Plan, Read, Write, NoMemory}
use Rattle.amo_render.specs.Written.{IsNotMade, IsNoPlan}
use Rattle.amo_render.specs.declared.reading.TheConstants.{MOST_READ}

-- a text above the limit is too long, whatever it holds
too_long : (bytes : List ℕ) → MOST_READ ≤ length bytes → plan_of bytes ≡ Err TooLong
unfolding plan_of
too_long bytes long = rw (lt-leb (length bytes) MOST_BYTES (omega arith)) refl

-- all was read, or so much that it is too long either way
same_plan : (xs rest bytes : List ℕ) → xs ≡ bytes ++ rest → (length bytes < MOST_READ → rest ≡ []) → plan_of xs ≡ plan_of bytes
same_plan xs rest bytes parts end =
    elim (cases_lt (length bytes) MOST_READ) [
      | inl short ↦ ap plan_of (parts ∙ ap (λ (ys : List ℕ). bytes ++ ys) (end short) ∙ append-nil bytes)
      | inr long ↦ too_long xs (omega (arith, ap length parts, length-append bytes rest)) ∙ sym (too_long bytes long)
    ]

-- what the bytes that were read answer is what the source's bytes answer
pub whole : (known left : Option (List ℕ)) (bytes : List ℕ) (answer : Result PlanSeen PlanFault) → Consumes known left bytes → (length bytes < MOST_READ → IsAtEnd left) → plan_of bytes ≡ answer → IfSome known (λ xs. plan_of xs ≡ answer)
whole None left bytes answer taken end is = tt
whole (Some xs) None bytes answer taken end is = absurd taken
whole (Some xs) (Some rest) bytes answer taken end is = same_plan xs rest bytes taken end ∙ is

-- and so is the reason why the bytes are not a plan
pub no_plan : (known left : Option (List ℕ)) (bytes : List ℕ) (e : ReplayFault) → Consumes known left bytes → (length bytes < MOST_READ → IsAtEnd left) → IsNotMade e (plan_of bytes) → IsNoPlan e known
no_plan known left bytes (Plan f) taken end none = (whole known left bytes (Err f) taken end none.0, none.1)
no_plan known left bytes Read taken end none = tt
no_plan known left bytes Write taken end none = none
no_plan known left bytes NoMemory taken end none = tt

-- the source is at its end if a plan was read
pub at_end : (left : Option (List ℕ)) (bytes : List ℕ) (plan : PlanSeen) → (length bytes < MOST_READ → IsAtEnd left) → plan_of bytes ≡ Ok plan → IsAtEnd left
at_end left bytes plan end is =
    elim (cases_lt (length bytes) MOST_READ) [
      | inl short ↦ end short
      | inr long ↦ let both : Err TooLong ≡ Ok plan = sym (too_long bytes long) ∙ is in absurd cc
    ]
