-- The text of a run that was written, by what is known of the source's bytes.
use Rattle.std.proofs.Common.{◌≡◌, List, ℕ, Option, Some, None, Result, Ok, sym, subst}
use Rattle.std.specs.Prelude.{IfSome}
use Rattle.std.specs.Result.{IsOkAnd}
use Rattle.std.specs.Io.KnownBytes.{Appends}
use Rattle.amo_plan.specs.declared.fault.PlanFault.{PlanFault}
use Rattle.amo_plan.specs.Plan.{PlanSeen, plan_of}
use Rattle.amo_io.specs.Streams.{AppendsFront}
use Rattle.amo_run_plan.specs.declared.started.Started.{Started}
use Rattle.amo_run_plan.specs.Runs.{IsRunText, WritesRun, WritesRunFront}

-- a fact of the plan of these bytes
of_plan : (P : PlanSeen → Type 0) (known : Option (List ℕ)) (p : PlanSeen) → IfSome known (λ bytes. plan_of bytes ≡ Ok p) → P p → IfSome known (λ bytes. IsOkAnd (plan_of bytes) P)
of_plan P None p is h = tt
of_plan P (Some bytes) p is h = subst (λ (r : Result PlanSeen PlanFault). IsOkAnd r P) (sym is) h

module _ (known old new : Option (List ℕ)) (started : Started) (p : PlanSeen) (text : List ℕ) where
  -- the text was written
  pub writes : IfSome known (λ bytes. plan_of bytes ≡ Ok p) → IsRunText started p text → Appends old new text → WritesRun started known old new
  writes is run put = of_plan (λ q. (t : List ℕ) × IsRunText started q t × Appends old new t) known p is (text, run, put)

  -- a beginning of it was written
  pub writes_front : IfSome known (λ bytes. plan_of bytes ≡ Ok p) → IsRunText started p text → AppendsFront old new text → WritesRunFront known old new
  writes_front is run put = of_plan (λ q. (s : Started) × ((t : List ℕ) × IsRunText s q t × AppendsFront old new t)) known p is (started, (text, run, put))
