-- The streams after a text is made of the plan of a source, and is written to a sink.
use Rattle.std.specs.Prelude.{◌≡◌, ◌≢◌, List, ℕ, Option, Bool, true, false, IfSome, Result, Err}
use Rattle.std.specs.Result.{IsOkAnd}
use Rattle.std.specs.Io.KnownBytes.{Keeps, Appends}
use Rattle.amo_plan.specs.declared.fault.PlanFault.{PlanFault}
use Rattle.amo_plan.specs.declared.fault.PlanFault.TheVariants as fault
use Rattle.amo_plan.specs.Passing.{◌>>=◌}
use Rattle.amo_plan.specs.Plan.{PlanSeen, plan_of}
use Rattle.amo_render.specs.declared.writing.ReplayFault.{ReplayFault}
use Rattle.amo_render.specs.declared.writing.ReplayFault.TheVariants.{Plan, Read, Write, NoMemory}
use Rattle.amo_io.specs.Streams.{AppendsFront}

-- the answer is that the source has failed
abbrev pub is_failed_read : {A : Type 0} → Result A ReplayFault → Bool
is_failed_read (Err Read) = true
is_failed_read answer = false

-- the answer is that the sink has failed
abbrev pub is_failed_write : {A : Type 0} → Result A ReplayFault → Bool
is_failed_write (Err Write) = true
is_failed_write answer = false

-- The text of a plan, or a fault for which it has no text. Either this is made of the plan that
-- these bytes are, or the bytes are not a plan, for this fault.
abbrev pub made_in : (PlanSeen → Result (List ℕ) PlanFault) → List ℕ → Result (List ℕ) PlanFault
made_in made bytes = plan_of bytes >>= made

-- the reason for no text: a fault of a plan of which this holds, or out of memory, which is never
-- given as a fault of a plan
abbrev pub IsNoText : (PlanFault → Type 0) → ReplayFault → Type 0
IsNoText is_refused (Plan f) = is_refused f × (f ≢ fault.NoMemory)
IsNoText is_refused Read = ⊥
IsNoText is_refused Write = ⊥
IsNoText is_refused NoMemory = Unit {0}

-- why something wasn't made, of which this is the definition
abbrev pub IsNotMade : {A : Type 0} → ReplayFault → Result A PlanFault → Type 0
IsNotMade e made = IsNoText (λ f. made ≡ Err f) e

-- why no plan was read from a source that had these bytes
abbrev pub IsNoPlan : ReplayFault → Option (List ℕ) → Type 0
IsNoPlan (Plan f) known = IfSome known (λ bytes. plan_of bytes ≡ Err f) × (f ≢ fault.NoMemory)
IsNoPlan Read known = Unit {0}
IsNoPlan Write known = ⊥
IsNoPlan NoMemory known = Unit {0}

-- The text that is made of a source with these bytes was written, and nothing else.
abbrev pub Writes : (PlanSeen → Result (List ℕ) PlanFault) → Option (List ℕ) → Option (List ℕ) → Option (List ℕ) → Type 0
Writes made known old new = IfSome known (λ bytes. IsOkAnd (made_in made bytes) (λ text. Appends old new text))

-- A beginning of the text that is made of a source with these bytes was written, and nothing else.
abbrev pub WritesFront : (PlanSeen → Result (List ℕ) PlanFault) → Option (List ℕ) → Option (List ℕ) → Option (List ℕ) → Type 0
WritesFront made known old new = IfSome known (λ bytes. IsOkAnd (made_in made bytes) (λ text. AppendsFront old new text))

-- The streams after a fault: a source that had these bytes, and a sink by its bytes before and now.
-- Out of memory is never given as a fault of the plan.
abbrev pub Refuses : (PlanSeen → Result (List ℕ) PlanFault) → ReplayFault → Option (List ℕ) → Option (List ℕ) → Option (List ℕ) → Type 0
Refuses made (Plan f) known old new = IfSome known (λ bytes. made_in made bytes ≡ Err f) × (f ≢ fault.NoMemory) × Keeps old new
Refuses made Read known old new = Keeps old new
Refuses made Write known old new = WritesFront made known old new
Refuses made NoMemory known old new = Keeps old new
