-- The streams after a text is made of all bytes of a source, and is written to a sink.
use Rattle.std.specs.Prelude.{◌≡◌, ◌≢◌, ◌<◌, ◌⊎◌, List, ℕ, Option, IfSome, length}
use Rattle.std.specs.Io.KnownBytes.{Keeps, Appends}
use Rattle.amo_plan.specs.declared.limits.TheConstants.{MOST_BYTES}
use Rattle.amo_plan.specs.declared.fault.PlanFault.{PlanFault}
use Rattle.amo_plan.specs.declared.fault.PlanFault.TheVariants as fault
use Rattle.amo_render.specs.declared.writing.ReplayFault.{ReplayFault}
use Rattle.amo_render.specs.declared.writing.ReplayFault.TheVariants.{Plan, Read, Write, NoMemory}
use Rattle.amo_io.specs.Streams.{AppendsFront}

-- A text of a source with these bytes was written, and nothing else.
abbrev pub WritesOf : (List ℕ → List ℕ → Type 0) → Option (List ℕ) → Option (List ℕ) → Option (List ℕ) → Type 0
WritesOf is_of known old new = IfSome known (λ bytes. (text : List ℕ) × is_of bytes text × Appends old new text)

-- A beginning of a text of a source with these bytes was written, and nothing else.
abbrev pub WritesFrontOf : (List ℕ → List ℕ → Type 0) → Option (List ℕ) → Option (List ℕ) → Option (List ℕ) → Type 0
WritesFrontOf is_of known old new = IfSome known (λ bytes. (text : List ℕ) × is_of bytes text × AppendsFront old new text)

-- A source with these bytes has more than a plan may have.
abbrev pub IsTooMuch : Option (List ℕ) → Type 0
IsTooMuch known = IfSome known (λ bytes. MOST_BYTES < length bytes)

-- A source with these bytes has no text, for this fault, which isn't out of memory: it has just
-- some bytes that have none for it.
pub record HasNoText (is_refused : List ℕ → PlanFault → Type 0) (f : PlanFault) (known : Option (List ℕ)) : Type 0 where
  pub bytes : List ℕ
  pub same : IfSome known (λ xs. xs ≡ bytes)
  pub refused : is_refused bytes f
  pub not_memory : f ≢ fault.NoMemory

-- The streams after a fault: a source that had these bytes, and a sink by its bytes before and now.
-- A fault of a plan comes if there are too many bytes, or if they have no text for that fault.
abbrev pub RefusesOf : (List ℕ → List ℕ → Type 0) → (List ℕ → PlanFault → Type 0) → ReplayFault → Option (List ℕ) → Option (List ℕ) → Option (List ℕ) → Type 0
RefusesOf is_of is_refused (Plan f) known old new = (((f ≡ fault.TooLong) × IsTooMuch known) ⊎ HasNoText is_refused f known) × Keeps old new
RefusesOf is_of is_refused Read known old new = Keeps old new
RefusesOf is_of is_refused Write known old new = WritesFrontOf is_of known old new
RefusesOf is_of is_refused NoMemory known old new = Keeps old new
