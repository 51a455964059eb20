-- The bytes that were read are all that the source had, or more than is read.
use Rattle.std.proofs.Common.{◌≡◌, ℕ, ◌<◌, List, [], ◌++◌, length, Option, Some, None, inr, sym, ap, ◌∙◌, subst, length-append, arith}
use Rattle.std.specs.Prelude.{IfSome}
use Rattle.std.specs.Io.KnownBytes.{Appends, Consumes, IsAtEnd, Keeps}
use Rattle.std.proofs.lemmas.List.{append-nil}
use Rattle.amo_io.specs.Streams.{AppendsFront}
use Rattle.amo_render.specs.declared.reading.TheConstants.{MOST_READ}
use Rattle.amo_plan.specs.declared.fault.PlanFault.{PlanFault}
use Rattle.amo_plan.specs.declared.limits.TheConstants.{MOST_BYTES}
use Rattle.amo_render.specs.declared.writing.ReplayFault.{ReplayFault}
use Rattle.amo_render.specs.declared.writing.ReplayFault.TheVariants.{Plan, Read, Write, NoMemory}
use Rattle.amo_render.specs.OfBytes.{WritesOf, WritesFrontOf, RefusesOf}
use Rattle.amo_render.specs.Written.{IsNoText}

-- at the end of the source, what was read is what it had
pub all_read : (known left : Option (List ℕ)) (bytes : List ℕ) → Consumes known left bytes → IsAtEnd left → IfSome known (λ xs. xs ≡ bytes)
all_read None left bytes taken end = tt
all_read (Some xs) None bytes taken end = absurd taken
all_read (Some xs) (Some rest) bytes taken end = taken ∙ ap (λ (ys : List ℕ). bytes ++ ys) end ∙ append-nil bytes

-- as many as are read at most are too many
pub too_many : (known left : Option (List ℕ)) (bytes : List ℕ) → Consumes known left bytes → length bytes ≡ MOST_READ → IfSome known (λ xs. MOST_BYTES < length xs)
too_many None left bytes taken many = tt
too_many (Some xs) None bytes taken many = absurd taken
too_many (Some xs) (Some rest) bytes taken many = omega (arith, ap length taken, length-append bytes rest)

-- what was written of the bytes that were read was written of those of the source
pub written_of : (is_of : List ℕ → List ℕ → Type 0) (known old new : Option (List ℕ)) (bytes text : List ℕ) → IfSome known (λ xs. xs ≡ bytes) → is_of bytes text
    → Appends old new text → WritesOf is_of known old new
written_of is_of None old new bytes text same is written = tt
written_of is_of (Some xs) old new bytes text same is written = (text, subst (λ (ys : List ℕ). is_of ys text) (sym same) is, written)

-- so was a beginning of it
pub front_of : (is_of : List ℕ → List ℕ → Type 0) (known old new : Option (List ℕ)) (bytes text : List ℕ) → IfSome known (λ xs. xs ≡ bytes) → is_of bytes text
    → AppendsFront old new text → WritesFrontOf is_of known old new
front_of is_of None old new bytes text same is front = tt
front_of is_of (Some xs) old new bytes text same is front = (text, subst (λ (ys : List ℕ). is_of ys text) (sym same) is, front)

-- the bytes that were read have no text, so those of the source have none
pub refused_of : (is_of : List ℕ → List ℕ → Type 0) (is_refused : List ℕ → PlanFault → Type 0) (e : ReplayFault) (known old new : Option (List ℕ)) (bytes : List ℕ)
    → IfSome known (λ xs. xs ≡ bytes) → IsNoText (is_refused bytes) e → Keeps old new → RefusesOf is_of is_refused e known old new
refused_of is_of is_refused (Plan f) known old new bytes same none keeps = (inr (record { bytes = bytes; same = same; refused = none.0; not_memory = none.1 }), keeps)
refused_of is_of is_refused Read known old new bytes same none keeps = keeps
refused_of is_of is_refused Write known old new bytes same none keeps = absurd none
refused_of is_of is_refused NoMemory known old new bytes same none keeps = keeps
