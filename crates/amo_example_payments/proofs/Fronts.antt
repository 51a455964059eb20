-- A text that is written in pieces, and a beginning of it.
use Rattle.std.proofs.Common.{◌≡◌, ℕ, ◌+◌, List, ◌++◌, length, take, Option, Result, Ok, Err, OnErr, IfErr, sym, ap, ◌∙◌, subst, arith, length-append}
use Rattle.std.specs.Prelude.{⊤}
use Rattle.std.specs.Io.KnownBytes.{Appends, Keeps}
use Rattle.std.proofs.KnownBytes.{Appends-nil, Appends-kept, Appends-trans}
use Rattle.amo_example_payments.specs.declared.fault.Fault.{Fault}
use Rattle.amo_example_payments.specs.declared.fault.Fault.TheVariants.{Line, Input, Crew, Journal, Damaged, Entry, Output, Memory, Unsettled}
use Rattle.std.proofs.Math.Seq.{take-append-add}
use Rattle.std.proofs.lemmas.List.{take-append-le, take_all}
use Rattle.amo_io.specs.Streams.{AppendsFront}

pub nothing : (a : Option (List ℕ)) (text : List ℕ) → AppendsFront a a text
nothing a text = (0, omega arith, Appends-nil a)

pub whole : (a b : Option (List ℕ)) (text : List ℕ) → Appends a b text → AppendsFront a b text
whole a b text h = (length text, omega arith, subst (Appends a b) (sym (take_all (length text) text (omega arith))) h)

pub first : (a b : Option (List ℕ)) (xs ys : List ℕ) → AppendsFront a b xs → AppendsFront a b (xs ++ ys)
first a b xs ys h =
    let size = length-append xs ys in
    (h.0, omega (arith, h.1, size), subst (Appends a b) (sym (take-append-le h.0 xs ys h.1)) h.2)

pub next : (a b c : Option (List ℕ)) (xs ys : List ℕ) → Appends a b xs → AppendsFront b c ys → AppendsFront a c (xs ++ ys)
next a b c xs ys h k =
    let size = length-append xs ys in
    (length xs + k.0, omega (arith, k.1, size), subst (Appends a c) (sym (take-append-add xs ys k.0)) (Appends-trans a b c xs (take k.0 ys) h k.2))

-- what holds at an error
pub on_err : {T E P : Type 0} (r : Result T E) → P → OnErr r P
on_err (Ok x) h = tt
on_err (Err e) h = h

-- what is kept of a whole text is a beginning of it
pub kept : (a b c : Option (List ℕ)) (text : List ℕ) → Appends a b text → Keeps b c → AppendsFront a c text
kept a b c text h k = whole a c text (Appends-kept a b c text h k)

output_is_not_memory : Output ≡ Memory → ⊥
output_is_not_memory e = subst is_output e tt
  where
    is_output : Fault → Type 0
    is_output Line = ⊥
    is_output Input = ⊥
    is_output Crew = ⊥
    is_output Journal = ⊥
    is_output (Damaged n kind) = ⊥
    is_output (Entry n) = ⊥
    is_output Output = ⊤
    is_output Memory = ⊥
    is_output Unsettled = ⊥

abbrev fault_in : {T : Type 0} → Fault → Result T Fault → Fault
fault_in f (Ok x) = f
fault_in f (Err e) = e

-- a writer that fails is no want of memory
pub wrote : {T : Type 0} (a b : Option (List ℕ)) (r : Result T Fault) → IfErr r (λ f. f ≡ Output) → r ≡ Err Memory → Keeps a b
wrote a b (Ok x) h e = absurd (output_is_not_memory (ap (fault_in Output) e))
wrote a b (Err f) h e = absurd (output_is_not_memory (sym h ∙ ap (fault_in Output) e))
