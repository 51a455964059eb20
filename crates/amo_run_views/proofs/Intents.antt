-- The intents of one append more.
use Rattle.std.proofs.Common.{◌≡◌, ◌+◌, ◌<◌, ℕ, zero, suc, List, [], ◌∷◌, ◌++◌, get_or, length, drop, Vec, Global, ap, sym, ◌∙◌, arith}
use Rattle.std.proofs.lemmas.List.{append_assoc}
use Rattle.amo_journal.specs.Logs.{records_of}
use Rattle.amo_run_log.specs.Entries.{append_in}
use Rattle.amo_run_views.specs.Named.{named_by_append, named_in}

-- those from an append on are its own and those from the next one on
first_of : (worker : ℕ) (it : Vec ℕ Global) (all : List (Vec ℕ Global)) (i : ℕ) → i < length all → it ≡ get_or all i it
    → named_in worker (records_of (drop i all)) ≡ named_by_append worker (append_in it.items) ++ named_in worker (records_of (drop (suc i) all))
first_of worker it [] i lt is = absurd (omega (arith, lt))
first_of worker it (x ∷ all) zero lt is = ap (λ (v : Vec ℕ Global). named_by_append worker (append_in v.items) ++ named_in worker (records_of all)) (sym is)
first_of worker it (x ∷ all) (suc i) lt is = first_of worker it all i (omega (arith, lt)) is

-- with those of an append added, the ones from the next append on are missing
pub more : (worker : ℕ) (before after : List (ℕ × ℕ × ℕ)) (it : Vec ℕ Global) (all : List (Vec ℕ Global)) (i : ℕ) → i < length all → it ≡ get_or all i it
    → after ≡ before ++ named_by_append worker (append_in it.items)
    → after ++ named_in worker (records_of (drop (i + 1) all)) ≡ before ++ named_in worker (records_of (drop i all))
more worker before after it all i lt is adds =
    let own = named_by_append worker (append_in it.items) in
    let next : i + 1 ≡ suc i = omega arith in
    let rest = named_in worker (records_of (drop (i + 1) all)) in
    ap (λ (named : List (ℕ × ℕ × ℕ)). named ++ rest) adds ∙ append_assoc before own rest
    ∙ ap (λ (named : List (ℕ × ℕ × ℕ)). before ++ named) (ap (λ (k : ℕ). own ++ named_in worker (records_of (drop k all))) next ∙ sym (first_of worker it all i lt is))
