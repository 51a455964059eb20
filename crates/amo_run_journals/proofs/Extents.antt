-- The extent of a name among others.
use Rattle.std.proofs.Common.{◌≡◌, ◌<◌, ◌+◌, ℕ, zero, suc, cond, List, [], ◌∷◌, length, get_or, drop, Some, sym, ap, ◌∙◌, arith, add-one}
use Rattle.std.specs.Str.{bytes_eq}
use Rattle.amo_run_journals.specs.Extents.{extent_named}
use Rattle.amo_run_files.specs.declared.extent.Extent.{Extent}

named_on : (name : List ℕ) (extents : List Extent) (i : ℕ) (e : Extent) → i < length extents → e ≡ get_or extents i e
    → extent_named name (drop i extents) ≡ cond (bytes_eq e.name.items name) (Some e) (extent_named name (drop (suc i) extents))
named_on name [] i e lt is = absurd (omega arith)
named_on name (x ∷ extents) zero e lt is = ap (λ (y : Extent). cond (bytes_eq y.name.items name) (Some y) (extent_named name extents)) (sym is)
named_on name (x ∷ extents) (suc i) e lt is = named_on name extents i e (omega arith) is

-- at this index stands an extent of this name, or of another
pub named_at : (name : List ℕ) (extents : List Extent) (i : ℕ) (e : Extent) → i < length extents → e ≡ get_or extents i e
    → extent_named name (drop i extents) ≡ cond (bytes_eq e.name.items name) (Some e) (extent_named name (drop (i + 1) extents))
named_at name extents i e lt is =
    named_on name extents i e lt is ∙ ap (λ (k : ℕ). cond (bytes_eq e.name.items name) (Some e) (extent_named name (drop k extents))) (sym (add-one i))
