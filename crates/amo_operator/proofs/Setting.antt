-- An element of a list is replaced.
use Rattle.std.proofs.Common.{◌≡◌, ℕ, zero, suc, ◌-◌, List, [], ◌∷◌, map, Some, Vec, Global, refl, sym, ap, subst, ◌∙◌}
use Rattle.std.proofs.lemmas.Option.{slice_get-map}
use Rattle.std.specs.Prelude.{slice_get, slice_set, option_map}
use Rattle.amo_run_log.specs.declared.journal.Attempt.{Attempt}
use Rattle.amo_status.specs.declared.state.AttemptId.{AttemptId}
use Rattle.amo_operator.specs.Knowing.{doubted, doubted_of}

-- then so is what stands for it
pub map_set : {A B : Type 0} (f : A → B) (xs : List A) (k : ℕ) (y : A) → map f (slice_set xs k y) ≡ slice_set (map f xs) k (f y)
map_set f [] zero y = refl
map_set f [] (suc k) y = refl
map_set f (x ∷ xs) zero y = refl
map_set f (x ∷ xs) (suc k) y = ap (λ ys. f x ∷ ys) (map_set f xs k y)

-- a journal is, by one that has a doubt
pub doubts : (js : List (Vec Attempt Global)) (i : AttemptId) (t k : ℕ) (es new : Vec Attempt Global) → k ≡ i.worker - 1 → slice_get js k ≡ Some es
    → new.items ≡ doubted es.items i.serial t (slice_get es.items (i.serial - 1))
    → map (λ journal. journal.items) (slice_set js k new) ≡ doubted_of (map (λ journal. journal.items) js) i t (slice_get (map (λ journal. journal.items) js) (i.worker - 1))
doubts js i t k es new at there is =
    let items = λ (journal : Vec Attempt Global). journal.items in
    let found : slice_get (map items js) (i.worker - 1) ≡ Some es.items =
    slice_get-map items js (i.worker - 1) ∙ ap (option_map items) (subst (λ (n : ℕ). slice_get js n ≡ Some es) at there) in
    map_set items js k new ∙ ap (λ (n : ℕ). slice_set (map items js) n new.items) at ∙ ap (slice_set (map items js) (i.worker - 1)) is
    ∙ sym (ap (doubted_of (map items js) i t) found)
