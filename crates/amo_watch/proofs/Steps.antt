-- One row more of those that may have changed.
use Rattle.std.proofs.Common.{◌≡◌, ℕ, zero, suc, ◌+◌, ◌<◌, List, [], ◌∷◌, ◌++◌, length, get_or, drop, refl, sym, ap, ◌∙◌, append_assoc, add-one}
use Rattle.std.proofs.lemmas.List.{drop_more}
use Rattle.amo_watch.specs.declared.row.AttemptRow.{AttemptRow}
use Rattle.amo_watch.specs.Changes.{changed, rest_of, unless_first}

rest_drop : (olds : List AttemptRow) (i : ℕ) → rest_of (drop i olds) ≡ drop (suc i) olds
rest_drop [] zero = refl
rest_drop [] (suc i) = refl
rest_drop (x ∷ xs) zero = refl
rest_drop (x ∷ xs) (suc i) = rest_drop xs i

rest_more : (olds : List AttemptRow) (i : ℕ) → rest_of (drop i olds) ≡ drop (i + 1) olds
rest_more olds i = rw add-one (rest_drop olds i)

pub changed_more : (olds rows : List AttemptRow) (i : ℕ) (d : AttemptRow) (old new all : List AttemptRow) → i < length rows → old ++ changed (drop i olds) (drop i rows) ≡ all
    → new ≡ old ++ unless_first (drop i olds) (get_or rows i d) → new ++ changed (drop (i + 1) olds) (drop (i + 1) rows) ≡ all
changed_more olds rows i d old new all lt so_far is =
    ap (λ l. l ++ changed (drop (i + 1) olds) (drop (i + 1) rows)) is
    ∙ append_assoc old (unless_first (drop i olds) (get_or rows i d)) (changed (drop (i + 1) olds) (drop (i + 1) rows))
    ∙ ap (λ os. old ++ (unless_first (drop i olds) (get_or rows i d) ++ changed os (drop (i + 1) rows))) (sym (rest_more olds i))
    ∙ ap (λ rs. old ++ changed (drop i olds) rs) (sym (drop_more rows i d lt))
    ∙ so_far
