-- The lines of attempts, one attempt after the other.
use Rattle.std.proofs.Common.{◌≡◌, ◌+◌, ◌<◌, ℕ, List, [], ◌∷◌, ◌++◌, take, length, get_or, ap, ◌∙◌, append-nil}
use Rattle.std.specs.Prelude.{codes}
use Rattle.std.specs.Fmt.{decimal}
use Rattle.std.proofs.lemmas.Grind.{flat_map-append}
use Rattle.std.proofs.lemmas.List.{take_more}
use Rattle.amo_run_log.specs.declared.journal.Attempt.{Attempt}
use Rattle.amo_call_log.specs.Shown.{lines_text}

-- one attempt more is one line more
pub lines_text-more : (attempts : List Attempt) (i : ℕ) (d : Attempt) → i < length attempts
    → lines_text (take (i + 1) attempts) ≡ lines_text (take i attempts) ++ (decimal (get_or attempts i d).line ++ codes " ")
lines_text-more attempts i d within =
    ap lines_text (take_more attempts i d within)
    ∙ flat_map-append (λ (attempt : Attempt). decimal attempt.line ++ codes " ") (take i attempts) (get_or attempts i d ∷ [])
    ∙ ap (λ l. lines_text (take i attempts) ++ l) (append-nil (decimal (get_or attempts i d).line ++ codes " "))
