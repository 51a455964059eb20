-- A journal that can't be read.
use Rattle.std.proofs.Common.{◌≡◌, ℕ, suc, ◌<◌, false, ◌&&◌, List, map, drop, length, get_or, None, Vec, Global, is_some, ap, sym, ◌∙◌, drop-cons}
use Rattle.amo_run_log.specs.Journals.{attempts_in}
use Rattle.amo_operator.specs.Knowing.{are_readable}

abbrev pub texts_in : Vec (Vec ℕ Global) Global → List (List ℕ)
texts_in journal = map (λ text. text.items) journal.items

-- a journal that can't be read
pub unreadable : (count : ℕ) (js : List (Vec (Vec ℕ Global) Global)) (i : ℕ) (j : Vec (Vec ℕ Global) Global) → i < length js → j ≡ get_or js i j → attempts_in count (texts_in j) ≡ None
    → are_readable count (map texts_in (drop i js)) ≡ false
unreadable count js i j few at none =
    ap (λ l. are_readable count (map texts_in l)) (drop-cons js i j few)
    ∙ ap (λ o. is_some (attempts_in count (texts_in o)) && are_readable count (map texts_in (drop (suc i) js))) (sym at)
    ∙ ap (λ o. is_some o && are_readable count (map texts_in (drop (suc i) js))) none
