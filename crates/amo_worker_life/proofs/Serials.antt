-- The serial number of a worker's next attempt, by what was read of its journal.
use Rattle.std.proofs.Common.{◌≡◌, ◌⊎◌, ⊎_elim, ℕ, zero, suc, ◌+◌, ◌-◌, ◌<◌, ◌≤◌, List, map, length, get_or, Vec, Global, Option, Some, refl, sym, ap, subst, ◌∙◌, arith}
use Rattle.std.specs.Prelude.{slice_get, option_map}
use Rattle.std.proofs.lemmas.Option.{slice_get-map, slice_get_past, slice_get_read}
use Rattle.amo_run_log.specs.declared.journal.Attempt.{Attempt}
use Rattle.amo_host.specs.Logs.{attempts_of, next_serial}

-- that of a worker whose journal is there
pub next_there : (js : List (Vec Attempt Global)) (w : ℕ) (j : Vec Attempt Global) → 1 ≤ w → w ≤ length js → j ≡ get_or js (w - 1) j
    → length j.items + 1 ≡ next_serial (map (λ journal. journal.items) js) w
next_there js zero j some few is = absurd (omega arith)
next_there js (suc k) j some few is =
    let before : suc k - 1 ≡ k = omega arith in
    let found : slice_get js k ≡ Some j =
    subst (λ (i : ℕ). slice_get js i ≡ Some j) before (slice_get_read js (length js) (suc k - 1) j refl (omega (arith, few)) is) in
    sym (ap (λ (o : Option (List Attempt)). attempts_of o + 1) (slice_get-map (λ (journal : Vec Attempt Global). journal.items) js k
    ∙ ap (option_map (λ (journal : Vec Attempt Global). journal.items)) found))

-- that of a worker that has no journal
pub next_past : (js : List (Vec Attempt Global)) (w : ℕ) → ((1 ≤ w) × (length js < w)) ⊎ (w < 1) → 1 ≡ next_serial (map (λ journal. journal.items) js) w
next_past js zero none = refl
next_past js (suc k) none =
    let past : length js ≤ k = ⊎_elim (λ (it : (1 ≤ suc k) × (length js < suc k)). omega (arith, it.1)) (λ (it : suc k < 1). absurd (omega (arith, it))) none in
    sym (ap (λ (o : Option (List Attempt)). attempts_of o + 1) (slice_get-map (λ (journal : Vec Attempt Global). journal.items) js k
    ∙ ap (option_map (λ (journal : Vec Attempt Global). journal.items)) (slice_get_past js k past)))
