-- The marks that a step of a loop over journals leaves.
use Rattle.std.proofs.Common.{◌≡◌, ℕ, ◌+◌, ◌<◌, Bool, true, false, cond, if◌then◌else◌, ◌||◌, List, [], ◌∷◌, ◌++◌, Vec, Global, Result, Ok, Err, length, get_or, drop, map, refl, sym, ap, ◌∙◌, arith}
use Rattle.std.specs.List.{filter}
use Rattle.std.specs.Prelude.{not, IfOk}
use Rattle.std.proofs.lemmas.List.{drop_more, append-nil}
use Rattle.std.proofs.lemmas.List.Elements.{filter-append}
use Rattle.std.proofs.lemmas.List.FromFn.{map-range_with_len_more}
use Rattle.amo_run_log.specs.declared.journal.Attempt.{Attempt}
use Rattle.amo_run_log.specs.declared.finding.Finding.{Finding}
use Rattle.amo_run_log.specs.Open.{closes, any_closes, closed_by, numbers}

pub or_nil : (a : Bool) → (a || false) ≡ a
or_nil true = refl
or_nil false = refl

pub or_assoc : (a b c : Bool) → ((a || b) || c) ≡ (a || (b || c))
or_assoc true b c = refl
or_assoc false b c = refl

-- one intent more
pub marked : (findings : List Finding) (worker : ℕ) (es : List Attempt) (i line : ℕ) (d : Attempt) (old new all : Bool) → i < length es
    → (old || any_closes findings worker (i + 1) (drop i es) line) ≡ all → new ≡ (old || closes findings worker (i + 1) (get_or es i d) line)
    → (new || any_closes findings worker ((i + 1) + 1) (drop (i + 1) es) line) ≡ all
marked findings worker es i line d old new all lt so_far is =
    ap (λ b. b || any_closes findings worker ((i + 1) + 1) (drop (i + 1) es) line) is
    ∙ or_assoc old (closes findings worker (i + 1) (get_or es i d) line) (any_closes findings worker ((i + 1) + 1) (drop (i + 1) es) line)
    ∙ ap (λ l. old || any_closes findings worker (i + 1) l line) (sym (drop_more es i d lt))
    ∙ so_far

-- one journal more
pub marked_by : (findings : List Finding) (journals : List (Vec Attempt Global)) (p line : ℕ) (d : Vec Attempt Global) (old new all : Bool) → p < length journals
    → (old || closed_by findings (p + 1) (map (λ (v : Vec Attempt Global). v.items) (drop p journals)) line) ≡ all → new ≡ (old || any_closes findings (p + 1) 1 (get_or journals p d).items line)
    → (new || closed_by findings ((p + 1) + 1) (map (λ (v : Vec Attempt Global). v.items) (drop (p + 1) journals)) line) ≡ all
marked_by findings journals p line d old new all lt so_far is =
    ap (λ b. b || closed_by findings ((p + 1) + 1) (map (λ (v : Vec Attempt Global). v.items) (drop (p + 1) journals)) line) is
    ∙ or_assoc old (any_closes findings (p + 1) 1 (get_or journals p d).items line) (closed_by findings ((p + 1) + 1) (map (λ (v : Vec Attempt Global). v.items) (drop (p + 1) journals)) line)
    ∙ ap (λ l. old || closed_by findings (p + 1) (map (λ (v : Vec Attempt Global). v.items) l) line) (sym (drop_more journals p d lt))
    ∙ so_far

-- one line more
pub open_more : (p : ℕ → Bool) (k : ℕ) → filter p (numbers (k + 1)) ≡ filter p (numbers k) ++ (if p (k + 1) then (k + 1) ∷ [] else [])
open_more p k =
    ap (filter p) (map-range_with_len_more (λ j. j + 1) 0 k k (omega arith)) ∙ filter-append p (numbers k) ((k + 1) ∷ []) ∙ ap (λ l. filter p (numbers k) ++ l) (by_test (p (k + 1)))
  where
    by_test : (b : Bool) → cond b ((k + 1) ∷ []) [] ≡ (if b then (k + 1) ∷ [] else [])
    by_test true = refl
    by_test false = refl

pub pushed : (p : ℕ → Bool) (k : ℕ) → not (p (k + 1)) ≡ false → filter p (numbers (k + 1)) ≡ filter p (numbers k) ++ (k + 1) ∷ []
pushed p k h = open_more p k ∙ by_test (p (k + 1)) h
  where
    by_test : (b : Bool) → not b ≡ false → filter p (numbers k) ++ (if b then (k + 1) ∷ [] else []) ≡ filter p (numbers k) ++ (k + 1) ∷ []
    by_test true h = refl
    by_test false h = absurd (cc)

pub passed_over : (p : ℕ → Bool) (k : ℕ) → not (p (k + 1)) ≡ true → filter p (numbers (k + 1)) ≡ filter p (numbers k)
passed_over p k h = open_more p k ∙ by_test (p (k + 1)) h
  where
    by_test : (b : Bool) → not b ≡ true → filter p (numbers k) ++ (if b then (k + 1) ∷ [] else []) ≡ filter p (numbers k)
    by_test true h = absurd (cc)
    by_test false h = append-nil (filter p (numbers k))

pub twice : (b : Bool) → b ≡ not (not b)
twice true = refl
twice false = refl

pub in_ok : {A E : Type 0} {P Q : A → Type 0} (r : Result A E) → IfOk r P → ((x : A) → P x → Q x) → IfOk r Q
in_ok (Ok x) p follows = follows x p
in_ok (Err e) p follows = tt
