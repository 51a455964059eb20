-- Intents among the entries of a journal.
use Rattle.std.proofs.Common.{◌≡◌, ◌⊎◌, inl, inr, ⊎_elim, ℕ, zero, suc, ◌+◌, ◌≤◌, Bool, true, false, List, [], ◌∷◌, ◌++◌, length, Some, refl, sym, ap, ◌∙◌, subst, append_assoc, arith}
use Rattle.std.specs.List.{AllByRecursion, filter}
use Rattle.std.specs.Prelude.{cond, ◌||◌, ◌==◌}
use Rattle.std.proofs.lemmas.Bool.{true≢false, cases_eq, eqb-true}
use Rattle.amo_sets.specs.Lists.{table}
use Rattle.amo_sets.specs.Sets.{has}
use Rattle.amo_sets.proofs.Numbers.{length-table}
use Rattle.amo_run_log.specs.declared.entry.Entry.{Entry}
use Rattle.amo_run_log.specs.declared.entry.Entry.TheVariants.{Intent as IntentOf}
use Rattle.amo_run_log.specs.declared.finding.Finding.{Finding}
use Rattle.amo_run_log.specs.declared.journal.Attempt.{Attempt}
use Rattle.amo_run_log.specs.Findings.{is_undone}
use Rattle.amo_run_log.specs.Journals.{journal_of}
use Rattle.amo_run_log.specs.Open.{IsAnswer, NoneOpens, HasIntent, is_open, open_lines, numbers}
use Rattle.amo_run_log.proofs.ClosingWins.{closed_with}
use Rattle.amo_run_safety.proofs.Files.{Grows}
use Rattle.amo_run_safety.proofs.Openings.{all_right}

-- among them is an intent of this serial number and line
abbrev pub HasEntry : (n line : ℕ) → List Entry → Type 0
HasEntry n line es = (front : List Entry) × (time : ℕ) × (back : List Entry) × (es ≡ front ++ IntentOf n line time ∷ back)

pub entry_stays : (n line : ℕ) (old new : List Entry) → Grows old new → HasEntry n line old → HasEntry n line new
entry_stays n line old new grows has =
    let (more, is) = grows in
    let (front, time, back, split) = has in
    (front, time, back ++ more, is ∙ ap (λ l. l ++ more) split ∙ append_assoc front (IntentOf n line time ∷ back) more)

abbrev pub head_or : Entry → List Entry → Entry
head_or d [] = d
head_or d (x ∷ xs) = x

abbrev pub tail_of : List Entry → List Entry
tail_of [] = []
tail_of (x ∷ xs) = xs

-- one of two lists has it
pub entry_in_either : (n line : ℕ) (xs ys : List Entry) → HasEntry n line (xs ++ ys) → HasEntry n line xs ⊎ HasEntry n line ys
entry_in_either n line [] ys has = inr has
entry_in_either n line (x ∷ xs) ys ([], time, back, e) = inl ([], time, xs, ap (λ y. y ∷ xs) (ap (head_or x) e))
entry_in_either n line (x ∷ xs) ys (y ∷ front, time, back, e) = ⊎_elim
    (λ (here : HasEntry n line xs). let (before, at, after, is) = here in inl (x ∷ before, at, after, ap (λ l. x ∷ l) is))
    (λ (there : HasEntry n line ys). inr there)
    (entry_in_either n line xs ys (front, time, back, ap tail_of e))

-- an entry that only answers follow isn't an answer
pub entry_before : (n line : ℕ) (seen missed : List Entry) → AllByRecursion IsAnswer missed → (front : List Entry) (time : ℕ) (back : List Entry)
    → seen ++ missed ≡ front ++ IntentOf n line time ∷ back → HasEntry n line seen
entry_before n line [] missed answers front time back e =
    absurd ((all_right IsAnswer front (IntentOf n line time ∷ back) (subst (λ l. AllByRecursion IsAnswer l) e answers)).0)
entry_before n line (x ∷ seen) missed answers [] time back e = ([], time, seen, ap (λ y. y ∷ seen) (ap (head_or x) e))
entry_before n line (x ∷ seen) missed answers (y ∷ front) time back e =
    let (before, at, after, is) = entry_before n line seen missed answers front time back (ap tail_of e) in
    (x ∷ before, at, after, ap (λ l. x ∷ l) is)

none_behind : (n : ℕ) (front : List Entry) (x : Entry) (back : List Entry) → NoneOpens n (front ++ x ∷ back) → NoneOpens n back
none_behind n [] x back h = h.1
none_behind n (y ∷ front) x back h = none_behind n front x back h.1

-- if none of the entries opens it, its line is closed
pub stays_closed : (lines : ℕ) (findings : List Finding) (before after : List (List Attempt)) (es : List Attempt) (entries : List Entry) (n line : ℕ)
    → HasEntry n line entries → NoneOpens n entries → is_undone findings (length before + 1) n ≡ false → journal_of lines entries ≡ Some es
    → is_open findings (before ++ es ∷ after) line ≡ false
stays_closed lines findings before after es entries n line has none found is =
    let (front, time, back, split) = has in
    let intent : HasIntent n line entries = (front, time, back, split, none_behind n front (IntentOf n line time) back (subst (NoneOpens n) split none)) in
    closed_with lines findings line before after n entries intent found es is

-- the journal of worker p among those of 1..n
pub record IsAmong {X : Type 0} (f : ℕ → X) (n p : ℕ) : Type 0 where
  pub before : List X
  pub after : List X
  pub is : table n f ≡ before ++ f p ∷ after
  pub place : length before + 1 ≡ p

pub among_table : {X : Type 0} (f : ℕ → X) (n p : ℕ) → 1 ≤ p → p ≤ n → IsAmong f n p
among_table f zero p low high = absurd (omega arith)
among_table f (suc n) p low high = ⊎_elim
    (λ (e : p ≡ suc n). record {
      before = table n f;
      after = [];
      is = ap (λ k. table n f ++ f k ∷ []) (sym e);
      place = let len = length-table f n in omega arith;
    })
    (λ (m : p ≡ suc n → ⊥).
    let at = among_table f n p low (omega arith) in
    record {
      before = at.before;
      after = at.after ++ f (suc n) ∷ [];
      is = ap (λ l. l ++ f (suc n) ∷ []) at.is ∙ append_assoc at.before (f p ∷ at.after) (f (suc n) ∷ []);
      place = at.place;
    })
    (cases_eq p (suc n))

-- what a filter leaves passes its test
filtered : (t : ℕ → Bool) (xs : List ℕ) (x : ℕ) → has (filter t xs) x ≡ true → t x ≡ true
filtered t [] x h = absurd (true≢false (sym h))
filtered t (y ∷ xs) x h = by (t y) refl h (filtered t xs x)
  where
    first : (b : Bool) → (y == x) ≡ b → (b || has (filter t xs) x) ≡ true → t y ≡ true → (has (filter t xs) x ≡ true → t x ≡ true) → t x ≡ true
    first true e h passes rest = subst (λ z. t z ≡ true) (eqb-true y x e) passes
    first false e h passes rest = rest h

    by : (b : Bool) → t y ≡ b → has (cond b (y ∷ filter t xs) (filter t xs)) x ≡ true → (has (filter t xs) x ≡ true → t x ≡ true) → t x ≡ true
    by true is h rest = first (y == x) refl h is rest
    by false is h rest = rest h

pub open_there : (findings : List Finding) (journals : List (List Attempt)) (lines line : ℕ) → has (open_lines findings journals lines) line ≡ true → is_open findings journals line ≡ true
open_there findings journals lines line h = filtered (is_open findings journals) (numbers lines) line h
