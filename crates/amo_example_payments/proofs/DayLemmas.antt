-- The day that lines say together, line by line.
use Rattle.std.proofs.Common.{◌≡◌, ℕ, zero, suc, ◌+◌, ◌<◌, Bool, ◌||◌, List, [], ◌∷◌, ◌++◌, length, map, get_or, take, Some, None, refl, sym, ap, ◌∙◌, append-nil, subst, arith}
use Rattle.std.specs.Prelude.{is_none, not, true}
use Rattle.std.specs.List.{flat_map, list_any}
use Rattle.std.specs.Str.Lines.{lines}
use Rattle.std.proofs.lemmas.Bool.{or_right}
use Rattle.std.proofs.lemmas.Grind.{flat_map-append}
use Rattle.std.proofs.lemmas.List.{map-append, map_push, take_more}
use Rattle.std.proofs.lemmas.List.Sums.{fold_push}
use Rattle.amo_example_payments.specs.declared.day.Day.{Day}
use Rattle.amo_example_payments.specs.declared.line.Line.{Line}
use Rattle.amo_example_payments.specs.declared.line.Line.TheVariants.{Workers, Steps, Limit, Pay}
use Rattle.amo_example_payments.specs.declared.day.payment.Payment.{Payment}
use Rattle.amo_example_payments.specs.Lines.{line_in}
use Rattle.amo_example_payments.specs.Days.{AreNumbered, has_broken_line, is_ended, IsDay, IsDayWith, crew_after, limit_after, first_crew, payments_in, paid_in}
use Rattle.amo_example_payments.proofs.Numbers.{numbered_more}

flat_push : {X A : Type 0} (f : X → List A) (xs : List X) (x : X) → flat_map f (xs ++ x ∷ []) ≡ flat_map f xs ++ f x
flat_push f xs x = flat_map-append f xs (x ∷ []) ∙ ap (λ l. flat_map f xs ++ l) (append-nil (f x))

abbrev amount : Payment → ℕ × ℕ
amount p = (p.account, p.cents)

paid_is : (n : ℕ) (line : Line) → map amount (payments_in n line) ≡ paid_in line
paid_is n (Workers k) = refl
paid_is n (Steps k) = refl
paid_is n (Limit k) = refl
paid_is n (Pay account cents) = refl

still : (xs : List Payment) → AreNumbered xs → AreNumbered (xs ++ [])
still xs h = subst AreNumbered (sym (append-nil xs)) h

numbered_with : (xs : List Payment) (line : Line) → AreNumbered xs → AreNumbered (xs ++ payments_in (length xs + 1) line)
numbered_with xs (Workers k) h = still xs h
numbered_with xs (Steps k) h = still xs h
numbered_with xs (Limit k) h = still xs h
numbered_with xs (Pay account cents) h = numbered_more xs (record { id = length xs + 1; account = account; cents = cents }) h refl

pub day_more : (said : List Line) (line : Line) (b c : Day) → IsDay said b → IsDayWith b line c → IsDay (said ++ line ∷ []) c
day_more said line b c is on = record {
  crew = on.crew ∙ ap (λ x. crew_after x line) is.crew ∙ sym (fold_push crew_after first_crew said line);
  limit = on.limit ∙ ap (λ x. limit_after x line) is.limit ∙ sym (fold_push limit_after _ said line);
  payments = ap (map amount) on.payments ∙ map-append amount b.payments.items (payments_in (length b.payments.items + 1) line) ∙ ap (λ l. map amount b.payments.items ++ l) (paid_is (length b.payments.items + 1) line)
      ∙ ap (λ l. l ++ paid_in line) is.payments ∙ sym (flat_push paid_in said line);
  numbered = subst AreNumbered (sym on.payments) (numbered_with b.payments.items line is.numbered);
}

-- one line more was read
pub said_more : {X : Type 0} (now : X → List ℕ) (xs : List X) (i : ℕ) (d : X) (said : List Line) (line : Line) → i < length xs → line_in (now (get_or xs i d)) ≡ Some line
    → map line_in (map now (take i xs)) ≡ map (λ l. Some l) said → map line_in (map now (take (i + 1) xs)) ≡ map (λ l. Some l) (said ++ line ∷ [])
said_more now xs i d said line within reads before =
    ap (λ l. map line_in (map now l)) (take_more xs i d within) ∙ ap (map line_in) (map_push now (take i xs) (get_or xs i d)) ∙ map_push line_in (map now (take i xs)) (now (get_or xs i d))
    ∙ ap (λ l. l ++ line_in (now (get_or xs i d)) ∷ []) before ∙ ap (λ o. map (λ (l : Line). Some l) said ++ o ∷ []) reads
    ∙ sym (map_push (λ (l : Line). Some l) said line)

any_at : {X : Type 0} (now : X → List ℕ) (p : List ℕ → Bool) (xs : List X) (i : ℕ) (d : X) → i < length xs → p (now (get_or xs i d)) ≡ true → list_any p (map now xs) ≡ true
any_at now p [] i d within h = absurd (omega (arith, within))
any_at now p (y ∷ ys) zero d within h = ap (λ b. b || list_any p (map now ys)) h
any_at now p (y ∷ ys) (suc i) d within h = or_right (p (now y)) (list_any p (map now ys)) (any_at now p ys i d (omega (arith, within)) h)

-- a line is invalid
pub broken : {X : Type 0} (now : X → List ℕ) (xs : List X) (i : ℕ) (d : X) (text : List ℕ) → map now xs ≡ lines text → i < length xs → line_in (now (get_or xs i d)) ≡ None
    → has_broken_line text ≡ true
broken now xs i d text all within none =
    ap (λ b. b || not (is_ended text)) (ap (list_any (λ l. is_none (line_in l))) (sym all) ∙ any_at now (λ l. is_none (line_in l)) xs i d within (ap is_none none))
