-- One line more of a history.
use Rattle.std.proofs.Common.{◌≡◌, ℕ, ◌+◌, ◌<◌, ◌≤◌, List, [], ◌∷◌, length, map, drop, drop-cons, get_or, Bor, Option, None, Result, Ok, Err, refl, sym, ap, ◌∙◌, arith, add-one, length-append}
use Rattle.amo_kk.specs.declared.event.Event.{Event}
use Rattle.amo_params.specs.declared.givens.Givens.{Givens}
use Rattle.amo_kk.specs.declared.model.Object.{Object}
use Rattle.amo_kk.specs.Run.{IsFirstBad}
use Rattle.amo_judge.specs.History.{HistoryView, event_in, with_event, with_line, on_line, with_lines}
use Rattle.amo_judge.specs.Lines.{words_of}
use Rattle.amo_judge.specs.Results.{next, found_or}
use Rattle.amo_judge.specs.declared.refusal.Wrong.{Wrong}

abbrev many_in : ℕ → Result HistoryView Wrong → ℕ
many_in other (Ok h) = length h.events
many_in other (Err w) = other

-- what is wrong, or this history
abbrev or_history : HistoryView → Option Wrong → Result HistoryView Wrong
or_history new o = found_or o (λ w. Err w) (Ok new)

-- a line without a fault is taken
pub is_taken : (h new : HistoryView) (o : Option Wrong) (line : List ℕ) → o ≡ None → with_line h line ≡ or_history new o → with_line h line ≡ Ok new
is_taken h new o line none e = e ∙ ap (or_history new) none

-- and has one event
pub one_event : (h new : HistoryView) (line : List ℕ) → with_line h line ≡ Ok new → length new.events ≡ length h.events + 1
one_event h new line e = sym (ap (many_in (length h.events + 1)) e) ∙ go (event_in h (words_of line))
  where
    go : (r : Result Event Wrong) → many_in (length h.events + 1) (next r (λ event. Ok (with_event h (words_of line) event))) ≡ length h.events + 1
    go (Ok event) = length-append h.events (event ∷ [])
    go (Err w) = refl

-- the lines from this one on are it and the others
pub one_line : (h new : HistoryView) (lines : List (Bor (List ℕ))) (i : ℕ) (d : Bor (List ℕ)) → i < length lines → with_line h (get_or lines i d).now ≡ Ok new
    → with_lines h (map (λ line. line.now) (drop i lines)) ≡ with_lines new (map (λ line. line.now) (drop (i + 1) lines))
one_line h new lines i d lt e =
    ap (λ (ls : List (Bor (List ℕ))). with_lines h (map (λ line. line.now) ls)) (drop-cons lines i d lt)
    ∙ ap (λ (n : ℕ). with_lines h (map (λ line. line.now) (get_or lines i d ∷ drop n lines))) (sym (add-one i))
    ∙ ap (λ (r : Result HistoryView Wrong). next (on_line (length h.events + 2) r) (λ more. with_lines more (map (λ line. line.now) (drop (i + 1) lines)))) e

-- the first event that is no step is one of the events
pub bad_within : (g : Givens) (s : Object) (es : List Event) (i : ℕ) → IsFirstBad g s es i → (1 ≤ i) × (i ≤ length es)
bad_within g s es i b = let size : length es ≡ length b.before + (length b.rest + 1) = ap length b.parts ∙ length-append b.before (b.bad ∷ b.rest) ∙ ap (λ n. length b.before + n) (sym (add-one (length b.rest))) in (omega (arith, b.place), omega (arith, b.place, size))
