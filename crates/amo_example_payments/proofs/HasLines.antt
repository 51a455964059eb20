-- Texts that are made of lines, and a line among them.
use Rattle.std.proofs.Common.{◌≡◌, inl, inr, ℕ, ◌+◌, ◌-◌, ◌==◌, true, ◌||◌, List, [], ◌∷◌, ◌++◌, length, refl, sym, ap, ◌∙◌, arith, append_assoc, append-nil, codes}
use Rattle.std.specs.Prelude.{All, slice_index}
use Rattle.std.specs.List.{flat_map}
use Rattle.std.specs.Fmt.{decimal}
use Rattle.std.proofs.Math.Dec.{eqb-suc-zero}
use Rattle.std.proofs.lemmas.Bool.{or_right}
use Rattle.std.proofs.lemmas.List.{get_or-append-add, length-append}
use Rattle.std.proofs.lemmas.List.Elements.{All-cons, All-nil, All-weaker}
use Rattle.amo_example_payments.specs.declared.day.payment.Payment.{Payment}
use Rattle.amo_example_payments.specs.Days.{is_ended}
use Rattle.amo_example_payments.specs.Lines.{line}
use Rattle.amo_example_payments.specs.Reports.{HasLine, IsTold, lines_of}

-- ---- each line of them has its end

last_of : (front : List ℕ) (x : ℕ) (xs : List ℕ) → slice_index (front ++ x ∷ xs) (length (front ++ x ∷ xs) - 1) ≡ slice_index (x ∷ xs) (length (x ∷ xs) - 1)
last_of front x xs =
    let size = length-append front (x ∷ xs) in
    let at : length (front ++ x ∷ xs) - 1 ≡ length front + length xs = omega (arith, size) in
    let here : length xs ≡ length (x ∷ xs) - 1 = omega arith in
    ap (slice_index (front ++ x ∷ xs)) at ∙ get_or-append-add front (x ∷ xs) (length xs) 0 ∙ ap (slice_index (x ∷ xs)) here

ended_by : (front : List ℕ) (x : ℕ) (xs : List ℕ) → (slice_index (x ∷ xs) (length (x ∷ xs) - 1) == 10) ≡ true → is_ended (front ++ x ∷ xs) ≡ true
ended_by front x xs h = or_right (length (front ++ x ∷ xs) == 0) (slice_index (front ++ x ∷ xs) (length (front ++ x ∷ xs) - 1) == 10) (ap (λ c. c == 10) (last_of front x xs) ∙ h)

pub ended_line : (word : List ℕ) (id : ℕ) → is_ended (line word id) ≡ true
ended_line word id = ended_by (word ++ 32 ∷ decimal id) 10 [] refl

pub ended_append : (a b : List ℕ) → is_ended a ≡ true → is_ended b ≡ true → is_ended (a ++ b) ≡ true
ended_append a [] h k = ap is_ended (append-nil a) ∙ h
ended_append a (x ∷ xs) h k = ended_by a x xs (ap (λ b. b || (slice_index (x ∷ xs) (length (x ∷ xs) - 1) == 10)) (sym (eqb-suc-zero (length xs))) ∙ k)

pub ended_flat : {X : Type 0} (f : X → List ℕ) (xs : List X) → ((x : X) → is_ended (f x) ≡ true) → is_ended (flat_map f xs) ≡ true
ended_flat f [] h = refl
ended_flat f (x ∷ xs) h = ended_append (f x) (flat_map f xs) (h x) (ended_flat f xs h)

-- ---- a line stays where more is written before it or after it

pub line_here : (word : List ℕ) (id : ℕ) (more : List ℕ) → HasLine (line word id ++ more) word id
line_here word id more = record { before = []; after = more; ended = refl; text_is = refl }

pub line_before : (t u word : List ℕ) (id : ℕ) → HasLine t word id → HasLine (t ++ u) word id
line_before t u word id h = record {
  before = h.before;
  after = h.after ++ u;
  ended = h.ended;
  text_is = ap (λ l. l ++ u) h.text_is ∙ append_assoc h.before (line word id ++ h.after) u ∙ ap (λ l. h.before ++ l) (append_assoc (line word id) h.after u);
}

pub line_after : (t u word : List ℕ) (id : ℕ) → is_ended t ≡ true → HasLine u word id → HasLine (t ++ u) word id
line_after t u word id whole h = record {
  before = t ++ h.before;
  after = h.after;
  ended = ended_append t h.before whole h.ended;
  text_is = ap (λ l. t ++ l) h.text_is ∙ sym (append_assoc t h.before (line word id ++ h.after));
}

-- each payment of a list has its line
pub each_line : (word : List ℕ) (xs : List Payment) → All (λ p. HasLine (lines_of word xs) word p.id) xs
each_line word [] = All-nil (λ p. HasLine (lines_of word []) word p.id)
each_line word (x ∷ xs) =
    All-cons (λ p. HasLine (lines_of word (x ∷ xs)) word p.id) x xs (line_here word x.id (lines_of word xs))
    (All-weaker (λ p. HasLine (lines_of word xs) word p.id) (λ p. HasLine (lines_of word (x ∷ xs)) word p.id) (λ p h. line_after (line word x.id) (lines_of word xs) word p.id (ended_line word x.id) h) xs (each_line word xs))

-- ---- so do the lines on a payment

told_in : (t u : List ℕ) (p : Payment) → ((word : List ℕ) → HasLine t word p.id → HasLine u word p.id) → IsTold t p → IsTold u p
told_in t u p f (inl h) = inl (f (codes "before") h)
told_in t u p f (inr (inl h)) = inr (inl (f (codes "done") h))
told_in t u p f (inr (inr (inl h))) = inr (inr (inl (f (codes "doubt") h)))
told_in t u p f (inr (inr (inr h))) = inr (inr (inr (f (codes "free") h)))

pub told_before : (t u : List ℕ) (p : Payment) → IsTold t p → IsTold (t ++ u) p
told_before t u p h = told_in t (t ++ u) p (λ word k. line_before t u word p.id k) h

pub told_after : (t u : List ℕ) (p : Payment) → is_ended t ≡ true → IsTold u p → IsTold (t ++ u) p
told_after t u p whole h = told_in u (t ++ u) p (λ word k. line_after t u word p.id whole k) h
