-- Payments on one floor after the other.
use Rattle.std.proofs.Common.{◌≡◌, ℕ, List, [], ◌∷◌, ◌++◌, Option, refl, sym, ap, ap₂, ◌∙◌, append_assoc, append-nil}
use Rattle.std.specs.List.{flat_map}
use Rattle.std.specs.Io.KnownBytes.{Appends}
use Rattle.std.proofs.KnownBytes.{Appends-nil, Appends-trans}
use Rattle.std.proofs.lemmas.Grind.{flat_map-append}
use Rattle.std.proofs.lemmas.List.Elements.{All-nil, All-cons, All-append}
use Rattle.amo_example_payments.specs.declared.day.payment.Payment.{Payment}
use Rattle.amo_io.specs.Streams.{AppendsFront}
use Rattle.amo_example_payments.specs.Reports.{AreFloors, TellsNext, TellsPart, payments_of}
use Rattle.amo_example_payments.proofs.Fronts.{nothing, next as front_next}

module _ {X : Type 0} (Is : List Payment → X → Type 0) (free_in : X → List (ℕ × Payment)) (text_of : X → List ℕ) where
  abbrev Floors : List Payment → List Payment → List Payment → List ℕ → Type 0
  Floors payments rest free text = AreFloors Is free_in text_of payments rest free text

  pub none : (payments : List Payment) → Floors payments payments [] []
  none payments = record { floors = []; whole = refl; each = All-nil (λ (f : List Payment × X). Is f.0 f.1); free_is = refl; text_is = refl }

  pub one : (payments round rest : List Payment) (x : X) → payments ≡ round ++ rest → Is round x → Floors payments rest (payments_of (free_in x)) (text_of x)
  one payments round rest x parts is = record {
    floors = (round, x) ∷ [];
    whole = parts ∙ ap (λ l. l ++ rest) (sym (append-nil round));
    each = All-cons (λ (f : List Payment × X). Is f.0 f.1) (round, x) [] is (All-nil (λ (f : List Payment × X). Is f.0 f.1));
    free_is = sym (append-nil (payments_of (free_in x)));
    text_is = sym (append-nil (text_of x));
  }

  pub more : (a b c f h : List Payment) (t u : List ℕ) → Floors a b f t → Floors b c h u → Floors a c (f ++ h) (t ++ u)
  more a b c f h t u p q = record {
    floors = p.floors ++ q.floors;
    whole = p.whole ∙ ap (λ l. flat_map (λ (r : List Payment × X). r.0) p.floors ++ l) q.whole
        ∙ sym (append_assoc (flat_map (λ (r : List Payment × X). r.0) p.floors) (flat_map (λ (r : List Payment × X). r.0) q.floors) c)
        ∙ ap (λ l. l ++ c) (sym (flat_map-append (λ (r : List Payment × X). r.0) p.floors q.floors));
    each = All-append (λ (r : List Payment × X). Is r.0 r.1) p.floors q.floors p.each q.each;
    free_is = ap₂ (λ l k. l ++ k) p.free_is q.free_is ∙ sym (flat_map-append (λ (r : List Payment × X). payments_of (free_in r.1)) p.floors q.floors);
    text_is = ap₂ (λ l k. l ++ k) p.text_is q.text_is ∙ sym (flat_map-append (λ (r : List Payment × X). text_of r.1) p.floors q.floors);
  }

  abbrev Next : List Payment → List Payment → List Payment → List Payment → Option (List ℕ) → Option (List ℕ) → Type 0
  Next payments rest free more old new = TellsNext (AreFloors Is free_in text_of) payments rest free more old new

  abbrev Part : List Payment → Option (List ℕ) → Option (List ℕ) → Type 0
  Part payments old new = TellsPart (AreFloors Is free_in text_of) payments old new

  -- ---- written before the first floor, of one floor, and of one floor more

  pub next_none : (payments free : List Payment) (a : Option (List ℕ)) → free ≡ [] → Next payments payments [] free a a
  next_none payments free a h = ([], [], h, none payments, Appends-nil a)

  pub part_none : (payments : List Payment) (a : Option (List ℕ)) → Part payments a a
  part_none payments a = (payments, [], [], none payments, nothing a [])

  pub next_one : (payments round rest free after : List Payment) (x : X) (a b : Option (List ℕ)) → payments ≡ round ++ rest → Is round x → after ≡ free ++ payments_of (free_in x)
      → Appends a b (text_of x) → Next payments rest free after a b
  next_one payments round rest free after x a b parts is gives written = (payments_of (free_in x), text_of x, gives, one payments round rest x parts is, written)

  pub part_one : (payments round rest : List Payment) (x : X) (a b : Option (List ℕ)) → payments ≡ round ++ rest → Is round x → AppendsFront a b (text_of x) → Part payments a b
  part_one payments round rest x a b parts is front = (rest, payments_of (free_in x), text_of x, one payments round rest x parts is, front)

  pub next_more : (payments rest last free after : List Payment) (a b c : Option (List ℕ)) → Next payments rest [] free a b → Next rest last free after b c → Next payments last [] after a c
  next_more payments rest last free after a b c p q =
      (p.0 ++ q.0, p.1 ++ q.1, q.2 ∙ ap (λ l. l ++ q.0) p.2, more payments rest last p.0 q.0 p.1 q.1 p.3 q.3, Appends-trans a b c p.1 q.1 p.4 q.4)

  pub part_more : (payments rest free : List Payment) (a b c : Option (List ℕ)) → Next payments rest [] free a b → Part rest b c → Part payments a c
  part_more payments rest free a b c p q =
      (q.0, p.0 ++ q.1, p.1 ++ q.2, more payments rest q.0 p.0 q.1 p.1 q.2 p.3 q.3, front_next a b c p.1 q.2 p.4 q.4)
