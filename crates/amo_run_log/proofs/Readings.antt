-- Consequences if each printed text is read, and each text that is read was printed so, for any
-- type.
use Rattle.std.proofs.Common.{◌≡◌, List, ℕ, Option, Some, None, refl, sym, ap, subst, ◌∙◌}
use Rattle.std.specs.Prelude.{IfSome, IfNone}
use Rattle.std.specs.Str.{IsAscii, IsUtf8}
use Rattle.std.proofs.lemmas.Str.{IsUtf8-from_ascii}

pub none_some : {A : Type 0} {x : A} → None ≡ Some x → ⊥
none_some e = cc

pub some_is : {A : Type 0} {x y : A} → Some x ≡ Some y → x ≡ y
some_is e = cc

-- what is found was printed so
pub found_by : {A : Type 0} (say : A → List ℕ) (Fits : A → Type 0) (read : List ℕ → Option A) → ((text : List ℕ) (x : A) → read text ≡ Some x → (say x ≡ text) × Fits x)
    → (text : List ℕ) (r : Option A) → r ≡ read text → IfSome r (λ x. say x ≡ text)
found_by say Fits read printed text None is = tt
found_by say Fits read printed text (Some x) is = (printed text x (sym is)).0

-- if nothing is found, nothing was printed so
pub none_by : {A : Type 0} (say : A → List ℕ) (Fits : A → Type 0) (read : List ℕ → Option A) → ((x : A) → Fits x → read (say x) ≡ Some x)
    → (text : List ℕ) (r : Option A) → r ≡ read text → IfNone r ((x : A) → Fits x → say x ≡ text → ⊥)
none_by say Fits read reads text (Some x) is = tt
none_by say Fits read reads text None is = λ x fits printed. none_some (is ∙ ap read (sym printed) ∙ reads x fits)

-- bytes that are not UTF-8 say nothing, if each printed text is ASCII
pub no_text_by : {A : Type 0} (say : A → List ℕ) (Fits : A → Type 0) (read : List ℕ → Option A) → ((text : List ℕ) (x : A) → read text ≡ Some x → (say x ≡ text) × Fits x) → ((x : A) → Fits x → IsAscii (say x))
    → (bytes : List ℕ) → ¬ (IsUtf8 bytes) → None ≡ read bytes
no_text_by {A = A} say Fits read printed ascii bytes never = by_case (read bytes) refl
  where
    by_case : (o : Option A) → read bytes ≡ o → None ≡ o
    by_case None is = refl
    by_case (Some x) is = let p = printed bytes x is in absurd (never (IsUtf8-from_ascii bytes (subst IsAscii p.0 (ascii x p.1))))
