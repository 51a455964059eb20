-- The first part of which anything is read, and what that says of a result.
use Rattle.std.proofs.Common.{◌≡◌, List, [], ◌∷◌, ◌++◌, Option, Some, None, Result, Ok, Err, refl, sym, ap, ◌∙◌}
use Rattle.std.specs.Prelude.{IfOk, IfSome, IfNone, option_map}
use Rattle.std.specs.List.{AllByRecursion}
use Rattle.std.specs.Option.{option_or}
use Rattle.amo_fs.specs.Parts.{first_by}

pub none_some : {A : Type 0} {x : A} → None ≡ Some x → ⊥
none_some e = cc

pub some_is : {A : Type 0} {x y : A} → Some x ≡ Some y → x ≡ y
some_is e = cc

-- of one part this is read, and of none before it anything
pub record IsFirst (A B : Type 0) (read : A → Option B) (xs : List A) (b : B) : Type 0 where
  pub before : List A
  pub part : A
  pub behind : List A
  pub are : xs ≡ before ++ part ∷ behind
  pub is : read part ≡ Some b
  pub first : AllByRecursion (λ x. read x ≡ None) before

first_or_later : (A B : Type 0) (read : A → Option B) (x : A) (xs : List A) (b : B) → (first_by read xs ≡ Some b → IsFirst A B read xs b)
    → (o : Option B) → read x ≡ o → option_or o (first_by read xs) ≡ Some b → IsFirst A B read (x ∷ xs) b
first_or_later A B read x xs b later None is e =
    let r : IsFirst A B read xs b = later e in
    record { before = x ∷ r.before; part = r.part; behind = r.behind; are = ap (λ ys. x ∷ ys) r.are; is = r.is; first = (is, r.first) }
first_or_later A B read x xs b later (Some c) is e = record { before = []; part = x; behind = xs; are = refl; is = is ∙ e; first = tt }

pub is_first : (A B : Type 0) (read : A → Option B) (xs : List A) (b : B) → first_by read xs ≡ Some b → IsFirst A B read xs b
is_first A B read [] b h = absurd (none_some h)
is_first A B read (x ∷ xs) b h = first_or_later A B read x xs b (λ e. is_first A B read xs b e) (read x) refl h

neither : {B : Type 0} (one other : Option B) → option_or one other ≡ None → (one ≡ None) × (other ≡ None)
neither None other h = (refl, h)
neither (Some b) other h = absurd (none_some (sym h))

pub none_is : (A B : Type 0) (read : A → Option B) (xs : List A) → first_by read xs ≡ None → AllByRecursion (λ x. read x ≡ None) xs
none_is A B read [] h = tt
none_is A B read (x ∷ xs) h = let (one, others) = neither (read x) (first_by read xs) h in (one, none_is A B read xs others)

-- what is read of a list, and of another after it
or_or : {B : Type 0} (a b c : Option B) → option_or (option_or a b) c ≡ option_or a (option_or b c)
or_or None b c = refl
or_or (Some a) b c = refl

pub of_both : (A B : Type 0) (read : A → Option B) (xs ys : List A) → first_by read (xs ++ ys) ≡ option_or (first_by read xs) (first_by read ys)
of_both A B read [] ys = refl
of_both A B read (x ∷ xs) ys = ap (option_or (read x)) (of_both A B read xs ys) ∙ sym (or_or (read x) (first_by read xs) (first_by read ys))

pub each : {A : Type 0} (P Q : A → Type 0) → ((x : A) → P x → Q x) → (xs : List A) → AllByRecursion P xs → AllByRecursion Q xs
each P Q so [] all = tt
each P Q so (x ∷ xs) all = (so x all.0, each P Q so xs all.1)

-- ---- of a result

pub in_ok : {A E : Type 0} {P Q : A → Type 0} (r : Result A E) → IfOk r P → ((x : A) → P x → Q x) → IfOk r Q
in_ok (Ok x) h f = f x h
in_ok (Err e) h f = tt

pub if_some : {V X : Type 0} (says : V → X) (P : X → Type 0) (s : Option X) → ((x : X) → s ≡ Some x → P x) → (o : Option V) → option_map says o ≡ s → IfSome o (λ v. P (says v))
if_some says P s so None is = tt
if_some says P s so (Some v) is = so (says v) (sym is)

pub if_none : {V X : Type 0} (says : V → X) (N : Type 0) (s : Option X) → (s ≡ None → N) → (o : Option V) → option_map says o ≡ s → IfNone o N
if_none says N s so None is = so (sym is)
if_none says N s so (Some v) is = tt
