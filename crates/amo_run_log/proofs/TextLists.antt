-- Lists of texts that are all read: what is printed is read back, and what is read was printed so.
use Rattle.std.proofs.Common.{◌≡◌, ℕ, ◌+◌, ◌-◌, ◌<◌, List, [], ◌∷◌, ◌++◌, Vec, Global, map, take, length, get_or, Option, Some, None, refl, sym, ap, subst, ◌∙◌, arith}
use Rattle.std.specs.Prelude.{option_and_then, option_map}
use Rattle.std.specs.List.{AllByRecursion}
use Rattle.std.proofs.lemmas.List.{map_push, take_more, take-map, get_or-map, length-map, length-take-le}
use Rattle.amo_run_log.specs.declared.fault.Fault.TheVariants.{Refused}
use Rattle.amo_run_log.specs.Faults.{SaysNothing}
use Rattle.amo_run_log.specs.Numbers.{read_all}

and_map_some : {A : Type 0} (o : Option A) (p : Option (List A)) (ys : List A) → option_and_then (λ x. option_map (λ xs. x ∷ xs) p) o ≡ Some ys → (x : A) × (xs : List A) × (o ≡ Some x) × (p ≡ Some xs) × (x ∷ xs ≡ ys)
and_map_some None p ys h = absurd (cc)
and_map_some (Some x) None ys h = absurd (cc)
and_map_some (Some x) (Some xs) ys h = (x, xs, refl, refl, cc)

-- each list of such things is read back as itself
pub reads_back : {A : Type 0} (read : List ℕ → Option A) (text_of : A → List ℕ) (Fits : A → Type 0) → ((x : A) → Fits x → read (text_of x) ≡ Some x)
    → (xs : List A) → AllByRecursion Fits xs → read_all read (map text_of xs) ≡ Some xs
reads_back read text_of Fits reads [] fit = refl
reads_back read text_of Fits reads (x ∷ xs) fit =
    ap (λ o. option_and_then (λ y. option_map (λ ys. y ∷ ys) (read_all read (map text_of xs))) o) (reads x fit.0)
    ∙ ap (option_map (λ ys. x ∷ ys)) (reads_back read text_of Fits reads xs fit.1)

-- what is read was printed so
pub was_printed : {A : Type 0} (read : List ℕ → Option A) (text_of : A → List ℕ) (Fits : A → Type 0) → ((text : List ℕ) (x : A) → read text ≡ Some x → (text_of x ≡ text) × Fits x)
    → (texts : List (List ℕ)) (xs : List A) → read_all read texts ≡ Some xs → (map text_of xs ≡ texts) × AllByRecursion Fits xs
was_printed {A} read text_of Fits printed [] xs h = let none : [] ≡ xs = cc in subst (λ (ys : List A). (map text_of ys ≡ []) × AllByRecursion Fits ys) none (refl, tt)
was_printed {A} read text_of Fits printed (text ∷ texts) xs h =
    let (y, ys, first, rest, is) = and_map_some (read text) (read_all read texts) xs h in
    let (y_is, y_fits) = printed text y first in
    let (ys_are, ys_fit) = was_printed read text_of Fits printed texts ys rest in
    subst (λ (zs : List A). (map text_of zs ≡ text ∷ texts) × AllByRecursion Fits zs) is (ap (λ t. t ∷ map text_of ys) y_is ∙ ap (λ ts. text ∷ ts) ys_are, (y_fits, ys_fit))

-- one text more is one thing more
pub one_more : {A : Type 0} (read : List ℕ → Option A) (texts : List (List ℕ)) (xs : List A) (text : List ℕ) (x : A) → read_all read texts ≡ Some xs → read text ≡ Some x → read_all read (texts ++ text ∷ []) ≡ Some (xs ++ x ∷ [])
one_more read [] xs text x h is =
    let none : [] ≡ xs = cc in
    ap (λ o. option_and_then (λ y. option_map (λ ys. y ∷ ys) (Some [])) o) is ∙ ap (λ ys. Some (ys ++ x ∷ [])) none
one_more read (t ∷ texts) xs text x h is =
    let (y, ys, first, rest, same) = and_map_some (read t) (read_all read texts) xs h in
    ap (λ o. option_and_then (λ z. option_map (λ zs. z ∷ zs) (read_all read (texts ++ text ∷ []))) o) first
    ∙ ap (option_map (λ zs. y ∷ zs)) (one_more read texts ys text x rest is)
    ∙ ap (λ zs. Some (zs ++ x ∷ [])) same

pub length_read : {A : Type 0} (read : List ℕ → Option A) (texts : List (List ℕ)) (xs : List A) → read_all read texts ≡ Some xs → length texts ≡ length xs
length_read read [] xs h = let none : [] ≡ xs = cc in ap length none
length_read read (t ∷ texts) xs h =
    let (y, ys, first, rest, same) = and_map_some (read t) (read_all read texts) xs h in
    omega (arith, length_read read texts ys rest, ap length same)

-- texts in vectors, read one after the other

abbrev pub bytes_of : Vec ℕ Global → List ℕ
bytes_of text = text.items

-- those before this index were read, and so is the one that stands there
pub reads_on : {A : Type 0} (read : List ℕ → Option A) (texts : List (Vec ℕ Global)) (i : ℕ) (xs : List A) (text : Vec ℕ Global) (x : A) → i < length texts → text ≡ get_or texts i text
    → read_all read (map bytes_of (take i texts)) ≡ Some xs → read text.items ≡ Some x → read_all read (map bytes_of (take (i + 1) texts)) ≡ Some (xs ++ x ∷ [])
reads_on read texts i xs text x within stands so_far says =
    let next : take (i + 1) texts ≡ take i texts ++ text ∷ [] = take_more texts i text within ∙ ap (λ t. take i texts ++ t ∷ []) (sym stands) in
    let more : map bytes_of (take (i + 1) texts) ≡ map bytes_of (take i texts) ++ text.items ∷ [] = ap (map bytes_of) next ∙ map_push bytes_of (take i texts) text in
    ap (read_all read) more ∙ one_more read (map bytes_of (take i texts)) xs text.items x so_far says

some_none : {A : Type 0} {x : A} → Some x ≡ None → ⊥
some_none e = cc

-- those before this index were read, and the one that stands there says nothing: by its number it
-- is the first
pub stops_at : {A : Type 0} (read : List ℕ → Option A) (texts : List (Vec ℕ Global)) (i count : ℕ) (xs : List A) (text : Vec ℕ Global) → i < length texts → text ≡ get_or texts i text
    → read_all read (map bytes_of (take i texts)) ≡ Some xs → count ≡ length xs → read text.items ≡ None
    → SaysNothing read (map bytes_of texts) (Refused (count + 1))
stops_at read texts i count xs text within stands so_far counted silent =
    let size : length (map bytes_of (take i texts)) ≡ length xs = length_read read (map bytes_of (take i texts)) xs so_far in
    let is : count ≡ i = omega (arith, counted, size, length-map (take i texts) bytes_of, length-take-le i texts (omega (arith, within))) in
    let before : (count + 1) - 1 ≡ i = omega (arith, is) in (
      (
        omega (arith, is),
        omega (arith, is, length-map texts bytes_of, within),
        ap (λ k. read (get_or (map bytes_of texts) k [])) before ∙ ap read (get_or-map bytes_of texts i text [] within ∙ ap bytes_of (sym stands)) ∙ silent,
      ),
      λ none. some_none (sym (ap (λ k. read_all read (take k (map bytes_of texts))) before ∙ ap (read_all read) (take-map bytes_of i texts) ∙ so_far) ∙ none),
    )
