-- The byte at a place of a list, and lists that have the same byte at each place.
use Rattle.std.proofs.Common.{◌≡◌, ◌≢◌, ℕ, zero, suc, ◌+◌, ◌<◌, ◌≤◌, List, [], ◌∷◌, ◌++◌, length, Some, None, refl, sym, ◌∙◌, ap, arith, ◌⊎◌, inl, inr, ⊎_elim, length-append}
use Rattle.std.specs.List.{slice_get}
use Rattle.std.proofs.lemmas.Bool.{cases_lt}
use Rattle.amo_journal.specs.Device.{AgreesBut, Torn}

pub same_list : (xs ys : List ℕ) → ((i : ℕ) → slice_get xs i ≡ slice_get ys i) → xs ≡ ys
same_list [] [] same = refl
same_list [] (y ∷ ys) same = let h = same 0 in absurd (cc h)
same_list (x ∷ xs) [] same = let h = same 0 in absurd (cc h)
same_list (x ∷ xs) (y ∷ ys) same = let head : x ≡ y = let h = same 0 in cc h in let rest = same_list xs ys (λ i. same (suc i)) in cc (head, rest)

-- what stands at a place within
pub get_within : (xs : List ℕ) (i : ℕ) → i < length xs → (b : ℕ) × (slice_get xs i ≡ Some b)
get_within [] i lt = absurd (omega arith)
get_within (x ∷ xs) zero lt = (x, refl)
get_within (x ∷ xs) (suc i) lt = get_within xs i (omega arith)

pub within_get : (xs : List ℕ) (i b : ℕ) → slice_get xs i ≡ Some b → i < length xs
within_get [] i b is = absurd (cc is)
within_get (x ∷ xs) zero b is = omega arith
within_get (x ∷ xs) (suc i) b is = let rest = within_get xs i b is in omega arith

-- a byte that stands on the disk as it is read stays
pub stays_of : (at n : ℕ) (read old new : List ℕ) → Torn at n read old new → (i b : ℕ) → slice_get old i ≡ Some b → slice_get read i ≡ Some b → slice_get new i ≡ Some b
stays_of at n read old new torn i b stood reads =
    let inside = within_get old i b stood in
    let longer = torn.no_shorter in
    let here = get_within new i (omega (arith, longer, inside)) in
    let same : here.0 ≡ b = ⊎_elim
    (λ (is : slice_get old i ≡ Some here.0). let both : Some here.0 ≡ Some b = sym is ∙ stood in cc both)
    (λ other. ⊎_elim
    (λ (is : slice_get read i ≡ Some here.0). let both : Some here.0 ≡ Some b = sym is ∙ reads in cc both)
    (λ (past : (length old ≤ i) × (here.0 ≡ 0)). let far = past.0 in absurd (omega (arith, far, inside)))
    other)
    (torn.each i here.0 here.1) in
    here.1 ∙ ap (λ (x : ℕ). Some x) same

-- if no place is left out
pub agrees_all : (places : ℕ → Type 0) (read file : List ℕ) → AgreesBut places read file → ((i : ℕ) → places i → ⊥) → file ≡ read
agrees_all places read file agrees none = same_list file read (λ i. agrees i (none i))

pub get-front : (xs ys : List ℕ) (i : ℕ) → i < length xs → slice_get (xs ++ ys) i ≡ slice_get xs i
get-front [] ys i lt = absurd (omega arith)
get-front (x ∷ xs) ys zero lt = refl
get-front (x ∷ xs) ys (suc i) lt = get-front xs ys i (omega arith)

pub get-seam : (xs : List ℕ) (y : ℕ) (ys : List ℕ) (i : ℕ) → i ≡ length xs → slice_get (xs ++ y ∷ ys) i ≡ Some y
get-seam [] y ys zero is = refl
get-seam [] y ys (suc i) is = absurd (omega arith)
get-seam (x ∷ xs) y ys zero is = absurd (omega arith)
get-seam (x ∷ xs) y ys (suc i) is = get-seam xs y ys i (omega arith)

pub nothing_beyond : (xs : List ℕ) (i : ℕ) → length xs ≤ i → slice_get xs i ≡ None
nothing_beyond [] i le = refl
nothing_beyond (x ∷ xs) zero le = absurd (omega arith)
nothing_beyond (x ∷ xs) (suc i) le = nothing_beyond xs i (omega arith)

pub ends_before : (xs : List ℕ) (i : ℕ) → slice_get xs i ≡ None → length xs ≤ i
ends_before [] i none = omega arith
ends_before (x ∷ xs) zero none = absurd (cc none)
ends_before (x ∷ xs) (suc i) none = let rest = ends_before xs i none in omega arith

-- lists with one front differ after it
pub differ_behind : (xs ys zs : List ℕ) (i : ℕ) → slice_get (xs ++ ys) i ≢ slice_get (xs ++ zs) i → length xs ≤ i
differ_behind xs ys zs i isnt = elim (cases_lt i (length xs)) [
  | inl lt ↦ absurd (isnt (get-front xs ys i lt ∙ sym (get-front xs zs i lt)))
  | inr le ↦ le
]

-- lists that are one but for one place differ there
pub differ_at : (xs : List ℕ) (a b : ℕ) (ys : List ℕ) (i : ℕ) → slice_get (xs ++ a ∷ ys) i ≢ slice_get (xs ++ b ∷ ys) i → i ≡ length xs
differ_at [] a b ys zero isnt = refl
differ_at [] a b ys (suc i) isnt = absurd (isnt refl)
differ_at (x ∷ xs) a b ys zero isnt = absurd (isnt refl)
differ_at (x ∷ xs) a b ys (suc i) isnt = let rest = differ_at xs a b ys i isnt in omega arith

-- lists that are equal but for one place and the bytes far after it
pub differ_at_or_behind : (xs : List ℕ) (a b : ℕ) (ys zs us : List ℕ) (i : ℕ) → slice_get (xs ++ (a ∷ ys ++ zs)) i ≢ slice_get (xs ++ (b ∷ ys ++ us)) i → (i ≡ length xs) ⊎ (length xs + (1 + length ys) ≤ i)
differ_at_or_behind [] a b ys zs us zero isnt = inl refl
differ_at_or_behind [] a b ys zs us (suc i) isnt = let far = differ_behind ys zs us i isnt in inr (omega arith)
differ_at_or_behind (x ∷ xs) a b ys zs us zero isnt = absurd (isnt refl)
differ_at_or_behind (x ∷ xs) a b ys zs us (suc i) isnt = ⊎_elim (λ is. inl (omega (arith, is))) (λ far. inr (omega (arith, far))) (differ_at_or_behind xs a b ys zs us i isnt)

-- what stands last, and what before it
pub last_splits : {A : Type 0} (xs : List A) (x : A) (n : ℕ) → length xs ≡ n + 1 → slice_get xs n ≡ Some x → (front : List A) × (xs ≡ front ++ x ∷ [])
last_splits [] x n long is = absurd (omega arith)
last_splits (y ∷ []) x zero long is = let same : y ≡ x = cc is in ([], ap (λ v. v ∷ []) same)
last_splits (y ∷ []) x (suc n) long is = absurd (omega arith)
last_splits (y ∷ z ∷ xs) x zero long is = absurd (omega arith)
last_splits (y ∷ z ∷ xs) x (suc n) long is = let rest = last_splits (z ∷ xs) x n (omega arith) is in (y ∷ rest.0, ap (λ l. y ∷ l) rest.1)

-- it does so in one way
pub same_push : {A : Type 0} (xs ys : List A) (x y : A) → xs ++ x ∷ [] ≡ ys ++ y ∷ [] → (xs ≡ ys) × (x ≡ y)
same_push [] [] x y is = let same : x ≡ y = cc is in (refl, same)
same_push [] (b ∷ ys) x y is = absurd (omega (arith, ap length is, length-append ys (y ∷ [])))
same_push (a ∷ xs) [] x y is = absurd (omega (arith, ap length is, length-append xs (x ∷ [])))
same_push (a ∷ xs) (b ∷ ys) x y is =
    let head : a ≡ b = cc is in
    let tail : xs ++ x ∷ [] ≡ ys ++ y ∷ [] = cc is in
    let rest = same_push xs ys x y tail in
    (let front : xs ≡ ys = rest.0 in cc (head, front), rest.1)
