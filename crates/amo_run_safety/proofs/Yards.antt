-- Lists of what was handed over, and what an action leaves of them.
use Rattle.std.proofs.Common.{◌≡◌, ◌⊎◌, inl, inr, ⊎_elim, ℕ, Bool, true, false, ◌&&◌, List, [], ◌∷◌, ◌++◌, refl, ap, sym}
use Rattle.std.specs.Prelude.{◌==◌, if◌then◌else◌}
use Rattle.std.proofs.lemmas.Bool.{eq-eqb, and_from, or_parts, or_from, or_left, or_right, true≢false, eqb-true, and_parts, or_cases}
use Rattle.amo_run_safety.specs.Site.{Event}
use Rattle.amo_run_safety.specs.Run.{Handing, is_among, IsOneOf, names_of}
use Rattle.amo_run_safety.specs.Commands.{without, is_stop, unless_stopped}
use Rattle.amo_run_safety.proofs.Handed.{split_one}

pub names-append : (xs ys : List Handing) → names_of (xs ++ ys) ≡ names_of xs ++ names_of ys
names-append [] ys = refl
names-append (x ∷ xs) ys = ap (λ l. (x.worker, x.serial) ∷ l) (names-append xs ys)

-- what is one of two lists

pub one_left : (xs ys : List Handing) (h : Handing) → IsOneOf xs h → IsOneOf (xs ++ ys) h
one_left [] ys h one = absurd one
one_left (x ∷ xs) ys h one = ⊎_elim (λ (e : x ≡ h). inl e) (λ (o : IsOneOf xs h). inr (one_left xs ys h o)) one

pub one_right : (xs ys : List Handing) (h : Handing) → IsOneOf ys h → IsOneOf (xs ++ ys) h
one_right [] ys h one = one
one_right (x ∷ xs) ys h one = inr (one_right xs ys h one)

-- by its name
pub one_named : (hs : List Handing) (h : Handing) → IsOneOf hs h → is_among (names_of hs) h.worker h.serial ≡ true
one_named [] h one = absurd one
one_named (x ∷ hs) h one = ⊎_elim
    (λ (e : x ≡ h). or_left ((x.worker == h.worker) && (x.serial == h.serial)) (is_among (names_of hs) h.worker h.serial)
    (and_from (x.worker == h.worker) (x.serial == h.serial) (eq-eqb x.worker h.worker (ap (λ (k : Handing). k.worker) e)) (eq-eqb x.serial h.serial (ap (λ (k : Handing). k.serial) e))))
    (λ (o : IsOneOf hs h). or_right ((x.worker == h.worker) && (x.serial == h.serial)) (is_among (names_of hs) h.worker h.serial) (one_named hs h o))
    one

-- and the other way
pub record IsNamed (hs : List Handing) (p n : ℕ) : Type 0 where
  pub it : Handing
  pub one : IsOneOf hs it
  pub worker : p ≡ it.worker
  pub serial : n ≡ it.serial

pub named_one : (hs : List Handing) (p n : ℕ) → is_among (names_of hs) p n ≡ true → IsNamed hs p n
named_one [] p n h = absurd (true≢false (sym h))
named_one (x ∷ hs) p n h = ⊎_elim
    (λ (here : ((x.worker == p) && (x.serial == n)) ≡ true).
    let parts = and_parts (x.worker == p) (x.serial == n) here in
    record { it = x; one = inl refl; worker = sym (eqb-true x.worker p parts.0); serial = sym (eqb-true x.serial n parts.1) })
    (λ (there : is_among (names_of hs) p n ≡ true). let at = named_one hs p n there in record { it = at.it; one = inr at.one; worker = at.worker; serial = at.serial })
    (or_cases ((x.worker == p) && (x.serial == n)) (is_among (names_of hs) p n) h)

-- without one name

pub without_some : (h : Handing) (hs : List Handing) (k : Handing) → IsOneOf (without h hs) k → IsOneOf hs k
without_some h [] k one = absurd one
without_some h (x ∷ hs) k one = by ((x.worker == h.worker) && (x.serial == h.serial)) one (without_some h hs k)
  where
    by : (b : Bool) → IsOneOf (if b then without h hs else x ∷ without h hs) k → (IsOneOf (without h hs) k → IsOneOf hs k) → IsOneOf (x ∷ hs) k
    by true one rest = inr (rest one)
    by false one rest = ⊎_elim (λ (e : x ≡ k). inl e) (λ (o : IsOneOf (without h hs) k). inr (rest o)) one

pub without_less : (h : Handing) (hs : List Handing) (p n : ℕ) → is_among (names_of hs) p n ≡ false → is_among (names_of (without h hs)) p n ≡ false
without_less h [] p n none = refl
without_less h (x ∷ hs) p n none =
    let parts = or_parts ((x.worker == p) && (x.serial == n)) (is_among (names_of hs) p n) none in
    by ((x.worker == h.worker) && (x.serial == h.serial)) parts.0 (without_less h hs p n parts.1)
  where
    by : (b : Bool) → ((x.worker == p) && (x.serial == n)) ≡ false → is_among (names_of (without h hs)) p n ≡ false
        → is_among (names_of (if b then without h hs else x ∷ without h hs)) p n ≡ false
    by true first rest = rest
    by false first rest = or_from ((x.worker == p) && (x.serial == n)) (is_among (names_of (without h hs)) p n) first rest

pub without_it : (h : Handing) (hs : List Handing) → is_among (names_of (without h hs)) h.worker h.serial ≡ false
without_it h [] = refl
without_it h (x ∷ hs) = by ((x.worker == h.worker) && (x.serial == h.serial)) refl (without_it h hs)
  where
    by : (b : Bool) → ((x.worker == h.worker) && (x.serial == h.serial)) ≡ b → is_among (names_of (without h hs)) h.worker h.serial ≡ false
        → is_among (names_of (if b then without h hs else x ∷ without h hs)) h.worker h.serial ≡ false
    by true e rest = rest
    by false e rest = or_from ((x.worker == h.worker) && (x.serial == h.serial)) (is_among (names_of (without h hs)) h.worker h.serial) e rest

-- if the machine may have stopped

pub still_one : (e : Event) (hs : List Handing) (h : Handing) → IsOneOf (unless_stopped e hs) h → (is_stop e ≡ false) × IsOneOf hs h
still_one e hs h one = by (is_stop e) refl one
  where
    by : (b : Bool) → is_stop e ≡ b → IsOneOf (if b then [] else hs) h → (is_stop e ≡ false) × IsOneOf hs h
    by true is one = absurd one
    by false is one = (is, one)

pub still_none : (e : Event) (hs : List Handing) (p n : ℕ) → is_among (names_of hs) p n ≡ false → is_among (names_of (unless_stopped e hs)) p n ≡ false
still_none e hs p n none = by (is_stop e)
  where
    by : (b : Bool) → is_among (names_of (if b then [] else hs)) p n ≡ false
    by true = refl
    by false = none

-- what stands in waiting and running once an event has happened
pub still_open : (e : Event) (waiting now running : List Handing) (h : Handing) → IsOneOf (unless_stopped e (waiting ++ now) ++ unless_stopped e running) h
    → (is_stop e ≡ false) × (IsOneOf (waiting ++ running) h ⊎ IsOneOf now h)
still_open e waiting now running h one = ⊎_elim
    (λ (a : IsOneOf (unless_stopped e (waiting ++ now)) h).
    let it = still_one e (waiting ++ now) h a in
    (it.0, ⊎_elim (λ (b : IsOneOf waiting h). inl (one_left waiting running h b)) (λ (b : IsOneOf now h). inr b) (split_one waiting now h it.1)))
    (λ (a : IsOneOf (unless_stopped e running) h). let it = still_one e running h a in (it.0, inl (one_right waiting running h it.1)))
    (split_one (unless_stopped e (waiting ++ now)) (unless_stopped e running) h one)
