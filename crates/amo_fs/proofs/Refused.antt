-- The first option that is found to be refused is the first that is refused.
use Rattle.std.proofs.Common.{◌≡◌, ◌⊎◌, inl, inr, ⊎_elim, ℕ, Bool, true, false, cond, List, ◌∷◌, ◌++◌, Option, Some, None, refl, sym, ap, subst, ◌∙◌}
use Rattle.std.specs.Prelude.{◌||◌, codes}
use Rattle.std.specs.Str.{bytes_eq}
use Rattle.std.proofs.lemmas.Bool.{or_cases}
use Rattle.std.proofs.lemmas.Slice.Eq.{bytes_eq-Decides}
use Rattle.amo_fs.specs.Mounts.{MountView}
use Rattle.amo_fs.specs.Options.{is_refused, first_refused, all_options, refused_option, refused_default, Refused, NoneRefused, IsFirstRefused}
use Rattle.amo_fs.specs.Parts.{lines_of, options_of}
use Rattle.amo_fs.proofs.First.{none_some, some_is, IsFirst, is_first, none_is, of_both, each}

or_first : (a b : Bool) → a ≡ true → (a || b) ≡ true
or_first a b h = ap (λ x. x || b) h

or_second : (a b : Bool) → b ≡ true → (a || b) ≡ true
or_second true b h = refl
or_second false b h = h

same : (xs ys : List ℕ) → bytes_eq xs ys ≡ true → xs ≡ ys
same xs ys t = (bytes_eq-Decides xs ys).0 t

equal : (xs ys : List ℕ) → xs ≡ ys → bytes_eq xs ys ≡ true
equal xs ys is = (bytes_eq-Decides xs ys).1 is

was_refused : (option : List ℕ) → is_refused option ≡ true → Refused option
was_refused option t =
    ⊎_elim
    (λ (one : (bytes_eq option (codes "nobarrier") || bytes_eq option (codes "barrier=0")) ≡ true).
    ⊎_elim (λ (x : bytes_eq option (codes "nobarrier") ≡ true). inl (same option (codes "nobarrier") x)) (λ (y : bytes_eq option (codes "barrier=0") ≡ true). inr (inl (same option (codes "barrier=0") y)))
    (or_cases (bytes_eq option (codes "nobarrier")) (bytes_eq option (codes "barrier=0")) one))
    (λ (z : bytes_eq option (codes "data=writeback") ≡ true). inr (inr (same option (codes "data=writeback") z)))
    (or_cases (bytes_eq option (codes "nobarrier") || bytes_eq option (codes "barrier=0")) (bytes_eq option (codes "data=writeback")) t)

refused_is : (option : List ℕ) → Refused option → is_refused option ≡ true
refused_is option h =
    let a = bytes_eq option (codes "nobarrier") in
    let b = bytes_eq option (codes "barrier=0") in
    let c = bytes_eq option (codes "data=writeback") in
    ⊎_elim
    (λ (x : option ≡ codes "nobarrier"). or_first (a || b) c (or_first a b (equal option (codes "nobarrier") x)))
    (λ (other : (option ≡ codes "barrier=0") ⊎ (option ≡ codes "data=writeback")).
    ⊎_elim (λ (y : option ≡ codes "barrier=0"). or_first (a || b) c (or_second a b (equal option (codes "barrier=0") y))) (λ (z : option ≡ codes "data=writeback"). or_second (a || b) c (equal option (codes "data=writeback") z)) other)
    h

abbrev read : List ℕ → Option (List ℕ)
read option = cond (is_refused option) (Some option) None

was_read : (option found : List ℕ) → read option ≡ Some found → (option ≡ found) × Refused option
was_read option found h = by_test (is_refused option) refl h
  where
    by_test : (b : Bool) → is_refused option ≡ b → cond b (Some option) None ≡ Some found → (option ≡ found) × Refused option
    by_test false t e = absurd (none_some e)
    by_test true t e = (some_is e, was_refused option t)

not_read : (option : List ℕ) → read option ≡ None → Refused option → ⊥
not_read option none refused = none_some (sym none ∙ ap (λ b. cond b (Some option) None) (refused_is option refused))

first_is : (options : List (List ℕ)) (option : List ℕ) → first_refused options ≡ Some option → IsFirstRefused options option
first_is options option h =
    let f : IsFirst (List ℕ) (List ℕ) read options option = is_first (List ℕ) (List ℕ) read options option h in
    let (is, refused) = was_read f.part option f.is in
    record {
      before = f.before;
      behind = f.behind;
      are = f.are ∙ ap (λ o. f.before ++ o ∷ f.behind) is;
      refused = subst (λ (o : List ℕ). Refused o) is refused;
      first = each (λ o. read o ≡ None) (λ o. Refused o → ⊥) not_read f.before f.first;
    }

none_refused : (options : List (List ℕ)) → first_refused options ≡ None → NoneRefused options
none_refused options h = each (λ o. read o ≡ None) (λ o. Refused o → ⊥) not_read options (none_is (List ℕ) (List ℕ) read options h)

both : (m : MountView) → first_refused (all_options m) ≡ refused_option m
both m = of_both (List ℕ) (List ℕ) read (options_of m.options) (options_of m.super_options)

pub option_is : (m : MountView) (option : List ℕ) → refused_option m ≡ Some option → IsFirstRefused (all_options m) option
option_is m option h = first_is (all_options m) option (both m ∙ h)

pub no_option_is : (m : MountView) → refused_option m ≡ None → NoneRefused (all_options m)
no_option_is m h = none_refused (all_options m) (both m ∙ h)

pub default_is : (text option : List ℕ) → refused_default text ≡ Some option → IsFirstRefused (lines_of text) option
default_is text option h = first_is (lines_of text) option h

pub no_default_is : (text : List ℕ) → refused_default text ≡ None → NoneRefused (lines_of text)
no_default_is text h = none_refused (lines_of text) h
