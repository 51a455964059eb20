-- The entries of a file that are kept, and those that are read, after a put, a settling and a stop.
use Rattle.std.specs.Prelude.{if◌then◌else◌}
use Rattle.std.proofs.Common.{◌≡◌, Bool, true, false, ℕ, List, [], ◌∷◌, ◌++◌, take, refl, sym, ap, ◌∙◌, subst, append_assoc, append-nil}
use Rattle.amo_run_safety.specs.File.{File, read_of, settled, behind, with_unheard, after_put, after_stop}

-- new is old and then more
abbrev pub Grows : {A : Type 0} → List A → List A → Type 0
Grows {A} old new = (more : List A) × (new ≡ old ++ more)

pub grows_none : {A : Type 0} (xs : List A) → Grows xs xs
grows_none xs = ([], sym (append-nil xs))

put_grows : {A : Type 0} (kept loose more : List A) → Grows kept (behind kept loose more).kept
put_grows kept [] more = (more, refl)
put_grows kept (x ∷ loose) more = ([], sym (append-nil kept))

-- what is kept stays
pub after_grows : {A : Type 0} (failed : Bool) (f : File A) (more : List A) → Grows f.kept (after_put failed f more).kept
after_grows true f more = grows_none f.kept
after_grows false f more = put_grows f.kept f.loose more

-- the entries that are read, and then those that aren't, but that a stop may leave
abbrev pub all_of : {A : Type 0} → File A → List A
all_of f = f.kept ++ f.loose ++ f.hidden

put_all : {A : Type 0} (kept loose more : List A) → all_of (behind kept loose more) ≡ kept ++ loose ++ more
put_all kept [] more = append-nil (kept ++ more ++ []) ∙ append-nil (kept ++ more) ∙ ap (λ l. l ++ more) (sym (append-nil kept))
put_all kept (x ∷ loose) more = append-nil (kept ++ (x ∷ loose ++ more)) ∙ sym (append_assoc kept (x ∷ loose) more)

pub after_all : {A : Type 0} (failed : Bool) (f : File A) (more : List A) → all_of (after_put failed f more) ≡ read_of f ++ more
after_all true f more = refl
after_all false f more = put_all f.kept f.loose more

pub unheard_all : {A : Type 0} (f : File A) (more : List A) → all_of (with_unheard f more) ≡ read_of f ++ more
unheard_all f more = append-nil (f.kept ++ (f.loose ++ more)) ∙ sym (append_assoc f.kept f.loose more)

pub read_settled : {A : Type 0} (f : File A) → read_of (settled f) ≡ read_of f
read_settled f = append-nil (f.kept ++ f.loose)

pub stopped_all : {A : Type 0} (n : ℕ) (f : File A) → all_of (after_stop n f) ≡ f.kept ++ take n (f.loose ++ f.hidden)
stopped_all n f = append-nil (f.kept ++ take n (f.loose ++ f.hidden) ++ []) ∙ append-nil (f.kept ++ take n (f.loose ++ f.hidden))

-- if nothing is loose, what is put is kept

pub after_tight : {A : Type 0} (failed : Bool) (f : File A) (more : List A) → f.loose ≡ [] → (after_put failed f more).loose ≡ []
after_tight true f more e = e
after_tight false f more e = subst (λ l. (behind f.kept l more).loose ≡ []) (sym e) refl

pub after_kept : {A : Type 0} (failed : Bool) (f : File A) (more : List A) → f.loose ≡ [] → (after_put failed f more).kept ≡ f.kept ++ (if failed then [] else more)
after_kept true f more e = sym (append-nil f.kept)
after_kept false f more e = subst (λ l. (behind f.kept l more).kept ≡ f.kept ++ more) (sym e) refl
