-- A line is read as the mount that it describes, and a text of a handle as the id that it has.
use Rattle.std.proofs.Common.{◌≡◌, ◌≢◌, ℕ, ◌≤◌, Bool, true, false, cond, List, [], ◌∷◌, ◌++◌, length, take, drop, Option, Some, None, refl, sym, ap, subst, ◌∙◌, arith}
use Rattle.std.specs.Prelude.{◌==◌, ◌&&◌, nat_le, codes}
use Rattle.std.specs.List.{AllByRecursion}
use Rattle.std.specs.Str.{bytes_eq}
use Rattle.std.proofs.lemmas.Bool.{and_from, and_parts, both_ways}
use Rattle.std.proofs.lemmas.Bool.Decides.{nat_tests}
use Rattle.std.proofs.lemmas.List.{take-append-drop, take_at, drop_at, length-append}
use Rattle.std.proofs.lemmas.Slice.Eq.{bytes_eq-Decides}
use Rattle.amo_fs.specs.Handles.{id_name, id_of, mnt_id_in, IsIdIn, NoIdIn}
use Rattle.amo_fs.specs.Mounts.{MountView, view, behind_dash, mount_by, mount_in, mount_at, mount_of_id, Describes, IsMountOf, NoMountOf}
use Rattle.amo_fs.specs.Parts.{lines_of, fields_of}
use Rattle.amo_fs.proofs.First.{none_some, some_is, IsFirst, is_first, none_is, each}

is_equal : (a b : ℕ) → (a == b) ≡ true → a ≡ b
is_equal a b h = grind (arith, nat_tests)

same : (xs ys : List ℕ) → bytes_eq xs ys ≡ true → xs ≡ ys
same xs ys t = (bytes_eq-Decides xs ys).0 t

itself : (xs : List ℕ) → bytes_eq xs xs ≡ true
itself xs = (bytes_eq-Decides xs xs).1 refl

others : (xs ys : List ℕ) → xs ≢ ys → bytes_eq xs ys ≡ false
others xs ys other = by_test (bytes_eq xs ys) refl
  where
    by_test : (b : Bool) → bytes_eq xs ys ≡ b → bytes_eq xs ys ≡ false
    by_test true t = absurd (other (same xs ys t))
    by_test false t = t

-- ---- the lone dash

abbrev NoDash : List (List ℕ) → Type 0
NoDash fields = AllByRecursion (λ field. field ≢ codes "-") fields

behind : (further last : List (List ℕ)) → NoDash further → behind_dash (further ++ codes "-" ∷ last) ≡ last
behind [] last none = refl
behind (field ∷ further) last none =
    ap (λ b. cond b (further ++ codes "-" ∷ last) (behind_dash (further ++ codes "-" ∷ last))) (others field (codes "-") none.0) ∙ behind further last none.1

-- fields with a lone dash among them, and these after it
record IsDashed (fields : List (List ℕ)) (first : List ℕ) (last : List (List ℕ)) : Type 0 where
  pub further : List (List ℕ)
  pub no_dash : NoDash further
  pub are : fields ≡ further ++ codes "-" ∷ first ∷ last

none_behind : {X : Type 0} (x : X) (xs : List X) → [] ≡ x ∷ xs → ⊥
none_behind x xs e = cc

dashed_by : (field : List ℕ) (fields : List (List ℕ)) (first : List ℕ) (last : List (List ℕ)) → (behind_dash fields ≡ first ∷ last → IsDashed fields first last)
    → (b : Bool) → bytes_eq field (codes "-") ≡ b → cond b fields (behind_dash fields) ≡ first ∷ last → IsDashed (field ∷ fields) first last
dashed_by field fields first last later true t e = record { further = []; no_dash = tt; are = ap (λ f. f ∷ fields) (same field (codes "-") t) ∙ ap (λ fs. codes "-" ∷ fs) e }
dashed_by field fields first last later false t e =
    let d : IsDashed fields first last = later e in
    record {
      further = field ∷ d.further;
      no_dash = ((λ is. both_ways (bytes_eq field (codes "-")) t ((bytes_eq-Decides field (codes "-")).1 is)), d.no_dash);
      are = ap (λ fs. field ∷ fs) d.are;
    }

dashed : (fields : List (List ℕ)) (first : List ℕ) (last : List (List ℕ)) → behind_dash fields ≡ first ∷ last → IsDashed fields first last
dashed [] first last h = absurd (none_behind first last h)
dashed (field ∷ fields) first last h = dashed_by field fields first last (λ e. dashed fields first last e) (bytes_eq field (codes "-")) refl h

-- ---- the mount of a line

told_read : (id line : List ℕ) (m : MountView) → Describes line id m → mount_at id line ≡ Some m
told_read id line m t =
    ap (mount_in id) t.fields
    ∙ ap (λ b. cond b (mount_by m.device m.options (behind_dash (t.further ++ codes "-" ∷ m.kind ∷ t.source ∷ m.super_options ∷ []))) None) (itself id)
    ∙ ap (mount_by m.device m.options) (behind t.further (m.kind ∷ t.source ∷ m.super_options ∷ []) t.no_dash)

no_mount : (b : Bool) (m : MountView) → cond b None None ≡ Some m → ⊥
no_mount true m h = none_some h
no_mount false m h = none_some h

too_many : (k s o x : List ℕ) (last : List (List ℕ)) → (length (k ∷ s ∷ o ∷ x ∷ last) == 3) ≡ true → ⊥
too_many k s o x last t = omega (arith, is_equal (length (k ∷ s ∷ o ∷ x ∷ last)) 3 t)

told_by : (id line a b c d e f : List ℕ) (more : List (List ℕ)) (m : MountView) → fields_of line ≡ a ∷ b ∷ c ∷ d ∷ e ∷ f ∷ more → a ≡ id
    → (last : List (List ℕ)) → behind_dash more ≡ last → mount_by c f last ≡ Some m → Describes line id m
told_by id line a b c d e f more m are first [] is h = absurd (none_some h)
told_by id line a b c d e f more m are first (k ∷ []) is h = absurd (none_some h)
told_by id line a b c d e f more m are first (k ∷ s ∷ []) is h = absurd (none_some h)
told_by id line a b c d e f more m are first (k ∷ s ∷ o ∷ []) is h =
    let dash : IsDashed more k (s ∷ o ∷ []) = dashed more k (s ∷ o ∷ []) is in
    let so : view c f k o ≡ m = some_is h in
    subst (λ (n : MountView). Describes line id n) so
    (record {
      parent = b;
      root = d;
      point = e;
      further = dash.further;
      source = s;
      no_dash = dash.no_dash;
      fields = are ∙ ap (λ i. i ∷ b ∷ c ∷ d ∷ e ∷ f ∷ more) first ∙ ap (λ fs. id ∷ b ∷ c ∷ d ∷ e ∷ f ∷ fs) dash.are;
    })
told_by id line a b c d e f more m are first (k ∷ s ∷ o ∷ x ∷ last) is h = absurd (by_test (length (k ∷ s ∷ o ∷ x ∷ last) == 3) refl h)
  where
    by_test : (b : Bool) → (length (k ∷ s ∷ o ∷ x ∷ last) == 3) ≡ b → cond b (Some (view c f k o)) None ≡ Some m → ⊥
    by_test true t g = too_many k s o x last t
    by_test false t g = none_some g

told : (id line : List ℕ) (fields : List (List ℕ)) (m : MountView) → fields_of line ≡ fields → mount_in id fields ≡ Some m → Describes line id m
told id line [] m are h = absurd (no_mount (bytes_eq [] id) m h)
told id line (a ∷ []) m are h = absurd (no_mount (bytes_eq a id) m h)
told id line (a ∷ b ∷ []) m are h = absurd (no_mount (bytes_eq a id) m h)
told id line (a ∷ b ∷ c ∷ []) m are h = absurd (no_mount (bytes_eq a id) m h)
told id line (a ∷ b ∷ c ∷ d ∷ []) m are h = absurd (no_mount (bytes_eq a id) m h)
told id line (a ∷ b ∷ c ∷ d ∷ e ∷ []) m are h = absurd (no_mount (bytes_eq a id) m h)
told id line (a ∷ b ∷ c ∷ d ∷ e ∷ f ∷ more) m are h = by_test (bytes_eq a id) refl h
  where
    by_test : (t : Bool) → bytes_eq a id ≡ t → cond t (mount_by c f (behind_dash more)) None ≡ Some m → Describes line id m
    by_test false t g = absurd (none_some g)
    by_test true t g = told_by id line a b c d e f more m are (same a id t) (behind_dash more) refl g

-- ---- the mount of an id

not_both : {A : Type 0} {o : Option A} {x : A} → o ≡ None → o ≡ Some x → ⊥
not_both none some = none_some (sym none ∙ some)

untold : (id line : List ℕ) → mount_at id line ≡ None → (m : MountView) → Describes line id m → ⊥
untold id line none m t = not_both none (told_read id line m t)

pub mount_is : (text id : List ℕ) (m : MountView) → mount_of_id text id ≡ Some m → IsMountOf text id m
mount_is text id m h =
    let f : IsFirst (List ℕ) MountView (mount_at id) (lines_of text) m = is_first (List ℕ) MountView (mount_at id) (lines_of text) m h in
    record {
      before = f.before;
      line = f.part;
      behind = f.behind;
      lines = f.are;
      described = told id f.part (fields_of f.part) m refl f.is;
      first = each (λ line. mount_at id line ≡ None) (λ line. (n : MountView) → Describes line id n → ⊥) (untold id) f.before f.first;
    }

pub no_mount_is : (text id : List ℕ) → mount_of_id text id ≡ None → NoMountOf text id
no_mount_is text id h =
    each (λ line. mount_at id line ≡ None) (λ line. (n : MountView) → Describes line id n → ⊥) (untold id) (lines_of text) (none_is (List ℕ) MountView (mount_at id) (lines_of text) h)

-- ---- the id of a handle

at_least : (a b : ℕ) → a ≤ b → nat_le a b ≡ true
at_least a b h = grind (arith, nat_tests)

id_read : (id : List ℕ) → id_of (id_name ++ id) ≡ Some id
id_read id =
    ap (λ b. cond b (Some (drop 8 (id_name ++ id))) None)
    (and_from (nat_le 8 (length (id_name ++ id))) (bytes_eq (take 8 (id_name ++ id)) id_name) (at_least 8 (length (id_name ++ id)) (omega (arith, length-append id_name id)))
    ((bytes_eq-Decides (take 8 (id_name ++ id)) id_name).1 (take_at id_name id 8 refl)))
    ∙ ap (λ d. Some d) (drop_at id_name id 8 refl)

id_told : (line id : List ℕ) → id_of line ≡ Some id → line ≡ id_name ++ id
id_told line id h = by_test (nat_le 8 (length line) && bytes_eq (take 8 line) id_name) refl h
  where
    by_test : (b : Bool) → (nat_le 8 (length line) && bytes_eq (take 8 line) id_name) ≡ b → cond b (Some (drop 8 line)) None ≡ Some id → line ≡ id_name ++ id
    by_test false t e = absurd (none_some e)
    by_test true t e =
        let (long, begins) = and_parts (nat_le 8 (length line)) (bytes_eq (take 8 line) id_name) t in
        sym (take-append-drop 8 line) ∙ ap (λ f. f ++ drop 8 line) (same (take 8 line) id_name begins) ∙ ap (λ d. id_name ++ d) (some_is e)

no_id : (line : List ℕ) → id_of line ≡ None → (id : List ℕ) → line ≡ id_name ++ id → ⊥
no_id line none id is = not_both none (ap id_of is ∙ id_read id)

pub id_is : (text id : List ℕ) → mnt_id_in text ≡ Some id → IsIdIn text id
id_is text id h =
    let f : IsFirst (List ℕ) (List ℕ) id_of (lines_of text) id = is_first (List ℕ) (List ℕ) id_of (lines_of text) id h in
    record {
      before = f.before;
      behind = f.behind;
      lines = f.are ∙ ap (λ line. f.before ++ line ∷ f.behind) (id_told f.part id f.is);
      first = each (λ line. id_of line ≡ None) (λ line. (i : List ℕ) → line ≡ id_name ++ i → ⊥) no_id f.before f.first;
    }

pub no_id_is : (text : List ℕ) → mnt_id_in text ≡ None → NoIdIn text
no_id_is text h = each (λ line. id_of line ≡ None) (λ line. (i : List ℕ) → line ≡ id_name ++ i → ⊥) no_id (lines_of text) (none_is (List ℕ) (List ℕ) id_of (lines_of text) h)
