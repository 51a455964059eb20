-- The set of the lines before another.
use Rattle.std.proofs.Common.{◌≡◌, ℕ, Bool, true, false, cond, ◌||◌, List, [], ◌∷◌, ◌++◌, Bor, BTreeSet, Ordering, Option, Some, None, Result, Ok, Err, is_ok, is_eq, nat_cmp, MatchResult, IsUtf8, refl, sym, ap, ◌∙◌}
use Rattle.std.specs.BTreeSet.{contains, Updates, IsEmpty}
use Rattle.std.specs.Cmp.Lexicographic.{slice_cmp}
use Rattle.std.specs.List.{list_any}
use Rattle.std.specs.Option.{option_or}
use Rattle.std.specs.Str.{bytes_eq, is_utf8}
use Rattle.std.proofs.lemmas.Bool.{false_from_ne_true}
use Rattle.std.proofs.lemmas.Bool.Decides.{same_from_decides, Decides-like}
use Rattle.std.proofs.lemmas.List.Folds.{list_any-append}
use Rattle.std.proofs.lemmas.Map.Text.{is_eq-slice_cmp}
use Rattle.std.proofs.lemmas.Slice.Eq.{bytes_eq-Decides}
use Rattle.std.proofs.lemmas.Str.{IsUtf8-from_is_utf8, is_utf8-from_IsUtf8}
use Rattle.amo_run_files.specs.declared.fault.Why.{Why}
use Rattle.amo_run_files.specs.declared.fault.Why.TheVariants.{Repeated}
use Rattle.amo_run_files.specs.Known.{HasJust}
use Rattle.amo_run_files.specs.Refusals.{wrong_with, why_not}

-- whether bytes are text

pub text_is : {T E : Type 0} (bytes : List ℕ) (r : Result T E) {P : T → Type 0} {Q : E → Type 0} → ((x : T) → P x → IsUtf8 bytes) → ((e : E) → Q e → ¬ (IsUtf8 bytes)) → MatchResult r P Q → is_ok r ≡ is_utf8 bytes
text_is bytes (Ok x) text none h = sym (is_utf8-from_IsUtf8 bytes (text x h))
text_is bytes (Err e) text none h = sym (false_from_ne_true (is_utf8 bytes) (λ t. none e h (IsUtf8-from_is_utf8 bytes t)))

-- the set

abbrev pub line_cmp : Bor (List ℕ) → Bor (List ℕ) → Ordering
line_cmp x y = slice_cmp nat_cmp x.now y.now

by_bytes : (line : List ℕ) (ks : List (Bor (List ℕ))) → list_any (λ (k : Bor (List ℕ)). is_eq (slice_cmp nat_cmp line k.now)) ks ≡ list_any (λ (k : Bor (List ℕ)). bytes_eq line k.now) ks
by_bytes line [] = refl
by_bytes line (k ∷ ks) =
    ap (λ (t : Bool). t || list_any (λ (q : Bor (List ℕ)). is_eq (slice_cmp nat_cmp line q.now)) ks) (is_eq-slice_cmp line k.now) ∙ ap (λ (t : Bool). bytes_eq line k.now || t) (by_bytes line ks)

pub contained : (known : BTreeSet (Bor (List ℕ))) (line : Bor (List ℕ)) (before : List (List ℕ)) → HasJust known before → contains line_cmp known line ≡ list_any (bytes_eq line.now) before
contained known line before has = by_bytes line.now known.keys ∙ has line.now

pub none_known : (known : BTreeSet (Bor (List ℕ))) → IsEmpty known → HasJust known []
none_known known empty line = ap (list_any (λ (k : Bor (List ℕ)). bytes_eq line k.now)) empty

bytes_eq-sym : (x y : List ℕ) → bytes_eq x y ≡ bytes_eq y x
bytes_eq-sym x y = same_from_decides (bytes_eq x y) (bytes_eq y x) (bytes_eq-Decides x y) (Decides-like (bytes_eq y x) (λ e. sym e) (λ e. sym e) (bytes_eq-Decides y x))

merged : (t a : Bool) → cond t true a ≡ (a || (t || false))
merged true true = refl
merged true false = refl
merged false true = refl
merged false false = refl

pub one_more : (old new : BTreeSet (Bor (List ℕ))) (line : Bor (List ℕ)) (before : List (List ℕ)) → HasJust old before → Updates line_cmp old new line true → HasJust new (before ++ line.now ∷ [])
one_more old new line before has updates other =
    let q : Bor (List ℕ) = record { ref_ptr = (0, 0); now = other } in
    let had = list_any (bytes_eq other) before in
    sym (by_bytes other new.keys)
    ∙ updates.0 q
    ∙ ap (λ (t : Bool). cond t true (contains line_cmp old q)) (is_eq-slice_cmp line.now other ∙ bytes_eq-sym line.now other)
    ∙ ap (λ (a : Bool). cond (bytes_eq other line.now) true a) (contained old q before has)
    ∙ merged (bytes_eq other line.now) had
    ∙ sym (list_any-append (bytes_eq other) before (line.now ∷ []))

-- why a line may not stand

abbrev if_repeated : List (List ℕ) → List ℕ → Option Why
if_repeated before line = cond (list_any (bytes_eq line) before) (Some Repeated) None

pub is_wrong : (before : List (List ℕ)) (line : List ℕ) (why : Why) → wrong_with line ≡ Some why → Some why ≡ why_not before line
is_wrong before line why h = sym (ap (λ (o : Option Why). option_or o (if_repeated before line)) h)

pub is_repeated : (before : List (List ℕ)) (line : List ℕ) → wrong_with line ≡ None → list_any (bytes_eq line) before ≡ true → Some Repeated ≡ why_not before line
is_repeated before line none there = sym (ap (λ (o : Option Why). option_or o (if_repeated before line)) none ∙ ap (λ (t : Bool). cond t (Some Repeated) None) there)

pub is_new : (before : List (List ℕ)) (line : List ℕ) → wrong_with line ≡ None → list_any (bytes_eq line) before ≡ false → None ≡ why_not before line
is_new before line none new = sym (ap (λ (o : Option Why). option_or o (if_repeated before line)) none ∙ ap (λ (t : Bool). cond t (Some Repeated) None) new)
