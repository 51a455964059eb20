-- The text of an append is read as that append, and the reader reads only such texts. And the
-- entries of several appends.
use Rattle.std.proofs.Common.{◌≡◌, ℕ, Bool, true, false, cond, List, [], ◌∷◌, ◌++◌, map, Option, Some, None, refl, sym, ap, subst, ◌∙◌, append-nil, arith}
use Rattle.std.specs.Prelude.{◌==◌, option_and_then, option_map}
use Rattle.std.specs.List.{AllByRecursion, after_first, before_first}
use Rattle.std.proofs.lemmas.Bool.Decides.{nat_tests}
use Rattle.std.proofs.lemmas.Grind.{flat_map-append}
use Rattle.amo_run_log.specs.declared.append.Append.{Append}
use Rattle.amo_run_log.specs.declared.append.Append.TheVariants.{One, Two}
use Rattle.amo_run_log.specs.declared.entry.Entry.{Entry}
use Rattle.amo_run_log.specs.Entries.{text_of, text_of_append, FitsAppend, append_in, appends_in, entries_in, entries_of_append, entries_of_appends, entry_after_blank, entry_in}
use Rattle.amo_run_log.specs.Numbers.{has_byte}
use Rattle.amo_run_log.proofs.EntryBytes.{no_semicolon}
use Rattle.amo_run_log.proofs.EntryTexts.{entry_reads, entry_printed}
use Rattle.amo_run_log.proofs.Readings.{none_some, some_is}
use Rattle.amo_run_log.proofs.TextLists.{reads_back, was_printed}
use Rattle.amo_run_log.proofs.Words.{AreParts, parts, no_place, split_at, and_then_some}

pub map_some : {A B : Type 0} (f : A → B) (o : Option A) (y : B) → option_map f o ≡ Some y → (x : A) × (o ≡ Some x) × (f x ≡ y)
map_some f None y h = absurd (cc)
map_some f (Some x) y h = (x, refl, some_is h)

-- the two ways to read a text
abbrev as_two : List ℕ → List ℕ → Option Append
as_two before after = option_and_then (λ first. option_map (λ second. Two first second) (entry_after_blank after)) (entry_in before)

abbrev as_one : List ℕ → Option Append
as_one text = option_map (λ entry. One entry) (entry_in text)

-- what is printed is read
pub append_reads : (a : Append) → FitsAppend a → append_in (text_of_append a) ≡ Some a
append_reads (One e) f =
    let text = text_of e in
    ap (λ t. cond t (as_two (before_first (λ b. b == 59) text) (after_first (λ b. b == 59) text)) (as_one text)) (no_place 59 text (no_semicolon e f))
    ∙ ap (λ o. option_map (λ entry. One entry) o) (entry_reads e f)
append_reads (Two e g) f =
    let text = text_of e ++ 59 ∷ 32 ∷ text_of g in
    let w : AreParts 59 text (text_of e) (32 ∷ text_of g) = parts 59 (text_of e) (32 ∷ text_of g) (no_semicolon e f.0) in
    ap (λ t. cond t (as_two (before_first (λ b. b == 59) text) (after_first (λ b. b == 59) text)) (as_one text)) w.there
    ∙ ap (λ l. as_two l (after_first (λ b. b == 59) text)) w.first ∙ ap (λ l. as_two (text_of e) l) w.rest
    ∙ ap (λ o. option_and_then (λ first. option_map (λ second. Two first second) (entry_in (text_of g))) o) (entry_reads e f.0)
    ∙ ap (λ o. option_map (λ second. Two e second) o) (entry_reads g f.1)

-- what is read was printed so

after_blank : (text : List ℕ) (e : Entry) → entry_after_blank text ≡ Some e → (rest : List ℕ) × (text ≡ 32 ∷ rest) × (entry_in rest ≡ Some e)
after_blank [] e h = absurd (none_some h)
after_blank (b ∷ rest) e h = by_test (b == 32) refl h
  where
    is_equal : (a c : ℕ) → (a == c) ≡ true → a ≡ c
    is_equal a c h = grind (arith, nat_tests)

    by_test : (t : Bool) → (b == 32) ≡ t → cond t (entry_in rest) None ≡ Some e → (more : List ℕ) × (b ∷ rest ≡ 32 ∷ more) × (entry_in more ≡ Some e)
    by_test true is found = (rest, ap (λ c. c ∷ rest) (is_equal b 32 is), found)
    by_test false is found = absurd (none_some found)

pub append_printed : (text : List ℕ) (a : Append) → append_in text ≡ Some a → (text_of_append a ≡ text) × FitsAppend a
append_printed text a h = by_test (has_byte 59 text) refl h
  where
    before : List ℕ
    before = before_first (λ b. b == 59) text

    after : List ℕ
    after = after_first (λ b. b == 59) text

    by_test : (t : Bool) → has_byte 59 text ≡ t → cond t (as_two before after) (as_one text) ≡ Some a → (text_of_append a ≡ text) × FitsAppend a
    by_test true is found =
        let (e, is_e, more) = and_then_some _ (entry_in before) a found in
        let (g, is_g, same) = map_some _ (entry_after_blank after) a more in
        let (rest, blank, says) = after_blank after g is_g in
        let p = entry_printed before e is_e in
        let q = entry_printed rest g says in
        subst (λ (x : Append). (text_of_append x ≡ text) × FitsAppend x) same (
          ap (λ l. l ++ 59 ∷ 32 ∷ text_of g) p.0 ∙ ap (λ l. before ++ 59 ∷ 32 ∷ l) q.0 ∙ ap (λ l. before ++ 59 ∷ l) (sym blank) ∙ sym (split_at 59 text is),
          (p.1, q.1),
        )
    by_test false is found =
        let (e, is_e, same) = map_some _ (entry_in text) a found in
        subst (λ (x : Append). (text_of_append x ≡ text) × FitsAppend x) same (entry_printed text e is_e)

-- lists of appends

pub entries_read : (appends : List Append) → AllByRecursion FitsAppend appends → entries_in (map text_of_append appends) ≡ Some (entries_of_appends appends)
entries_read appends fit = ap (option_map entries_of_appends) (reads_back append_in text_of_append FitsAppend append_reads appends fit)

pub entries_printed : (texts : List (List ℕ)) (entries : List Entry) → entries_in texts ≡ Some entries → (appends : List Append) × (map text_of_append appends ≡ texts) × (entries_of_appends appends ≡ entries)
entries_printed texts entries h =
    let (appends, are, is) = map_some entries_of_appends (appends_in texts) entries h in
    (appends, (was_printed append_in text_of_append FitsAppend append_printed texts appends are).0, is)

pub same_appends : (appends others : List Append) → AllByRecursion FitsAppend appends → AllByRecursion FitsAppend others → map text_of_append appends ≡ map text_of_append others → appends ≡ others
same_appends appends others fit fits same =
    some_is (sym (reads_back append_in text_of_append FitsAppend append_reads appends fit) ∙ ap appends_in same ∙ reads_back append_in text_of_append FitsAppend append_reads others fits)

-- an append more
pub entries_more : (appends : List Append) (a : Append) → entries_of_appends (appends ++ a ∷ []) ≡ entries_of_appends appends ++ entries_of_append a
entries_more appends a = flat_map-append entries_of_append appends (a ∷ []) ∙ ap (λ l. entries_of_appends appends ++ l) (append-nil (entries_of_append a))
