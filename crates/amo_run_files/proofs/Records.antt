-- The steps of the loops that print and read a record.
use Rattle.std.proofs.Common.{◌≡◌, ◌≢◌, ℕ, ◌+◌, ◌<◌, ◌≤◌, Bool, true, false, cond, List, [], ◌∷◌, ◌++◌, length, get_or, drop, map, Option, Some, None, refl, sym, ap, ◌∙◌, arith, append_assoc}
use Rattle.std.specs.Prelude.{nat_lt, ◌&&◌, option_and_then, option_map, codes, if◌then◌else◌}
use Rattle.std.specs.Fmt.{decimal}
use Rattle.std.proofs.lemmas.Bool.Decides.{nat_tests}
use Rattle.std.proofs.lemmas.List.{drop_more}
use Rattle.amo_run_log.specs.Numbers.{read_all}
use Rattle.amo_run_log.specs.Texts.{ended}
use Rattle.amo_run_files.specs.Records.{ascends_from, texts_from, record_behind, record_of}
use Rattle.std.specs.Str.{bytes_eq}
use Rattle.amo_run_log.proofs.Words.{equal, not_equal}

-- lines that ascend

less_is : (a b : ℕ) → a < b → nat_lt a b ≡ true
less_is a b h = grind (arith, nat_tests)

less_not : (a b : ℕ) → b ≤ a → nat_lt a b ≡ false
less_not a b h = grind (arith, nat_tests)

pub ascends_on : (lines : List ℕ) (i d low : ℕ) → i < length lines → low < get_or lines i d → ascends_from low (drop i lines) ≡ ascends_from (get_or lines i d) (drop (i + 1) lines)
ascends_on lines i d low lt more =
    ap (ascends_from low) (drop_more lines i d lt) ∙ ap (λ b. b && ascends_from (get_or lines i d) (drop (i + 1) lines)) (less_is low (get_or lines i d) more)

pub ascends_not : (lines : List ℕ) (i d low : ℕ) → i < length lines → get_or lines i d ≤ low → ascends_from low (drop i lines) ≡ false
ascends_not lines i d low lt less =
    ap (ascends_from low) (drop_more lines i d lt) ∙ ap (λ b. b && ascends_from (get_or lines i d) (drop (i + 1) lines)) (less_not low (get_or lines i d) less)

-- texts that are all read

module _ {A : Type 0} (read : List ℕ → Option A) where
  abbrev behind : List A → Option (List A) → Option (List A)
  behind done o = option_map (λ (more : List A). done ++ more) o

  regroup : (done : List A) (x : A) (o : Option (List A)) → behind done (option_map (λ xs. x ∷ xs) o) ≡ behind (done ++ x ∷ []) o
  regroup done x None = refl
  regroup done x (Some xs) = ap Some (sym (append_assoc done (x ∷ []) xs))

  pub read_on : (text : List ℕ) (texts : List (List ℕ)) (done : List A) (x : A) → read text ≡ Some x → behind done (read_all read (text ∷ texts)) ≡ behind (done ++ x ∷ []) (read_all read texts)
  read_on text texts done x is = ap (λ o. behind done (option_and_then (λ y. option_map (λ ys. y ∷ ys) (read_all read texts)) o)) is ∙ regroup done x (read_all read texts)

  pub read_not : (text : List ℕ) (texts : List (List ℕ)) (done : List A) → read text ≡ None → behind done (read_all read (text ∷ texts)) ≡ None
  read_not text texts done is = ap (λ o. behind done (option_and_then (λ y. option_map (λ ys. y ∷ ys) (read_all read texts)) o)) is

-- bytes that are cut into texts

abbrev texts_behind : List (List ℕ) → Option (List (List ℕ)) → Option (List (List ℕ))
texts_behind done o = option_map (λ (more : List (List ℕ)). done ++ more) o

texts_regroup : (done : List (List ℕ)) (text : List ℕ) (o : Option (List (List ℕ))) → texts_behind done (option_map (λ ts. text ∷ ts) o) ≡ texts_behind (done ++ text ∷ []) o
texts_regroup done text None = refl
texts_regroup done text (Some ts) = ap Some (sym (append_assoc done (text ∷ []) ts))

pub cut_here : (bytes : List ℕ) (i d : ℕ) (done : List (List ℕ)) (begun : List ℕ) → i < length bytes → get_or bytes i d ≡ 10
    → texts_behind (done ++ begun ∷ []) (texts_from (drop (i + 1) bytes) []) ≡ texts_behind done (texts_from (drop i bytes) begun)
cut_here bytes i d done begun lt is =
    sym (ap (λ bs. texts_behind done (texts_from bs begun)) (drop_more bytes i d lt)
    ∙ ap (λ (t : Bool). texts_behind done (cond t (option_map (λ ts. begun ∷ ts) (texts_from (drop (i + 1) bytes) [])) (texts_from (drop (i + 1) bytes) (begun ++ get_or bytes i d ∷ [])))) (equal (get_or bytes i d) 10 is)
    ∙ texts_regroup done begun (texts_from (drop (i + 1) bytes) []))

pub goes_on : (bytes : List ℕ) (i d : ℕ) (done : List (List ℕ)) (begun : List ℕ) → i < length bytes → get_or bytes i d ≢ 10
    → texts_behind done (texts_from (drop (i + 1) bytes) (begun ++ get_or bytes i d ∷ [])) ≡ texts_behind done (texts_from (drop i bytes) begun)
goes_on bytes i d done begun lt isnt =
    sym (ap (λ bs. texts_behind done (texts_from bs begun)) (drop_more bytes i d lt)
    ∙ ap (λ (t : Bool). texts_behind done (cond t (option_map (λ ts. begun ∷ ts) (texts_from (drop (i + 1) bytes) [])) (texts_from (drop (i + 1) bytes) (begun ++ get_or bytes i d ∷ [])))) (not_equal (get_or bytes i d) 10 isnt))

-- lines that are printed

pub prints_on : (lines : List ℕ) (i d : ℕ) (text : List ℕ) → i < length lines
    → (text ++ (decimal (get_or lines i d) ++ 10 ∷ [])) ++ ended (map (λ line. decimal line) (drop (i + 1) lines)) ≡ text ++ ended (map (λ line. decimal line) (drop i lines))
prints_on lines i d text lt =
    append_assoc text (decimal (get_or lines i d) ++ 10 ∷ []) (ended (map (λ line. decimal line) (drop (i + 1) lines)))
    ∙ ap (λ x. text ++ x) (append_assoc (decimal (get_or lines i d)) (10 ∷ []) (ended (map (λ line. decimal line) (drop (i + 1) lines)))
    ∙ ap (λ ls. ended (map (λ line. decimal line) ls)) (sym (drop_more lines i d lt)))

-- texts that say a record

pub too_few : (texts : List (List ℕ)) → length texts < 5 → record_of texts ≡ None
too_few [] few = refl
too_few (a ∷ []) few = refl
too_few (a ∷ b ∷ []) few = refl
too_few (a ∷ b ∷ c ∷ []) few = refl
too_few (a ∷ b ∷ c ∷ d ∷ []) few = refl
too_few (a ∷ b ∷ c ∷ d ∷ e ∷ texts) few = absurd (omega arith)

pub behind_five : (texts : List (List ℕ)) → 5 ≤ length texts → record_of texts
    ≡ (if bytes_eq (get_or texts 0 []) (codes "amo-run 2") then record_behind (get_or texts 1 []) (get_or texts 2 []) (get_or texts 3 []) (get_or texts 4 []) (drop 5 texts) else None)
behind_five [] many = absurd (omega arith)
behind_five (a ∷ []) many = absurd (omega arith)
behind_five (a ∷ b ∷ []) many = absurd (omega arith)
behind_five (a ∷ b ∷ c ∷ []) many = absurd (omega arith)
behind_five (a ∷ b ∷ c ∷ d ∷ []) many = absurd (omega arith)
behind_five (a ∷ b ∷ c ∷ d ∷ e ∷ texts) many = refl

pub same_record : (texts : List (List ℕ)) (round boot givens workers : List ℕ) (lines : List (List ℕ)) → 5 ≤ length texts → bytes_eq (get_or texts 0 []) (codes "amo-run 2") ≡ true
    → round ≡ get_or texts 1 [] → boot ≡ get_or texts 2 [] → givens ≡ get_or texts 3 [] → workers ≡ get_or texts 4 [] → lines ≡ drop 5 texts
    → record_behind round boot givens workers lines ≡ record_of texts
same_record texts round boot givens workers lines many version r b g w ls =
    ap (λ x. record_behind x boot givens workers lines) r
    ∙ ap (λ x. record_behind (get_or texts 1 []) x givens workers lines) b
    ∙ ap (λ x. record_behind (get_or texts 1 []) (get_or texts 2 []) x workers lines) g
    ∙ ap (λ x. record_behind (get_or texts 1 []) (get_or texts 2 []) (get_or texts 3 []) x lines) w
    ∙ ap (λ x. record_behind (get_or texts 1 []) (get_or texts 2 []) (get_or texts 3 []) (get_or texts 4 []) x) ls
    ∙ sym (behind_five texts many ∙ ap (λ t. cond t (record_behind (get_or texts 1 []) (get_or texts 2 []) (get_or texts 3 []) (get_or texts 4 []) (drop 5 texts)) None) version)

-- the pieces of a head, as they are added
pub pieces : (a lr r lb b lg g lw w rest : List ℕ) →
    (((((([] ++ (a ++ 10 ∷ [])) ++ (lr ++ (r ++ 10 ∷ []))) ++ (lb ++ (b ++ 10 ∷ []))) ++ (lg ++ (g ++ 10 ∷ []))) ++ (lw ++ (w ++ 10 ∷ []))) ++ rest)
    ≡ a ++ 10 ∷ ((lr ++ r) ++ 10 ∷ ((lb ++ b) ++ 10 ∷ ((lg ++ g) ++ 10 ∷ ((lw ++ w) ++ 10 ∷ rest))))
pieces a lr r lb b lg g lw w rest = simp append_assoc
