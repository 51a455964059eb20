-- A number, a row or an object more of a list.
use Rattle.std.proofs.Common.{◌≡◌, ℕ, ◌+◌, ◌<◌, Bool, true, cond, ◌||◌, List, [], ◌∷◌, ◌++◌, length, get_or, drop, Option, sym, ap, ◌∙◌, append_assoc}
use Rattle.std.specs.Fmt.{decimal}
use Rattle.std.proofs.lemmas.List.{drop_more}
use Rattle.amo_status.specs.declared.standing.LineStatus.{LineStatus}
use Rattle.amo_status.specs.Json.{comma_if, is_shown, json_head, json_numbers, json_row, json_rows, json_tail, text_or_null}
use Rattle.amo_status.specs.Rows.{spaced}

pub spaced_more : (numbers : List ℕ) (i d : ℕ) (old new all : List ℕ) → i < length numbers → old ++ spaced (drop i numbers) ≡ all → new ≡ old ++ 32 ∷ decimal (get_or numbers i d) → new ++ spaced (drop (i + 1) numbers) ≡ all
spaced_more numbers i d old new all lt so_far is =
    ap (λ l. l ++ spaced (drop (i + 1) numbers)) is
    ∙ append_assoc old (32 ∷ decimal (get_or numbers i d)) (spaced (drop (i + 1) numbers))
    ∙ ap (λ ns. old ++ spaced ns) (sym (drop_more numbers i d lt))
    ∙ so_far

pub numbers_more : (numbers : List ℕ) (i d : ℕ) (later : Bool) (old mid new all : List ℕ) → i < length numbers → old ++ json_numbers later (drop i numbers) ≡ all
    → mid ≡ old ++ comma_if later → new ≡ mid ++ decimal (get_or numbers i d) → new ++ json_numbers true (drop (i + 1) numbers) ≡ all
numbers_more numbers i d later old mid new all lt so_far comma is =
    ap (λ l. l ++ json_numbers true (drop (i + 1) numbers)) (is ∙ ap (λ m. m ++ decimal (get_or numbers i d)) comma)
    ∙ append_assoc (old ++ comma_if later) (decimal (get_or numbers i d)) (json_numbers true (drop (i + 1) numbers))
    ∙ append_assoc old (comma_if later) (decimal (get_or numbers i d) ++ json_numbers true (drop (i + 1) numbers))
    ∙ ap (λ ns. old ++ json_numbers later ns) (sym (drop_more numbers i d lt))
    ∙ so_far

-- an object, put in three parts behind its comma
pub row_put : (old mid new head middle tail : List ℕ) (clock : Option ℕ) (later : Bool) (line : ℕ) (s : LineStatus) (text : List ℕ) → is_shown clock s.state ≡ true → mid ≡ old ++ comma_if later
    → new ≡ mid ++ (head ++ (middle ++ tail)) → head ≡ json_head line s → middle ≡ text_or_null text → tail ≡ json_tail clock s → new ≡ old ++ json_row clock later line s text
row_put old mid new head middle tail clock later line s text shown comma put h m t =
    put
    ∙ ap (λ l. l ++ (head ++ (middle ++ tail))) comma
    ∙ append_assoc old (comma_if later) (head ++ (middle ++ tail))
    ∙ ap (λ x. old ++ (comma_if later ++ (x ++ (middle ++ tail)))) h
    ∙ ap (λ x. old ++ (comma_if later ++ (json_head line s ++ (x ++ tail)))) m
    ∙ ap (λ x. old ++ (comma_if later ++ (json_head line s ++ (text_or_null text ++ x)))) t
    ∙ ap (λ b. old ++ cond b (comma_if later ++ (json_head line s ++ (text_or_null text ++ json_tail clock s))) []) (sym shown)

pub row_more : (clock : Option ℕ) (standings : List LineStatus) (i : ℕ) (d : LineStatus) (texts : List (List ℕ)) (later next : Bool) (old new all : List ℕ) → i < length standings
    → old ++ json_rows clock later i (drop i standings) texts ≡ all → new ≡ old ++ json_row clock later (i + 1) (get_or standings i d) (get_or texts i [])
    → next ≡ (later || is_shown clock (get_or standings i d).state)
    → new ++ json_rows clock next (i + 1) (drop (i + 1) standings) texts ≡ all
row_more clock standings i d texts later next old new all lt so_far is joins =
    ap (λ l. l ++ json_rows clock next (i + 1) (drop (i + 1) standings) texts) is
    ∙ ap (λ b. (old ++ json_row clock later (i + 1) (get_or standings i d) (get_or texts i [])) ++ json_rows clock b (i + 1) (drop (i + 1) standings) texts) joins
    ∙ append_assoc old (json_row clock later (i + 1) (get_or standings i d) (get_or texts i [])) (json_rows clock (later || is_shown clock (get_or standings i d).state) (i + 1) (drop (i + 1) standings) texts)
    ∙ ap (λ ss. old ++ json_rows clock later i ss texts) (sym (drop_more standings i d lt))
    ∙ so_far

-- the parts of a status, as they are added

regroup : (brace counts a alive b rows e : List ℕ) → ((((((([] ++ brace) ++ counts) ++ a) ++ alive) ++ b) ++ rows) ++ e) ≡ brace ++ (counts ++ (a ++ (alive ++ (b ++ (rows ++ e)))))
regroup brace counts a alive b rows e = simp append_assoc

pub status_put : (t0 t1 t2 t3 t4 t5 t6 t7 brace counts a alive b rows e : List ℕ) → t0 ≡ [] → t1 ≡ t0 ++ brace → t2 ≡ t1 ++ counts → t3 ≡ t2 ++ a → t4 ≡ t3 ++ alive → t5 ≡ t4 ++ b → t6 ≡ t5 ++ rows → t7 ≡ t6 ++ e
    → t7 ≡ brace ++ (counts ++ (a ++ (alive ++ (b ++ (rows ++ e)))))
status_put t0 t1 t2 t3 t4 t5 t6 t7 brace counts a alive b rows e e0 e1 e2 e3 e4 e5 e6 e7 =
    e7
    ∙ ap (λ t. t ++ e) (e6 ∙ ap (λ t. t ++ rows) (e5 ∙ ap (λ t. t ++ b) (e4 ∙ ap (λ t. t ++ alive) (e3 ∙ ap (λ t. t ++ a) (e2 ∙ ap (λ t. t ++ counts) (e1 ∙ ap (λ t. t ++ brace) e0))))))
    ∙ regroup brace counts a alive b rows e
