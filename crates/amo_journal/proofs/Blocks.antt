-- The texts of files of blocks.
use Rattle.std.proofs.Common.{◌≡◌, ◌≢◌, inl, inr, ℕ, zero, suc, ◌+◌, ◌<◌, ◌≤◌, Bool, true, false, cond, List, [], ◌∷◌, ◌++◌, length, get_or, take, drop, ◌-◌, Option, Some, None, refl, sym, ◌∙◌, ap, subst, arith, append_assoc, length-append}
use Rattle.std.specs.Prelude.{◌==◌, IfNone}
use Rattle.std.proofs.lemmas.List.{append-nil, take_all}
use Rattle.std.proofs.lemmas.Bool.{cases_eq}
use Rattle.std.proofs.lemmas.Bool.Decides.{nat_tests}
use Rattle.amo_journal.specs.Texts.{IsOneLine, AreOneLine, texts_from, texts_in, blocks}
use Rattle.amo_journal.specs.Journal.{IsBeforeOrAfter}

pub equal : (a b : ℕ) → a ≡ b → (a == b) ≡ true
equal a b is = grind (arith, nat_tests)

pub not_equal : (a b : ℕ) → a ≢ b → (a == b) ≡ false
not_equal a b isnt = grind (arith, nat_tests)

pub one_line_push : (text : List ℕ) (b : ℕ) → IsOneLine text → b ≢ 10 → IsOneLine (text ++ b ∷ [])
one_line_push [] b one isnt = (isnt, tt)
one_line_push (a ∷ text) b one isnt = (one.0, one_line_push text b one.1 isnt)

-- a text without its line feed is no block
pub unfinished : (text acc : List ℕ) → IsOneLine text → texts_from text (Some acc) ≡ []
unfinished [] acc one = refl
unfinished (b ∷ text) acc one =
    ap (λ (t : Bool). cond t (acc ∷ texts_from text None) (texts_from text (Some (acc ++ b ∷ [])))) (not_equal b 10 one.0) ∙ unfinished text (acc ++ b ∷ []) one.1

-- a text with its line feed is one
pub finished : (text acc rest : List ℕ) → IsOneLine text → texts_from (text ++ 10 ∷ rest) (Some acc) ≡ (acc ++ text) ∷ texts_from rest None
finished [] acc rest one = ap (λ (l : List ℕ). l ∷ texts_from rest None) (sym (append-nil acc))
finished (b ∷ text) acc rest one =
    ap (λ (t : Bool). cond t (acc ∷ texts_from (text ++ 10 ∷ rest) None) (texts_from (text ++ 10 ∷ rest) (Some (acc ++ b ∷ [])))) (not_equal b 10 one.0)
    ∙ finished text (acc ++ b ∷ []) rest one.1
    ∙ ap (λ (l : List ℕ). l ∷ texts_from rest None) (append_assoc acc (b ∷ []) text)

-- one block, and then whatever the rest stands for
pub texts_in_block : (text rest : List ℕ) → IsOneLine text → texts_in (43 ∷ text ++ 10 ∷ rest) ≡ text ∷ texts_in rest
texts_in_block text rest one = finished text [] rest one

-- open blocks, and then whatever the rest stands for
pub texts_in-blocks : (texts : List (List ℕ)) (rest : List ℕ) → AreOneLine texts → texts_in (blocks texts ++ rest) ≡ texts ++ texts_in rest
texts_in-blocks [] rest one = refl
texts_in-blocks (text ∷ texts) rest one =
    ap (λ (l : List ℕ). texts_in (43 ∷ l)) (append_assoc text (10 ∷ blocks texts) rest)
    ∙ texts_in_block text (blocks texts ++ rest) one.0
    ∙ ap (λ (l : List (List ℕ)). text ∷ l) (texts_in-blocks texts rest one.1)

pub blocks-push : (texts : List (List ℕ)) (text rest : List ℕ) → blocks (texts ++ text ∷ []) ++ rest ≡ blocks texts ++ (43 ∷ text ++ 10 ∷ rest)
blocks-push [] text rest = ap (λ (l : List ℕ). 43 ∷ l) (append_assoc text (10 ∷ []) rest)
blocks-push (t ∷ texts) text rest =
    ap (λ (l : List ℕ). 43 ∷ l) (append_assoc t (10 ∷ blocks (texts ++ text ∷ [])) rest
    ∙ ap (λ (l : List ℕ). t ++ 10 ∷ l) (blocks-push texts text rest)
    ∙ sym (append_assoc t (10 ∷ blocks texts) (43 ∷ text ++ 10 ∷ rest)))

pub length-blocks_push : (texts : List (List ℕ)) (text : List ℕ) → length (blocks (texts ++ text ∷ [])) ≡ length (blocks texts) + length text + 2
length-blocks_push [] text = omega (arith, length-append text (10 ∷ []))
length-blocks_push (t ∷ texts) text =
    omega (arith, length-blocks_push texts text, length-append t (10 ∷ blocks (texts ++ text ∷ [])), length-append t (10 ∷ blocks texts))

pub closed : (gate : ℕ) (rest : List ℕ) → gate ≢ 43 → texts_in (gate ∷ rest) ≡ []
closed gate rest shut = ap (λ (t : Bool). cond t (texts_from rest (Some [])) []) (not_equal gate 43 shut)

-- a closed gate ends them, whatever follows it
pub texts_in_closed : (texts : List (List ℕ)) (gate : ℕ) (rest : List ℕ) → AreOneLine texts → gate ≢ 43 → texts_in (blocks texts ++ gate ∷ rest) ≡ texts
texts_in_closed texts gate rest one shut =
    texts_in-blocks texts (gate ∷ rest) one ∙ ap (λ (l : List (List ℕ)). texts ++ l) (closed gate rest shut) ∙ append-nil texts

-- a whole block behind any gate counts or it doesn't
pub texts_in_gate : (texts : List (List ℕ)) (gate : ℕ) (text : List ℕ) → AreOneLine texts → IsOneLine text → IsBeforeOrAfter texts text (blocks texts ++ (gate ∷ text ++ 10 ∷ 45 ∷ []))
texts_in_gate texts gate text all one = elim (cases_eq gate 43) [
  | inl open_gate ↦ inr (texts_in-blocks texts (gate ∷ text ++ 10 ∷ 45 ∷ []) all
      ∙ ap (λ (l : List (List ℕ)). texts ++ l) (ap (λ (n : ℕ). texts_in (n ∷ text ++ 10 ∷ 45 ∷ [])) open_gate ∙ texts_in_block text (45 ∷ []) one))
  | inr shut ↦ inl (texts_in_closed texts gate (text ++ 10 ∷ 45 ∷ []) all shut)
]

pub all_push : (texts : List (List ℕ)) (text : List ℕ) → AreOneLine texts → IsOneLine text → AreOneLine (texts ++ text ∷ [])
all_push [] text all one = (one, tt)
all_push (t ∷ texts) text all one = (all.0, all_push texts text all.1 one)

-- none of the first n bytes is a line feed
pub one_line_take : (bytes : List ℕ) (n : ℕ) → n ≤ length bytes → ((k : ℕ) → k < n → get_or bytes k 0 ≢ 10) → IsOneLine (take n bytes)
one_line_take bytes zero le none = tt
one_line_take [] (suc n) le none = tt
one_line_take (b ∷ bytes) (suc n) le none = (none 0 (omega arith), one_line_take bytes n (omega arith) (λ k lt. none (suc k) (omega arith)))

pub one_line : (bytes : List ℕ) → ((k : ℕ) → k < length bytes → get_or bytes k 0 ≢ 10) → IsOneLine bytes
one_line bytes none = subst IsOneLine (take_all (length bytes) bytes (omega arith)) (one_line_take bytes (length bytes) (omega arith) none)

-- reading goes on after a block
pub block_read : (texts : List (List ℕ)) (text rest bytes : List ℕ) (all : List (List ℕ)) → texts ++ texts_in bytes ≡ all → bytes ≡ 43 ∷ text ++ 10 ∷ rest → IsOneLine text → (texts ++ text ∷ []) ++ texts_in rest ≡ all
block_read texts text rest bytes all so_far is one =
    append_assoc texts (text ∷ []) (texts_in rest) ∙ ap (λ (l : List (List ℕ)). texts ++ l) (sym (ap texts_in is ∙ texts_in_block text rest one)) ∙ so_far

pub block_size : (texts : List (List ℕ)) (text rest bytes : List ℕ) (n : ℕ) → length (blocks texts) + length bytes ≡ n → bytes ≡ 43 ∷ text ++ 10 ∷ rest → length (blocks (texts ++ text ∷ [])) + length rest ≡ n
block_size texts text rest bytes n so_far is = omega (arith, length-blocks_push texts text, ap length is, length-append text (10 ∷ rest))

pub all_read : (texts : List (List ℕ)) (rest : List ℕ) (all : List (List ℕ)) → texts ++ texts_in rest ≡ all → texts_in rest ≡ [] → texts ≡ all
all_read texts rest all read none = sym (append-nil texts) ∙ ap (λ (l : List (List ℕ)). texts ++ l) (sym none) ∙ read

-- an open gate and no line feed
pub no_block : {Y : Type 0} (bytes : List ℕ) (r : Option Y) → 1 ≤ length bytes → get_or bytes 0 0 ≡ 43 → IfNone r (IsOneLine (take (length bytes - 1) (drop 1 bytes))) → IfNone r (texts_in bytes ≡ [])
no_block [] r some is one = absurd (omega arith)
no_block (b ∷ bytes) (Some y) some is one = tt
no_block (b ∷ bytes) None some is one =
    ap (λ (n : ℕ). texts_in (n ∷ bytes)) is ∙ unfinished bytes [] (subst IsOneLine (take_all (length (b ∷ bytes) - 1) bytes (omega arith)) one)
