-- A process that is stepped stands where its list says.
use Rattle.std.proofs.Common.{◌≡◌, ◌≢◌, ℕ, zero, suc, ◌+◌, ◌-◌, ◌<◌, ◌≤◌, Bool, true, false, refl, sym, ap, ◌∙◌, arith, List, [], ◌∷◌, ◌++◌, length, get_or, take, drop, Option, Some, None, append-nil, append_assoc}
use Rattle.std.specs.Prelude.{if◌then◌else◌, nat_le}
use Rattle.std.proofs.lemmas.Bool.{true≢false, le-leb}
use Rattle.std.proofs.lemmas.Bool.Decides.{nat_tests}
use Rattle.std.proofs.lemmas.List.{length-drop, length_push, take_all}
use Rattle.std.proofs.lemmas.Option.{none-some}
use Rattle.amo_kk.specs.Step.{want, record_after}
use Rattle.amo_kk.specs.Words.{next_word, done_word}
use Rattle.amo_kk.specs.Again.{are_own_words, record_again}
use Rattle.amo_kk.specs.Machine.{LocalView}
use Rattle.amo_params.specs.declared.givens.Givens.{Givens}
use Rattle.amo_process.specs.declared.standing.Standing.{Standing}
use Rattle.amo_process.specs.declared.standing.Standing.TheVariants.{Beginning, Going}
use Rattle.amo_process.specs.Heard.{can_hear, own_word, standing_in, standing_of}
use Rattle.amo_process.specs.Stepped.{ProcessView, new_process, own_after, standing_after, process_after_all}
use Rattle.amo_process.specs.Stage.{IsLoading}
use Rattle.amo_process.proofs.Hearing.{with_record, is_going, rest_none_push, rest_zero_push, entries_zero_push, standing_push}

-- while it loads its own words, it loads the next of them
pub loading_stands : (g : Givens) (p : ℕ) (own : List ℕ) → IsLoading g own → standing_of g p own ≡ Some (Beginning (own_word g p (length own)))
loading_stands g p [] h = refl
loading_stands g p (next ∷ []) h = refl
loading_stands g p (next ∷ claim ∷ row) h =
    ap (λ o. standing_in g p next claim row o) h.row
    ∙ ap (λ b. if b then Some (Beginning (done_word g p (length row + 1))) else None) (le-leb (length row) g.jobs (let f = h.few in omega arith))

-- one own word more

-- the values after the announcement and the count of claims
pub row_from : (own : List ℕ) → take (length own - 2) (drop 2 own) ≡ drop 2 own
row_from own = take_all (length own - 2) (drop 2 own) (let e = length-drop 2 own in omega arith)

pub loads_on : (g : Givens) (own : List ℕ) (v : ℕ) → IsLoading g own → 2 ≤ length own → v ≢ 0 → length (drop 2 own) < g.jobs → IsLoading g (own ++ v ∷ [])
loads_on g [] v h long some room = absurd (omega arith)
loads_on g (next ∷ []) v h long some room = absurd (omega arith)
loads_on g (next ∷ claim ∷ row) zero h long some room = absurd (some refl)
loads_on g (next ∷ claim ∷ row) (suc j) h long some room = record { row = rest_none_push row j h.row; few = let e = length_push row (suc j) in omega arith }

pub loads_no_more : (g : Givens) (p : ℕ) (own : List ℕ) (v : ℕ) → IsLoading g own → 2 ≤ length own → v ≢ 0 → g.jobs ≤ length (drop 2 own) → standing_of g p (own ++ v ∷ []) ≡ None
loads_no_more g p [] v h long some full = absurd (omega arith)
loads_no_more g p (next ∷ []) v h long some full = absurd (omega arith)
loads_no_more g p (next ∷ claim ∷ row) zero h long some full = absurd (some refl)
loads_no_more g p (next ∷ claim ∷ row) (suc j) h long some full =
    ap (λ o. standing_in g p next claim (row ++ suc j ∷ []) o) (rest_none_push row j h.row)
    ∙ ap (λ b. if b then Some (Beginning (done_word g p (length (row ++ suc j ∷ []) + 1))) else None) (over (length row) g.jobs (length (row ++ suc j ∷ [])) (length_push row (suc j)) full)
  where
    over : (k n m : ℕ) → m ≡ k + 1 → n ≤ k → nat_le m n ≡ false
    over k n m e l = grind (arith, nat_tests)

-- once they are all loaded it begins again by them, if a worker can have left them
abbrev pub begun_by : Givens → ℕ → (next claim : ℕ) → List ℕ → Bool → Option Standing
begun_by g p next claim row b = if b then Some (Going (with_record g p (record_again g p next claim row)) true) else None

pub loaded_all : (g : Givens) (p : ℕ) (own : List ℕ) (v : ℕ) → IsLoading g own → 2 ≤ length own → v ≡ 0
    → standing_of g p (own ++ v ∷ []) ≡ begun_by g p (get_or own 0 0) (get_or own 1 0) (drop 2 own) (are_own_words g (get_or own 0 0) (get_or own 1 0) (drop 2 own))
loaded_all g p [] v h long none = absurd (omega arith)
loaded_all g p (next ∷ []) v h long none = absurd (omega arith)
loaded_all g p (next ∷ claim ∷ row) v h long none =
    ap (λ n. standing_of g p (next ∷ claim ∷ row ++ n ∷ [])) none
    ∙ ap (λ o. standing_in g p next claim (row ++ 0 ∷ []) o) (rest_zero_push row h.row)
    ∙ ap (λ l. begun_by g p next claim l (are_own_words g next claim l)) (entries_zero_push row h.row)

module _ (g : Givens) (p : ℕ) where
  abbrev at : List ℕ → Option Standing → ProcessView
  at own s = record { givens = g; number = p; own = own; standing = s }

  not_beginning : (l : LocalView) (b : Bool) (word : ℕ) (X : Type 0) → (if b then Some (Going l false) else None) ≡ Some (Beginning word) → X
  not_beginning l true word X e = absurd (true≢false (ap is_going e))
  not_beginning l false word X e = absurd (none-some (Beginning word) e)

  -- one that stands by its list goes on to stand by it
  follows : (xs heard own : List ℕ) (s : Option Standing) → s ≡ standing_of g p heard → ((word : ℕ) → s ≡ Some (Beginning word) → own ≡ heard)
      → (process_after_all (at own s) xs).standing ≡ standing_of g p (heard ++ xs)
  follows [] heard own s e o = e ∙ ap (standing_of g p) (sym (append-nil heard))
  follows (v ∷ vs) heard own s e o =
      follows vs (heard ++ v ∷ []) (own_after v own s) (standing_after g p v (own_after v own s) s) (stands s e o) (loads s o)
      ∙ ap (standing_of g p) (append_assoc heard (v ∷ []) vs)
    where
      stands : (s : Option Standing) → s ≡ standing_of g p heard → ((word : ℕ) → s ≡ Some (Beginning word) → own ≡ heard)
          → standing_after g p v (own_after v own s) s ≡ standing_of g p (heard ++ v ∷ [])
      stands None e o = sym (standing_push g p heard v ∙ ap (standing_after g p v (heard ++ v ∷ [])) (sym e))
      stands (Some (Beginning word)) e o = ap (λ l. standing_of g p (l ++ v ∷ [])) (o word refl)
      stands (Some (Going l fresh)) e o = sym (standing_push g p heard v ∙ ap (standing_after g p v (heard ++ v ∷ [])) (sym e))

      loads : (s : Option Standing) → ((word : ℕ) → s ≡ Some (Beginning word) → own ≡ heard)
          → (word : ℕ) → standing_after g p v (own_after v own s) s ≡ Some (Beginning word) → own_after v own s ≡ heard ++ v ∷ []
      loads None o word is = absurd (none-some (Beginning word) is)
      loads (Some (Beginning first)) o word is = ap (λ l. l ++ v ∷ []) (o first refl)
      loads (Some (Going l fresh)) o word is = not_beginning (record l { state = record_after g p v l.state }) (can_hear g v (want l.state)) word _ is

  pub stepped_stands : (heard : List ℕ) → (process_after_all (new_process g p) heard).standing ≡ standing_of g p heard
  stepped_stands heard = follows heard [] [] (Some (Beginning (next_word p))) refl (λ word e. refl)
