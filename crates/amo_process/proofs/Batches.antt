-- A process by batches.
use Rattle.std.proofs.Common.{◌≡◌, ⊎_elim, ◌⊎◌, inl, inr, ℕ, zero, suc, ◌+◌, ◌*◌, ◌<◌, ◌≤◌, Bool, true, false, refl, sym, ap, ◌∙◌, subst, arith, List, [], ◌∷◌, ◌++◌, length, append-nil, slice_index, Option, Some, None}
use Rattle.std.specs.Prelude.{if◌then◌else◌, ◌==◌, nat_le}
use Rattle.amo_sets.specs.Lists.{numbered}
use Rattle.std.proofs.lemmas.Bool.{true≢false, ne_eqb, eq-eqb, leb-true}
use Rattle.std.proofs.lemmas.Option.{same_Some, none-some}
use Rattle.std.proofs.lemmas.List.{length-append}
use Rattle.amo_params.specs.Givens.{IsWorker}
use Rattle.amo_kk.specs.Record.{wants_nothing}
use Rattle.amo_kk.specs.Step.{want, want_in, is_load}
use Rattle.amo_kk.specs.Again.{entries_of, are_own_words, record_of_dones, record_again}
use Rattle.amo_kk.specs.Choice.{record_after_choice}
use Rattle.amo_kk.specs.Words.{next_word, claim_word, done_word, words_after}
use Rattle.amo_kk.specs.Machine.{LocalView}
use Rattle.amo_params.specs.declared.givens.Givens.{Givens}
use Rattle.amo_kk.specs.declared.model.Record.{Record}
use Rattle.amo_kk.specs.declared.phase.Phase.{Phase}
use Rattle.amo_kk.specs.declared.phase.Phase.TheVariants.{Announcing, Holding}
use Rattle.amo_kk.proofs.Choice.{choice_cases}
use Rattle.amo_process.specs.declared.standing.Standing.{Standing}
use Rattle.amo_process.specs.declared.standing.Standing.TheVariants.{Beginning, Going}
use Rattle.amo_process.specs.declared.batch.Item.{Item}
use Rattle.amo_process.specs.declared.batch.Item.TheVariants.{Load, LoadUntilZero}
use Rattle.amo_process.specs.Heard.{record_after_all, rest_of, is_nothing, going, standing_in, standing_of}
use Rattle.amo_process.specs.declared.model.Happening.TheVariants.{Steps}
use Rattle.amo_process.specs.Shared.{Shared, heard_of, with_heard, shared_after_step, shared_after, standing_at}
use Rattle.amo_process.specs.Batch.{items_from, carried_out, last_word, items_beginning, items_of, left_after_all, WantsLeft, HasNoJob}
use Rattle.amo_process.proofs.Hearing.{with_record, is_going, IsGoingBy, going_by, going_sound, more_going}
use Rattle.amo_process.proofs.Passes.{whole, steps_rest, goer}

-- a row that goes on
rest_none_append : (row vs : List ℕ) → rest_of row ≡ None → rest_of (row ++ vs) ≡ rest_of vs
rest_none_append [] vs h = refl
rest_none_append (zero ∷ xs) vs h = absurd (none-some xs (sym h))
rest_none_append (suc j ∷ xs) vs h = rest_none_append xs vs h

-- Worker p, which stands so, wants what is left, and has no job while something is.
pub record RestsAt (g : Givens) (p : ℕ) (t : Standing) (rest : List Item) : Type 0 where
  pub wants : WantsLeft g p t rest
  pub none : HasNoJob t rest

going_rests : (g : Givens) (p : ℕ) (heard : List ℕ) (l : LocalView) (fresh : Bool) (v : ℕ) (vs : List ℕ) (t : Standing) (rest : List Item) → IsWorker g p
    → standing_of g p heard ≡ Some (Going l fresh) → left_after_all (items_of g p (Going l fresh)) (v ∷ vs) ≡ Some rest → standing_of g p (heard ++ v ∷ vs) ≡ Some t → RestsAt g p t rest
going_rests g p heard l fresh v vs t rest o stands left after = go (record_after_all g p l.state (v ∷ vs)) refl (sym (more_going g p heard l.state fresh v vs (stands ∙ ap (λ x. Some (Going x fresh)) by.same)) ∙ after)
  where
    by : IsGoingBy g p heard l
    by = going_by g p heard l fresh stands

    go : (x : Option Record) → record_after_all g p l.state (v ∷ vs) ≡ x → going g p false x ≡ Some t → RestsAt g p t rest
    go None is e = absurd (none-some t e)
    go (Some s) is e =
        let rests = steps_rest g p o l.state v vs rest s (going_sound g p heard l fresh o stands) left is in
        subst (λ x. RestsAt g p x rest) (same_Some (goer g p s) t e) (record { wants = rests.wants; none = rests.none })

-- its own words

pub at_next : (g : Givens) (p : ℕ) → items_beginning g p (next_word p) ≡ Load (next_word p) ∷ Load (claim_word g p) ∷ LoadUntilZero (done_word g p 1) (last_word g p) ∷ []
at_next g p = ap (λ b. if b then Load p ∷ Load (claim_word g p) ∷ LoadUntilZero (done_word g p 1) (last_word g p) ∷ []
    else if p == claim_word g p then Load p ∷ LoadUntilZero (done_word g p 1) (last_word g p) ∷ [] else LoadUntilZero p (last_word g p) ∷ []) (eq-eqb p p refl)

pub at_claim : (g : Givens) (p : ℕ) → IsWorker g p → items_beginning g p (claim_word g p) ≡ Load (claim_word g p) ∷ LoadUntilZero (done_word g p 1) (last_word g p) ∷ []
at_claim g p o =
    let low = o.low in let high = o.high in
    (λ i. if ne_eqb (claim_word g p) p (λ e. omega arith) i then Load (claim_word g p) ∷ Load (claim_word g p) ∷ LoadUntilZero (done_word g p 1) (last_word g p) ∷ []
    else if eq-eqb (claim_word g p) (claim_word g p) refl i then Load (claim_word g p) ∷ LoadUntilZero (done_word g p 1) (last_word g p) ∷ [] else LoadUntilZero (claim_word g p) (last_word g p) ∷ [])

pub at_row : (g : Givens) (p word : ℕ) → IsWorker g p → 2 * g.workers < word → items_beginning g p word ≡ LoadUntilZero word (last_word g p) ∷ []
at_row g p word o above =
    let low = o.low in let high = o.high in
    (λ i. if ne_eqb word p (λ e. omega arith) i then Load word ∷ Load (claim_word g p) ∷ LoadUntilZero (done_word g p 1) (last_word g p) ∷ []
    else if ne_eqb word (claim_word g p) (λ e. omega arith) i then Load word ∷ LoadUntilZero (done_word g p 1) (last_word g p) ∷ [] else LoadUntilZero word (last_word g p) ∷ [])

-- what is left of a row: it has no 0, or the 0 is the last number
abbrev IsLeft : ℕ → ℕ → List ℕ → List Item → Type 0
IsLeft word last xs rest = ((rest_of xs ≡ None) × (rest ≡ LoadUntilZero (word + length xs) last ∷ [])) ⊎ ((rest_of xs ≡ Some []) × (rest ≡ []))

row_left : (word last : ℕ) (xs : List ℕ) (rest : List Item) → left_after_all (LoadUntilZero word last ∷ []) xs ≡ Some rest → IsLeft word last xs rest
row_left word last [] rest h = inl (refl, sym (same_Some (LoadUntilZero word last ∷ []) rest h) ∙ ap (λ w. LoadUntilZero w last ∷ []) (omega arith))
row_left word last (zero ∷ []) rest h = inr (refl, sym (same_Some [] rest h))
row_left word last (zero ∷ (x ∷ xs)) rest h = absurd (none-some rest h)
row_left word last (suc j ∷ xs) rest h = ⊎_elim
    (λ (a : (rest_of xs ≡ None) × (rest ≡ LoadUntilZero (word + 1 + length xs) last ∷ [])). inl (a.0, a.1 ∙ ap (λ w. LoadUntilZero w last ∷ []) (omega arith)))
    (λ (a : (rest_of xs ≡ Some []) × (rest ≡ [])). inr a)
    (row_left (word + 1) last xs rest h)

-- a record that begins again loads nothing
again_stores : (g : Givens) (p next claim : ℕ) (dones : List ℕ) → is_load (want (record_again g p next claim dones)) ≡ false
again_stores g p next claim dones = go (claim == length dones)
  where
    go : (b : Bool) → is_load (want (if b then record_after_choice g p (record_of_dones g dones) else record (record_of_dones g dones) { phase = Holding next; claimed = dones ++ next ∷ [] })) ≡ false
    go true = choice_cases g p (record_of_dones g dones) (λ x. is_load (want x) ≡ false) (λ _. refl) (λ _. refl)
    go false = refl

row_rests : (g : Givens) (p next claim : ℕ) (row xs : List ℕ) (t : Standing) (rest : List Item) → IsWorker g p → rest_of row ≡ None
    → left_after_all (LoadUntilZero (done_word g p (length row + 1)) (last_word g p) ∷ []) xs ≡ Some rest → standing_of g p (next ∷ claim ∷ (row ++ xs)) ≡ Some t → RestsAt g p t rest
row_rests g p next claim row xs t rest o none left after = ⊎_elim
    (λ (a : (rest_of xs ≡ None) × (rest ≡ LoadUntilZero (done_word g p (length row + 1) + length xs) (last_word g p) ∷ [])).
    subst (λ l. RestsAt g p t l) (sym a.1) (goes_on (nat_le (length (row ++ xs)) g.jobs) (sym (ap (standing_in g p next claim (row ++ xs)) (rest_none_append row xs none ∙ a.0)) ∙ after)))
    (λ (a : (rest_of xs ≡ Some []) × (rest ≡ [])).
    subst (λ l. RestsAt g p t l) (sym a.1) (ends (are_own_words g next claim (entries_of (row ++ xs))) (sym (ap (standing_in g p next claim (row ++ xs)) (rest_none_append row xs none ∙ a.0)) ∙ after)))
    (row_left (done_word g p (length row + 1)) (last_word g p) xs rest left)
  where
    goes_on : (b : Bool) → (if b then Some (Beginning (done_word g p (length (row ++ xs) + 1))) else None) ≡ Some t
        → RestsAt g p t (LoadUntilZero (done_word g p (length row + 1) + length xs) (last_word g p) ∷ [])
    goes_on false e = absurd (none-some t e)
    goes_on true e = subst (λ x. RestsAt g p x (LoadUntilZero (done_word g p (length row + 1) + length xs) (last_word g p) ∷ []))
        (same_Some (Beginning (done_word g p (length (row ++ xs) + 1))) t e)
        (record {
          wants = at_row g p (done_word g p (length (row ++ xs) + 1)) o (omega arith)
              ∙ ap (λ w. LoadUntilZero w (last_word g p) ∷ []) (let n = length-append row xs in omega arith);
          none = (refl, refl);
        })

    ends : (b : Bool) → (if b then Some (Going (with_record g p (record_again g p next claim (entries_of (row ++ xs)))) true) else None) ≡ Some t → RestsAt g p t []
    ends false e = absurd (none-some t e)
    ends true e = subst (λ x. RestsAt g p x []) (same_Some (Going (with_record g p (record_again g p next claim (entries_of (row ++ xs)))) true) t e)
        (record { wants = again_stores g p next claim (entries_of (row ++ xs)); none = tt })

abbrev pub word_in : ℕ → Option Standing → ℕ
word_in d None = d
word_in d (Some (Beginning word)) = word
word_in d (Some (Going l fresh)) = d

-- of its own words, with some of the row loaded, the next one is loaded
pub row_beginning : (g : Givens) (p next claim : ℕ) (row : List ℕ) (word : ℕ) → standing_of g p (next ∷ claim ∷ row) ≡ Some (Beginning word)
    → (rest_of row ≡ None) × (word ≡ done_word g p (length row + 1)) × (length row ≤ g.jobs)
row_beginning g p next claim row word = go (rest_of row) refl
  where
    loads : (b : Bool) → nat_le (length row) g.jobs ≡ b → (if b then Some (Beginning (done_word g p (length row + 1))) else None) ≡ Some (Beginning word)
        → (word ≡ done_word g p (length row + 1)) × (length row ≤ g.jobs)
    loads true t e = (sym (ap (word_in word) e), leb-true _ _ t)
    loads false t e = absurd (none-some (Beginning word) e)

    goes : (o : Option Record) (fresh : Bool) → going g p fresh o ≡ Some (Beginning word) → ⊥
    goes None fresh e = none-some (Beginning word) e
    goes (Some r) fresh e = true≢false (ap is_going e)

    own : (rest : List ℕ) (b : Bool) (o : Option Record) → (if b then going g p (is_nothing rest) o else None) ≡ Some (Beginning word) → ⊥
    own rest true o e = goes o (is_nothing rest) e
    own rest false o e = none-some (Beginning word) e

    go : (o : Option (List ℕ)) → rest_of row ≡ o → standing_in g p next claim row o ≡ Some (Beginning word)
        → (rest_of row ≡ None) × (word ≡ done_word g p (length row + 1)) × (length row ≤ g.jobs)
    go None is e = let l = loads (nat_le (length row) g.jobs) refl e in (is, l.0, l.1)
    go (Some rest) is e = absurd (own rest (are_own_words g next claim (entries_of row)) (record_after_all g p (record_again g p next claim (entries_of row)) rest) e)

beginning_rests : (g : Givens) (p : ℕ) (heard : List ℕ) (word v : ℕ) (vs : List ℕ) (t : Standing) (rest : List Item) → IsWorker g p
    → standing_of g p heard ≡ Some (Beginning word) → left_after_all (items_of g p (Beginning word)) (v ∷ vs) ≡ Some rest → standing_of g p (heard ++ v ∷ vs) ≡ Some t → RestsAt g p t rest
beginning_rests g p [] word v vs t rest o stands left after =
    second vs (subst (λ l. left_after_all l (v ∷ vs) ≡ Some rest) (ap (items_beginning g p) (sym (ap (word_in word) stands)) ∙ at_next g p) left) after
  where
    second : (xs : List ℕ) → left_after_all (Load (claim_word g p) ∷ LoadUntilZero (done_word g p 1) (last_word g p) ∷ []) xs ≡ Some rest → standing_of g p (v ∷ xs) ≡ Some t → RestsAt g p t rest
    second [] h e =
        subst (λ l. RestsAt g p t l) (same_Some (Load (claim_word g p) ∷ LoadUntilZero (done_word g p 1) (last_word g p) ∷ []) rest h)
        (subst (λ x. RestsAt g p x (Load (claim_word g p) ∷ LoadUntilZero (done_word g p 1) (last_word g p) ∷ [])) (same_Some (Beginning (claim_word g p)) t e)
        (record { wants = at_claim g p o; none = (refl, refl) }))
    second (w ∷ xs) h e = row_rests g p v w [] xs t rest o refl h e
beginning_rests g p (next ∷ []) word v vs t rest o stands left after =
    row_rests g p next v [] vs t rest o refl (subst (λ l. left_after_all l (v ∷ vs) ≡ Some rest) (ap (items_beginning g p) (sym (ap (word_in word) stands)) ∙ at_claim g p o) left) after
beginning_rests g p (next ∷ claim ∷ row) word v vs t rest o stands left after =
    let b = row_beginning g p next claim row word stands in
    row_rests g p next claim row (v ∷ vs) t rest o b.0
    (subst (λ l. left_after_all l (v ∷ vs) ≡ Some rest) (ap (items_beginning g p) b.1 ∙ at_row g p (done_word g p (length row + 1)) o (omega arith)) left) after

-- after any numbers that fit
pub more_rests : (g : Givens) (p : ℕ) (heard : List ℕ) (v : ℕ) (vs : List ℕ) (s t : Standing) (rest : List Item) → IsWorker g p
    → standing_of g p heard ≡ Some s → left_after_all (items_of g p s) (v ∷ vs) ≡ Some rest → standing_of g p (heard ++ v ∷ vs) ≡ Some t → RestsAt g p t rest
more_rests g p heard v vs (Beginning word) t rest o stands left after = beginning_rests g p heard word v vs t rest o stands left after
more_rests g p heard v vs (Going l fresh) t rest o stands left after = going_rests g p heard l fresh v vs t rest o stands left after

-- a batch is the batch
all_wanted : (g : Givens) (p : ℕ) (s : Standing) → WantsLeft g p s (items_of g p s)
all_wanted g p (Beginning word) = go (word == next_word p) refl (word == claim_word g p) refl
  where
    go : (b : Bool) → (word == next_word p) ≡ b → (c : Bool) → (word == claim_word g p) ≡ c
        → WantsLeft g p (Beginning word) (if b then Load word ∷ Load (claim_word g p) ∷ LoadUntilZero (done_word g p 1) (last_word g p) ∷ []
        else if c then Load word ∷ LoadUntilZero (done_word g p 1) (last_word g p) ∷ [] else LoadUntilZero word (last_word g p) ∷ [])
    go true e c f = ap (λ b. if b then Load word ∷ Load (claim_word g p) ∷ LoadUntilZero (done_word g p 1) (last_word g p) ∷ []
        else if word == claim_word g p then Load word ∷ LoadUntilZero (done_word g p 1) (last_word g p) ∷ [] else LoadUntilZero word (last_word g p) ∷ []) e
    go false e true f = (λ i. if e i then Load word ∷ Load (claim_word g p) ∷ LoadUntilZero (done_word g p 1) (last_word g p) ∷ []
        else if f i then Load word ∷ LoadUntilZero (done_word g p 1) (last_word g p) ∷ [] else LoadUntilZero word (last_word g p) ∷ [])
    go false e false f = (λ i. if e i then Load word ∷ Load (claim_word g p) ∷ LoadUntilZero (done_word g p 1) (last_word g p) ∷ []
        else if f i then Load word ∷ LoadUntilZero (done_word g p 1) (last_word g p) ∷ [] else LoadUntilZero word (last_word g p) ∷ [])
all_wanted g p (Going l fresh) = from (items_from g p l.state (want l.state)) (whole g p l.state)
  where
    from : (items : List Item) → WantsLeft g p (goer g p l.state) items → WantsLeft g p (Going l fresh) items
    from [] h = h
    from (item ∷ items) h = h

pub rest_wanted : (g : Givens) (p : ℕ) (heard more : List ℕ) (s t : Standing) (rest : List Item) → IsWorker g p
    → standing_of g p heard ≡ Some s → left_after_all (items_of g p s) more ≡ Some rest → standing_of g p (heard ++ more) ≡ Some t → WantsLeft g p t rest
rest_wanted g p heard [] s t rest o stands left after =
    subst (λ l. WantsLeft g p t l) (same_Some (items_of g p s) rest left)
    (subst (λ x. WantsLeft g p x (items_of g p s)) (same_Some s t (sym stands ∙ ap (standing_of g p) (sym (append-nil heard)) ∙ after)) (all_wanted g p s))
rest_wanted g p heard (v ∷ vs) s t rest o stands left after = (more_rests g p heard v vs s t rest o stands left after).wants

-- the first access of an item is the step of the process

abbrev pub carried_first : Shared → ℕ → List Item → Shared
carried_first s p [] = s
carried_first s p (item ∷ items) = carried_out s p item

pub first_step : (g : Givens) (s : Shared) (p : ℕ) (t : Standing) → shared_after_step g s p (Some t) ≡ carried_first s p (items_of g p t)
first_step g s p (Beginning word) = go (word == next_word p) (word == claim_word g p)
  where
    go : (b c : Bool) → with_heard s p (slice_index s.words word) s.words
        ≡ carried_first s p (if b then Load word ∷ Load (claim_word g p) ∷ LoadUntilZero (done_word g p 1) (last_word g p) ∷ []
        else if c then Load word ∷ LoadUntilZero (done_word g p 1) (last_word g p) ∷ [] else LoadUntilZero word (last_word g p) ∷ [])
    go true c = refl
    go false true = refl
    go false false = refl
first_step g s p (Going l fresh) = go l.state.phase
  where
    go : (phase : Phase) → (if wants_nothing phase then s else with_heard s p (heard_of g s.words (want_in l.state phase)) (words_after g p (want_in l.state phase) s.words))
        ≡ carried_first s p (items_from g p l.state (want_in l.state phase))
    go (Announcing j) = refl
    go phase = refl

pub item_is_step : (g : Givens) (s : Shared) (p : ℕ) (heard more : List ℕ) (from t : Standing) (item : Item) (rest : List Item) → IsWorker g p
    → numbered [] s.lists p ≡ heard ++ more → standing_of g p heard ≡ Some from → left_after_all (items_of g p from) more ≡ Some (item ∷ rest) → standing_at g s p ≡ Some t
    → shared_after g s (Steps p) ≡ carried_out s p item
item_is_step g s p heard more from t item rest o list stands left now =
    ap (shared_after_step g s p) now ∙ first_step g s p t
    ∙ ap (carried_first s p) (rest_wanted g p heard more from t (item ∷ rest) o stands left (ap (standing_of g p) (sym list) ∙ now))
