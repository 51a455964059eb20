-- More values read: the standing of a worker after them, and that its record is sound.
use Rattle.std.proofs.Common.{◌≡◌, ℕ, zero, suc, ◌+◌, ◌≤◌, Bool, true, false, not, ◌&&◌, ◌||◌, refl, sym, ap, ◌∙◌, subst, arith, List, [], ◌∷◌, ◌++◌, length, Option, Some, None, append-nil, append_assoc}
use Rattle.std.specs.Prelude.{if◌then◌else◌, ◌==◌, nat_le}
use Rattle.std.proofs.lemmas.Bool.{true≢false, false_from_ne_true, and_parts, le-leb, leb-true}
use Rattle.std.proofs.lemmas.Bool.Decides.{nat_tests}
use Rattle.std.proofs.lemmas.List.{length_push}
use Rattle.std.proofs.lemmas.Option.{same_Some, none-some}
use Rattle.amo_sets.specs.Sets.{has}
use Rattle.amo_params.specs.Givens.{IsWorker, is_within}
use Rattle.amo_kk.specs.Step.{want, record_after, MayLoad}
use Rattle.amo_kk.specs.Again.{entries_of, are_new, are_own_words, record_again, set_of, record_of_dones}
use Rattle.amo_kk.specs.Words.{done_word}
use Rattle.amo_kk.specs.Lawful.{IsSoundRecord}
use Rattle.amo_kk.specs.Machine.{LocalView}
use Rattle.amo_params.specs.declared.givens.Givens.{Givens}
use Rattle.amo_kk.specs.declared.model.Record.{Record}
use Rattle.amo_kk.specs.declared.phase.Phase.TheVariants.{Holding}
use Rattle.amo_kk.proofs.Again.{new_few, within_job}
use Rattle.amo_process.specs.declared.standing.Standing.{Standing}
use Rattle.amo_process.specs.declared.standing.Standing.TheVariants.{Beginning, Going}
use Rattle.amo_process.specs.Heard.{can_hear, record_after_all, rest_of, is_nothing, going, standing_in, standing_of}
use Rattle.amo_process.specs.Stepped.{standing_after}
use Rattle.amo_kk.specs.Choice.{record_after_choice}
use Rattle.amo_kk.proofs.Fit.{after_fit, rested_fit, doubted_fit}
use Rattle.amo_kk.specs.declared.phase.Want.{Want}
use Rattle.amo_kk.specs.declared.phase.Want.TheVariants.{LoadNext, LoadDone}

-- the worker with this record
abbrev pub with_record : Givens → ℕ → Record → LocalView
with_record g p r = record { givens = g; number = p; state = r }

-- what a standing says
abbrev pub is_going : Option Standing → Bool
is_going None = false
is_going (Some (Beginning word)) = false
is_going (Some (Going l fresh)) = true

abbrev pub record_in : Record → Option Standing → Record
record_in d None = d
record_in d (Some (Beginning word)) = d
record_in d (Some (Going l fresh)) = l.state

-- a list with one more number

-- the record after one more, if it is there and the number can come
abbrev next_record : Givens → ℕ → ℕ → Option Record → Option Record
next_record g p v None = None
next_record g p v (Some r) = if can_hear g v (want r) then Some (record_after g p v r) else None

record_push : (g : Givens) (p : ℕ) (r : Record) (vs : List ℕ) (v : ℕ) → record_after_all g p r (vs ++ v ∷ []) ≡ next_record g p v (record_after_all g p r vs)
record_push g p r [] v = refl
record_push g p r (x ∷ xs) v = by (can_hear g x (want r)) (record_push g p (record_after g p x r) xs v)
  where
    by : (b : Bool) → record_after_all g p (record_after g p x r) (xs ++ v ∷ []) ≡ next_record g p v (record_after_all g p (record_after g p x r) xs)
        → (if b then record_after_all g p (record_after g p x r) (xs ++ v ∷ []) else None) ≡ next_record g p v (if b then record_after_all g p (record_after g p x r) xs else None)
    by true e = e
    by false e = refl

rest_push : (row rest : List ℕ) (v : ℕ) → rest_of row ≡ Some rest → rest_of (row ++ v ∷ []) ≡ Some (rest ++ v ∷ [])
rest_push [] rest v h = absurd (none-some rest h)
rest_push (zero ∷ xs) rest v h = ap (λ l. Some (l ++ v ∷ [])) (same_Some xs rest h)
rest_push (suc j ∷ xs) rest v h = rest_push xs rest v h

entries_push : (row rest : List ℕ) (v : ℕ) → rest_of row ≡ Some rest → entries_of (row ++ v ∷ []) ≡ entries_of row
entries_push [] rest v h = absurd (none-some rest h)
entries_push (zero ∷ xs) rest v h = refl
entries_push (suc j ∷ xs) rest v h = ap (λ l. suc j ∷ l) (entries_push xs rest v h)

nothing_push : (rest : List ℕ) (v : ℕ) → is_nothing (rest ++ v ∷ []) ≡ false
nothing_push [] v = refl
nothing_push (x ∷ xs) v = refl

-- a row without a 0

pub rest_none_push : (row : List ℕ) (j : ℕ) → rest_of row ≡ None → rest_of (row ++ suc j ∷ []) ≡ None
rest_none_push [] j h = refl
rest_none_push (zero ∷ xs) j h = absurd (none-some xs (sym h))
rest_none_push (suc i ∷ xs) j h = rest_none_push xs j h

pub rest_zero_push : (row : List ℕ) → rest_of row ≡ None → rest_of (row ++ 0 ∷ []) ≡ Some []
rest_zero_push [] h = refl
rest_zero_push (zero ∷ xs) h = absurd (none-some xs (sym h))
rest_zero_push (suc i ∷ xs) h = rest_zero_push xs h

pub entries_zero_push : (row : List ℕ) → rest_of row ≡ None → entries_of (row ++ 0 ∷ []) ≡ row
entries_zero_push [] h = refl
entries_zero_push (zero ∷ xs) h = absurd (none-some xs (sym h))
entries_zero_push (suc i ∷ xs) h = ap (λ l. suc i ∷ l) (entries_zero_push xs h)

-- a row with more entries than there are jobs can't be one
long_row : (g : Givens) (next claim : ℕ) (row : List ℕ) → nat_le (length row) g.jobs ≡ false → are_own_words g next claim row ≡ false
long_row g next claim row h = false_from_ne_true _ (λ (t : are_own_words g next claim row ≡ true).
    let few = new_few g row (and_parts (are_new g [] row) _ t).0 in
    true≢false (sym (le-leb (length row) g.jobs few) ∙ h))

module _ (g : Givens) (p : ℕ) (next claim v : ℕ) (row : List ℕ) where
  abbrev heard : List ℕ
  heard = next ∷ claim ∷ row

  -- one that was too long stays so
  too_long : rest_of row ≡ None → nat_le (length row) g.jobs ≡ false → standing_in g p next claim (row ++ v ∷ []) (rest_of (row ++ v ∷ [])) ≡ None
  too_long none long = go v
    where
      longer : (k n m : ℕ) → m ≡ k + 1 → nat_le k n ≡ false → nat_le m n ≡ false
      longer k n m e h = grind (arith, nat_tests)

      go : (v : ℕ) → standing_in g p next claim (row ++ v ∷ []) (rest_of (row ++ v ∷ [])) ≡ None
      go zero =
          ap (λ o. standing_in g p next claim (row ++ 0 ∷ []) o) (rest_zero_push row none)
          ∙ ap (λ l. if are_own_words g next claim l then going g p true (Some (record_again g p next claim l)) else None) (entries_zero_push row none)
          ∙ ap (λ b. if b then going g p true (Some (record_again g p next claim row)) else None) (long_row g next claim row long)
      go (suc j) =
          ap (λ o. standing_in g p next claim (row ++ suc j ∷ []) o) (rest_none_push row j none)
          ∙ ap (λ b. if b then Some (Beginning (done_word g p (length (row ++ suc j ∷ []) + 1))) else None) (longer (length row) g.jobs (length (row ++ suc j ∷ [])) (length_push row (suc j)) long)

  -- the row isn't loaded yet
  push_loading : rest_of row ≡ None → (b : Bool) → nat_le (length row) g.jobs ≡ b
      → standing_of g p (heard ++ v ∷ []) ≡ standing_after g p v (heard ++ v ∷ []) (if b then Some (Beginning (done_word g p (length row + 1))) else None)
  push_loading none true e = refl
  push_loading none false e = too_long none e

  -- the machine goes on
  push_going : (rest : List ℕ) → rest_of row ≡ Some rest
      → standing_of g p (heard ++ v ∷ []) ≡ standing_after g p v (heard ++ v ∷ []) (standing_in g p next claim row (Some rest))
  push_going rest is =
      ap (λ o. standing_in g p next claim (row ++ v ∷ []) o) (rest_push row rest v is)
      ∙ (λ i. if are_own_words g next claim (entries_push row rest v is i)
      then going g p (nothing_push rest v i) (record_after_all g p (record_again g p next claim (entries_push row rest v is i)) (rest ++ v ∷ []))
      else None)
      ∙ by (are_own_words g next claim (entries_of row))
    where
      start : Record
      start = record_again g p next claim (entries_of row)

      -- by the record, and whether it can hear v
      hears : (f : Bool) (r : Record) (b : Bool) → going g p false (if b then Some (record_after g p v r) else None)
          ≡ (if b then Some (Going (with_record g p (record_after g p v r)) false) else None)
      hears f r true = refl
      hears f r false = refl

      from : (f : Bool) (o : Option Record) → going g p false (next_record g p v o) ≡ standing_after g p v (heard ++ v ∷ []) (going g p f o)
      from f None = refl
      from f (Some r) = hears f r (can_hear g v (want r))

      by : (b : Bool) → (if b then going g p false (record_after_all g p start (rest ++ v ∷ [])) else None)
          ≡ standing_after g p v (heard ++ v ∷ []) (if b then going g p (is_nothing rest) (record_after_all g p start rest) else None)
      by true = ap (going g p false) (record_push g p start rest v) ∙ from (is_nothing rest) (record_after_all g p start rest)
      by false = refl

-- the standing after one more value
pub standing_push : (g : Givens) (p : ℕ) (heard : List ℕ) (v : ℕ) → standing_of g p (heard ++ v ∷ []) ≡ standing_after g p v (heard ++ v ∷ []) (standing_of g p heard)
standing_push g p [] v = refl
standing_push g p (next ∷ []) v = refl
standing_push g p (next ∷ claim ∷ row) v = go (rest_of row) refl
  where
    go : (o : Option (List ℕ)) → rest_of row ≡ o → standing_of g p (next ∷ claim ∷ row ++ v ∷ []) ≡ standing_after g p v (next ∷ claim ∷ row ++ v ∷ []) (standing_in g p next claim row o)
    go None is = push_loading g p next claim v row is (nat_le (length row) g.jobs) refl
    go (Some rest) is = push_going g p next claim v row rest is

pub standing_more : (g : Givens) (p : ℕ) (heard : List ℕ) (r : Record) (fresh : Bool) (v : ℕ) → standing_of g p heard ≡ Some (Going (with_record g p r) fresh) → can_hear g v (want r) ≡ true
    → standing_of g p (heard ++ v ∷ []) ≡ Some (Going (with_record g p (record_after g p v r)) false)
standing_more g p heard r fresh v h n =
    standing_push g p heard v ∙ ap (standing_after g p v (heard ++ v ∷ [])) h ∙ ap (λ b. if b then Some (Going (with_record g p (record_after g p v r)) false) else None) n

-- after more numbers

none_stays : (g : Givens) (p : ℕ) (heard vs : List ℕ) → standing_of g p heard ≡ None → standing_of g p (heard ++ vs) ≡ None
none_stays g p heard [] h = ap (standing_of g p) (append-nil heard) ∙ h
none_stays g p heard (v ∷ vs) h =
    ap (standing_of g p) (sym (append_assoc heard (v ∷ []) vs))
    ∙ none_stays g p (heard ++ v ∷ []) vs (standing_push g p heard v ∙ ap (standing_after g p v (heard ++ v ∷ [])) h)

-- the standing then of a worker that goes on
pub more_going : (g : Givens) (p : ℕ) (heard : List ℕ) (r : Record) (fresh : Bool) (v : ℕ) (vs : List ℕ) → standing_of g p heard ≡ Some (Going (with_record g p r) fresh)
    → standing_of g p (heard ++ v ∷ vs) ≡ going g p false (record_after_all g p r (v ∷ vs))
more_going g p heard r fresh v [] h =
    standing_push g p heard v ∙ ap (standing_after g p v (heard ++ v ∷ [])) h ∙ by (can_hear g v (want r))
  where
    by : (b : Bool) → (if b then Some (Going (with_record g p (record_after g p v r)) false) else None) ≡ going g p false (if b then Some (record_after g p v r) else None)
    by true = refl
    by false = refl
more_going g p heard r fresh v (w ∷ ws) h =
    ap (standing_of g p) (sym (append_assoc heard (v ∷ []) (w ∷ ws)))
    ∙ by (can_hear g v (want r)) refl (λ e. more_going g p (heard ++ v ∷ []) (record_after g p v r) false w ws e)
  where
    one : standing_of g p (heard ++ v ∷ []) ≡ (if can_hear g v (want r) then Some (Going (with_record g p (record_after g p v r)) false) else None)
    one = standing_push g p heard v ∙ ap (standing_after g p v (heard ++ v ∷ [])) h

    by : (b : Bool) → can_hear g v (want r) ≡ b
        → (standing_of g p (heard ++ v ∷ []) ≡ Some (Going (with_record g p (record_after g p v r)) false)
        → standing_of g p ((heard ++ v ∷ []) ++ w ∷ ws) ≡ going g p false (record_after_all g p (record_after g p v r) (w ∷ ws)))
        → standing_of g p ((heard ++ v ∷ []) ++ w ∷ ws) ≡ going g p false (if b then record_after_all g p (record_after g p v r) (w ∷ ws) else None)
    by true e rest = rest (one ∙ ap (λ b. if b then Some (Going (with_record g p (record_after g p v r)) false) else None) e)
    by false e rest = none_stays g p (heard ++ v ∷ []) (w ∷ ws) (one ∙ ap (λ b. if b then Some (Going (with_record g p (record_after g p v r)) false) else None) e)

pub hear_parts : (g : Givens) (p : ℕ) (r : Record) (v : ℕ) (vs : List ℕ) (s : Record) → record_after_all g p r (v ∷ vs) ≡ Some s
    → (can_hear g v (want r) ≡ true) × (record_after_all g p (record_after g p v r) vs ≡ Some s)
hear_parts g p r v vs s = go (can_hear g v (want r)) refl
  where
    go : (b : Bool) → can_hear g v (want r) ≡ b → (if b then record_after_all g p (record_after g p v r) vs else None) ≡ Some s
        → (can_hear g v (want r) ≡ true) × (record_after_all g p (record_after g p v r) vs ≡ Some s)
    go true is h = (is, h)
    go false is h = absurd (none-some s h)

-- a possible value may be loaded
pub may_load : (g : Givens) (v : ℕ) (x : Want) → can_hear g v x ≡ true → MayLoad g v x
may_load g v (LoadNext q) h = leb-true _ _ h
may_load g v (LoadDone q k) h = (within (not (k == g.jobs + 1 && not (v == 0))) h, λ e. last v g.jobs k h e)
  where
    within : (c : Bool) → (nat_le v g.jobs && c) ≡ true → v ≤ g.jobs
    within c h = grind (arith, nat_tests)

    last : (v n k : ℕ) → (nat_le v n && not (k == n + 1 && not (v == 0))) ≡ true → k ≡ n + 1 → v ≡ 0
    last v n k h e = grind (arith, nat_tests)
may_load g v x h = tt

-- The fact about a list that its worker goes on so.
pub record IsGoingBy (g : Givens) (p : ℕ) (heard : List ℕ) (l : LocalView) : Type 0 where
  pub next : ℕ
  pub claim : ℕ
  pub row : List ℕ
  pub rest : List ℕ
  pub is : heard ≡ next ∷ claim ∷ row
  pub ends : rest_of row ≡ Some rest
  pub own : are_own_words g next claim (entries_of row) ≡ true
  pub after : record_after_all g p (record_again g p next claim (entries_of row)) rest ≡ Some l.state
  pub same : l ≡ with_record g p l.state

abbrev view_in : LocalView → Option Standing → LocalView
view_in d None = d
view_in d (Some (Beginning word)) = d
view_in d (Some (Going l fresh)) = l

pub going_by : (g : Givens) (p : ℕ) (heard : List ℕ) (l : LocalView) (fresh : Bool) → standing_of g p heard ≡ Some (Going l fresh) → IsGoingBy g p heard l
going_by g p [] l fresh h = absurd (true≢false (sym (ap is_going h)))
going_by g p (next ∷ []) l fresh h = absurd (true≢false (sym (ap is_going h)))
going_by g p (next ∷ claim ∷ row) l fresh h = go (rest_of row) refl h
  where
    none : (b : Bool) (word : ℕ) → (if b then Some (Beginning word) else None) ≡ Some (Going l fresh) → IsGoingBy g p (next ∷ claim ∷ row) l
    none true word e = absurd (true≢false (sym (ap is_going e)))
    none false word e = absurd (true≢false (sym (ap is_going e)))

    record_of : (rest : List ℕ) → rest_of row ≡ Some rest → are_own_words g next claim (entries_of row) ≡ true → (o : Option Record)
        → record_after_all g p (record_again g p next claim (entries_of row)) rest ≡ o → going g p (is_nothing rest) o ≡ Some (Going l fresh) → IsGoingBy g p (next ∷ claim ∷ row) l
    record_of rest ends own None is e = absurd (true≢false (sym (ap is_going e)))
    record_of rest ends own (Some r) is e =
        let state : r ≡ l.state = ap (record_in r) e in
        let view : with_record g p r ≡ l = ap (view_in l) e in
        record { next = next; claim = claim; row = row; rest = rest; is = refl; ends = ends; own = own; after = is ∙ ap (λ x. Some x) state; same = sym view ∙ ap (with_record g p) state }

    own_words : (rest : List ℕ) → rest_of row ≡ Some rest → (b : Bool) → are_own_words g next claim (entries_of row) ≡ b
        → (if b then going g p (is_nothing rest) (record_after_all g p (record_again g p next claim (entries_of row)) rest) else None) ≡ Some (Going l fresh) → IsGoingBy g p (next ∷ claim ∷ row) l
    own_words rest ends true own e = record_of rest ends own (record_after_all g p (record_again g p next claim (entries_of row)) rest) refl e
    own_words rest ends false own e = absurd (true≢false (sym (ap is_going e)))

    go : (o : Option (List ℕ)) → rest_of row ≡ o → standing_in g p next claim row o ≡ Some (Going l fresh) → IsGoingBy g p (next ∷ claim ∷ row) l
    go None is e = none (nat_le (length row) g.jobs) (done_word g p (length row + 1)) e
    go (Some rest) is e = own_words rest is (are_own_words g next claim (entries_of row)) refl e

-- its record is sound

isnt : (b : Bool) → not b ≡ true → b ≡ false
isnt b h = grind arith

again_sound : (g : Givens) (p : ℕ) → IsWorker g p → (next claim : ℕ) (dones : List ℕ) → are_own_words g next claim dones ≡ true → IsSoundRecord g p (record_again g p next claim dones)
again_sound g p o next claim dones = go (claim == length dones)
  where
    go : (b : Bool) → (are_new g [] dones && (nat_le next g.jobs && (b || ((claim == length dones + 1) && (is_within g.jobs next && not (has (set_of dones) next)))))) ≡ true
        → IsSoundRecord g p (if b then record_after_choice g p (record_of_dones g dones) else record (record_of_dones g dones) { phase = Holding next; claimed = dones ++ next ∷ [] })
    go true h = rested_fit g g.limits p o dones (and_parts _ _ h).0
    go false h =
        let a = and_parts (are_new g [] dones) _ h in
        let b = and_parts (nat_le next g.jobs) _ a.1 in
        let c = and_parts (claim == length dones + 1) _ b.1 in
        let d = and_parts (is_within g.jobs next) _ c.1 in
        doubted_fit g g.limits p o next dones a.0 (within_job g next d.0) (isnt _ d.1)

all_sound : (g : Givens) (p : ℕ) → IsWorker g p → (r : Record) (vs : List ℕ) (s : Record) → IsSoundRecord g p r → record_after_all g p r vs ≡ Some s → IsSoundRecord g p s
all_sound g p o r [] s fit h = subst (λ x. IsSoundRecord g p x) (same_Some r s h) fit
all_sound g p o r (v ∷ vs) s fit h =
    let parts = hear_parts g p r v vs s h in
    all_sound g p o (record_after g p v r) vs s (after_fit g g.limits p o r v fit (may_load g v (want r) parts.0)) parts.1

pub going_sound : (g : Givens) (p : ℕ) (heard : List ℕ) (l : LocalView) (fresh : Bool) → IsWorker g p → standing_of g p heard ≡ Some (Going l fresh) → IsSoundRecord g p l.state
going_sound g p heard l fresh o h =
    let by = going_by g p heard l fresh h in
    all_sound g p o (record_again g p by.next by.claim (entries_of by.row)) by.rest l.state (again_sound g p o by.next by.claim (entries_of by.row) by.own) by.after
