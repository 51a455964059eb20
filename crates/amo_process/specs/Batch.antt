-- Batches: all that is known of a worker's next loads and stores before it reads more.
use Rattle.std.specs.Prelude.{⊤, ◌≡◌, ℕ, zero, suc, ◌+◌, ◌-◌, ◌<◌, ◌≤◌, Bool, true, false, not, ◌||◌, ◌⊎◌, List, [], ◌∷◌, ◌++◌, Option, Some, None, map, set, slice_index, ◌==◌, if◌then◌else◌}
use Rattle.std.specs.List.{filter, range_with_len}
use Rattle.amo_sets.specs.Lists.{numbered}
use Rattle.amo_kk.specs.Record.{wants_nothing}
use Rattle.amo_kk.specs.Step.{want, is_load, record_after}
use Rattle.amo_kk.specs.Words.{next_word, claim_word, done_word, word_count}
use Rattle.amo_params.specs.declared.givens.Givens.{Givens}
use Rattle.amo_kk.specs.declared.model.Record.{Record}
use Rattle.amo_kk.specs.declared.phase.Want.{Want}
use Rattle.amo_kk.specs.declared.phase.Want.TheVariants.{StoreNext, LoadNext, LoadDone, StoreClaim, StoreDone, Nothing}
use Rattle.amo_process.specs.declared.standing.Standing.{Standing}
use Rattle.amo_process.specs.declared.standing.Standing.TheVariants.{Beginning, Going}
use Rattle.amo_process.specs.declared.batch.Item.{Item}
use Rattle.amo_process.specs.declared.batch.Item.TheVariants.{Store, Load, LoadUntilZero}
use Rattle.amo_process.specs.Heard.{to_perform, in_doubt}
use Rattle.amo_process.specs.Shared.{Shared, with_heard}

-- the workers above q, without p
abbrev pub others_above : Givens → ℕ → ℕ → List ℕ
others_above g p q = filter (λ i. not (i == p)) (range_with_len (q + 1) (g.workers - q))

-- the last place of the row of q, where always 0 stands
abbrev pub last_word : Givens → ℕ → ℕ
last_word g q = done_word g q (g.jobs + 1)

-- the row of q, of which so many entries were read, from the next one on
abbrev pub row_item : Givens → List ℕ → ℕ → Item
row_item g fronts q = LoadUntilZero (done_word g q (numbered 0 fronts q + 1)) (last_word g q)

-- the announcements of the others of p above q
abbrev pub loads_above : Givens → ℕ → ℕ → List Item
loads_above g p q = map (λ i. Load (next_word i)) (others_above g p q)

-- the rows of the others of p above q
abbrev pub rows_above : Givens → ℕ → List ℕ → ℕ → List Item
rows_above g p fronts q = map (row_item g fronts) (others_above g p q)

-- the load or store that worker p wants, and, but for a claim and a filing, the rest of its pass:
-- the announcements and the rows that are still to be read
abbrev pub items_wanted : Givens → ℕ → List ℕ → Want → List Item
items_wanted g p fronts (StoreNext j) = Store (next_word p) j ∷ loads_above g p 0 ++ rows_above g p fronts 0
items_wanted g p fronts (LoadNext q) = Load (next_word q) ∷ loads_above g p q ++ rows_above g p fronts 0
items_wanted g p fronts (LoadDone q k) = LoadUntilZero (done_word g q k) (last_word g q) ∷ rows_above g p fronts q
items_wanted g p fronts (StoreClaim c j) = Store (claim_word g p) c ∷ []
items_wanted g p fronts (StoreDone k j) = Store (done_word g p k) j ∷ []
items_wanted g p fronts Nothing = []

-- the items from this access on; after a job is recorded as done they go on with the next access,
-- since a store gives no value
abbrev pub items_from : Givens → ℕ → Record → Want → List Item
items_from g p r (StoreDone k j) =
    Store (done_word g p k) j ∷ items_wanted g p (record_after g p 0 r).fronts (want (record_after g p 0 r))
items_from g p r want = items_wanted g p r.fronts want

-- its own words, from this one on
abbrev pub items_beginning : Givens → ℕ → ℕ → List Item
items_beginning g p word =
    if word == next_word p
    then Load word ∷ Load (claim_word g p) ∷ LoadUntilZero (done_word g p 1) (last_word g p) ∷ []
    else if word == claim_word g p
    then Load word ∷ LoadUntilZero (done_word g p 1) (last_word g p) ∷ []
    else LoadUntilZero word (last_word g p) ∷ []

-- the batch of worker p that stands so
abbrev pub items_of : Givens → ℕ → Standing → List Item
items_of g p (Beginning word) = items_beginning g p word
items_of g p (Going l fresh) = items_from g p l.state (want l.state)

-- the batch of a worker that may stand nowhere, to a filing, and no further
abbrev pub items_to_filing : Givens → ℕ → Option Standing → List Item
items_to_filing g p None = []
items_to_filing g p (Some (Beginning word)) = items_beginning g p word
items_to_filing g p (Some (Going l fresh)) = items_wanted g p l.state.fronts (want l.state)

-- whether this is a filing
abbrev pub is_filing : Want → Bool
is_filing (StoreDone k j) = true
is_filing want = false

-- whether a worker that stands so is about to file a job
abbrev pub files : Standing → Bool
files (Beginning word) = false
files (Going l fresh) = is_filing (want l.state)

-- The items that are left after one more value. A store and a load give one value, a row all up to
-- its first 0. None if no item is left, or if a store gave another value than 0.
abbrev pub left_after : List Item → ℕ → Option (List Item)
left_after [] v = None
left_after (Store word value ∷ items) zero = Some items
left_after (Store word value ∷ items) (suc v) = None
left_after (Load word ∷ items) v = Some items
left_after (LoadUntilZero word last ∷ items) zero = Some items
left_after (LoadUntilZero word last ∷ items) (suc v) = Some (LoadUntilZero (word + 1) last ∷ items)

-- the function f of the items that are left; None if the values did not fit
abbrev pub left_if : (List Item → Option (List Item)) → Option (List Item) → Option (List Item)
left_if f None = None
left_if f (Some items) = f items

-- the items that are left after these values, one after the other; None if a value doesn't fit them
abbrev pub left_after_all : List Item → List ℕ → Option (List Item)
left_after_all items [] = Some items
left_after_all items (v ∷ vs) = left_if (λ rest. left_after_all rest vs) (left_after items v)

-- the worker wants to load something
abbrev pub wants_load : Standing → Bool
wants_load (Beginning word) = true
wants_load (Going l fresh) = is_load (want l.state)

-- Worker p, in this standing, wants what is left of its batch. If nothing is left, the batch was as
-- long as it could be: the worker's next access isn't a load.
abbrev pub WantsLeft : Givens → ℕ → Standing → List Item → Type 0
WantsLeft g p s [] = wants_load s ≡ false
WantsLeft g p s (item ∷ rest) = items_of g p s ≡ item ∷ rest

-- whether worker p loads anything by these, or announces a job
abbrev pub loads_or_announces : ℕ → List Item → Bool
loads_or_announces p [] = false
loads_or_announces p (Store word value ∷ items) = (word == next_word p) || loads_or_announces p items
loads_or_announces p (Load word ∷ items) = true
loads_or_announces p (LoadUntilZero word last ∷ items) = true

-- the worker has a job to perform before anything else, or goes on no more
abbrev pub PerformsOrRests : Standing → Type 0
PerformsOrRests (Beginning word) = ⊥
PerformsOrRests (Going l fresh) = (1 ≤ to_perform (Going l fresh)) ⊎ (wants_nothing l.state.phase ≡ true)

-- The standing of worker p once nothing is left of these items. Its next access is no load. If it
-- has loaded nothing by them and announced nothing, it has a job to perform now, or goes on no
-- more.
pub record IsAtEnd (p : ℕ) (items : List Item) (s : Standing) : Type 0 where
  pub no_load : wants_load s ≡ false
  pub rests : loads_or_announces p items ≡ false → PerformsOrRests s

-- in the middle of a batch no job is to be performed, and none is in doubt
abbrev pub HasNoJob : Standing → List Item → Type 0
HasNoJob s [] = ⊤
HasNoJob s (item ∷ rest) = (to_perform s ≡ 0) × (in_doubt s ≡ 0)

-- the shared words and the lists after the process of p has made the first access of this item
abbrev pub carried_out : Shared → ℕ → Item → Shared
carried_out s p (Store word value) = with_heard s p 0 (set s.words word value)
carried_out s p (Load word) = with_heard s p (slice_index s.words word) s.words
carried_out s p (LoadUntilZero word last) = with_heard s p (slice_index s.words word) s.words

-- the words of the item are shared words
abbrev pub IsWithin : Givens → Item → Type 0
IsWithin g (Store word value) = word < word_count g
IsWithin g (Load word) = word < word_count g
IsWithin g (LoadUntilZero word last) = (word ≤ last) × (last < word_count g)

-- each of these items is within the registers
abbrev pub AreWithin : Givens → List Item → Type 0
AreWithin g [] = ⊤
AreWithin g (item ∷ items) = IsWithin g item × AreWithin g items

-- nothing is stored by these
abbrev pub HasNoStore : List Item → Type 0
HasNoStore [] = ⊤
HasNoStore (Store word value ∷ items) = ⊥
HasNoStore (Load word ∷ items) = HasNoStore items
HasNoStore (LoadUntilZero word last ∷ items) = HasNoStore items

-- what is stored by these is stored before anything is loaded
abbrev pub StoresFirst : List Item → Type 0
StoresFirst [] = ⊤
StoresFirst (Store word value ∷ items) = StoresFirst items
StoresFirst (Load word ∷ items) = HasNoStore items
StoresFirst (LoadUntilZero word last ∷ items) = HasNoStore items
