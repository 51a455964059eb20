-- A batch stores before it loads.
use Rattle.std.proofs.Common.{ℕ, Bool, true, false, List, [], ◌∷◌, ◌++◌}
use Rattle.std.specs.Prelude.{if◌then◌else◌, ◌==◌, map}
use Rattle.amo_kk.specs.Step.{want, record_after}
use Rattle.amo_kk.specs.Words.{next_word, claim_word, done_word}
use Rattle.amo_params.specs.declared.givens.Givens.{Givens}
use Rattle.amo_kk.specs.declared.model.Record.{Record}
use Rattle.amo_kk.specs.declared.phase.Want.{Want}
use Rattle.amo_kk.specs.declared.phase.Want.TheVariants.{StoreNext, LoadNext, LoadDone, StoreDone}
use Rattle.amo_process.specs.declared.standing.Standing.{Standing}
use Rattle.amo_process.specs.declared.standing.Standing.TheVariants.{Beginning, Going}
use Rattle.amo_process.specs.declared.batch.Item.{Item}
use Rattle.amo_process.specs.declared.batch.Item.TheVariants.{Store, Load, LoadUntilZero}
use Rattle.amo_process.specs.Batch.{others_above, last_word, row_item, loads_above, rows_above, items_wanted, items_from, items_of, HasNoStore, StoresFirst}

loads_none : (xs : List ℕ) (rest : List Item) → HasNoStore rest → HasNoStore (map (λ i. Load (next_word i)) xs ++ rest)
loads_none [] rest h = h
loads_none (x ∷ xs) rest h = loads_none xs rest h

rows_none : (g : Givens) (fronts xs : List ℕ) → HasNoStore (map (row_item g fronts) xs)
rows_none g fronts [] = tt
rows_none g fronts (x ∷ xs) = rows_none g fronts xs

wanted_first : (g : Givens) (p : ℕ) (fronts : List ℕ) (x : Want) → StoresFirst (items_wanted g p fronts x)
wanted_first g p fronts (StoreNext j) = none (loads_above g p 0 ++ rows_above g p fronts 0) (loads_none (others_above g p 0) (rows_above g p fronts 0) (rows_none g fronts (others_above g p 0)))
  where
    none : (items : List Item) → HasNoStore items → StoresFirst items
    none [] h = tt
    none (Store word value ∷ items) h = absurd h
    none (Load word ∷ items) h = h
    none (LoadUntilZero word last ∷ items) h = h
wanted_first g p fronts (LoadNext q) = loads_none (others_above g p q) (rows_above g p fronts 0) (rows_none g fronts (others_above g p 0))
wanted_first g p fronts (LoadDone q k) = rows_none g fronts (others_above g p q)
wanted_first g p fronts x = tt

from_first : (g : Givens) (p : ℕ) (r : Record) (x : Want) → StoresFirst (items_from g p r x)
from_first g p r (StoreDone k j) = wanted_first g p (record_after g p 0 r).fronts (want (record_after g p 0 r))
from_first g p r x = wanted_first g p r.fronts x

pub stores_first : (g : Givens) (p : ℕ) (s : Standing) → StoresFirst (items_of g p s)
stores_first g p (Beginning word) = go (word == next_word p) (word == claim_word g p)
  where
    go : (b c : Bool) → StoresFirst (if b then Load word ∷ Load (claim_word g p) ∷ LoadUntilZero (done_word g p 1) (last_word g p) ∷ []
        else if c then Load word ∷ LoadUntilZero (done_word g p 1) (last_word g p) ∷ [] else LoadUntilZero word (last_word g p) ∷ [])
    go true c = tt
    go false true = tt
    go false false = tt
stores_first g p (Going l fresh) = from_first g p l.state (want l.state)
