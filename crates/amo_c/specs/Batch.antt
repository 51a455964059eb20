-- The reply of `amo_batch`, as a function of its arguments. Refused memory is left out.
use Rattle.std.specs.Prelude.{◌≡◌, ℕ, ◌<◌, ◌≤◌, List, map, Result, Ok, ◌==◌, if◌then◌else◌}
use Rattle.amo_process.specs.Batch.{items_of}
use Rattle.amo_process.specs.declared.standing.Standing.{Standing}
use Rattle.amo_process.specs.declared.batch.Item.{Item}
use Rattle.amo_process.specs.declared.batch.Item.TheVariants.{Store, Load, LoadUntilZero}
use Rattle.amo_c.specs.Codes.{access_code}
use Rattle.amo_c.specs.Reply.{reply}
use Rattle.amo_c.specs.declared.codes.AccessCode.TheVariants.{Load as ToLoad, Store as ToStore, LoadRow}
use Rattle.amo_c.specs.declared.codes.FaultCode.{FaultCode}
use Rattle.amo_c.specs.declared.item.AmoItem.{AmoItem}
use Rattle.amo_c.specs.declared.told.AmoGivens.{AmoGivens}
use Rattle.amo_c.specs.declared.told.AmoNext.{AmoNext}
use Rattle.amo_c.specs.declared.worker.Worker.{Worker}

-- an item as C sees it; for a row, with the last word too
abbrev pub item_told : Item → AmoItem
item_told (Store word value) = record { access = access_code ToStore; word = word; value = value }
item_told (Load word) = record { access = access_code ToLoad; word = word; value = 0 }
item_told (LoadUntilZero word last) = record { access = access_code LoadRow; word = word; value = last }

-- the batch of a worker in this standing, as C sees it
abbrev pub batch_of : Worker → Standing → List AmoItem
batch_of w s = map item_told (items_of w.givens w.number s)

-- the items that `amo_batch` writes if there are places for all
abbrev pub items_reply : AmoGivens → ℕ → List ℕ → Result (List AmoItem) FaultCode
items_reply x p heard = reply (λ w s. Ok (batch_of w s)) x p heard

-- the words of the item are among the first n; those of a row go from its word to its last
pub record IsBelow (n : ℕ) (i : AmoItem) : Type 0 where
  pub word : i.word < n
  pub row : i.access ≡ access_code LoadRow → (i.word ≤ i.value) × (i.value < n)

-- The next access is the first access of the item: for a row the load of its first word.
pub record Tells (n : AmoNext) (i : AmoItem) : Type 0 where
  pub access : n.access ≡ (if i.access == access_code ToStore then access_code ToStore else access_code ToLoad)
  pub word : n.word ≡ i.word
  pub value : n.value ≡ (if i.access == access_code ToStore then i.value else 0)
