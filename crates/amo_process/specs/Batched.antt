-- Processes over one list of registers that ask for batches. Each carries out what is left of its
-- batch, one access at a time, and asks anew if nothing is left. The accesses of several may come
-- in any order.
use Rattle.std.specs.Prelude.{ℕ, List, [], ◌∷◌, Option, Some, None, slice_index}
use Rattle.amo_sets.specs.Lists.{numbered, put, table}
use Rattle.amo_params.specs.declared.givens.Givens.{Givens}
use Rattle.amo_process.specs.declared.model.Happening.{Happening}
use Rattle.amo_process.specs.declared.model.Happening.TheVariants.{Steps, Begins, Leaves}
use Rattle.amo_process.specs.declared.standing.Standing.{Standing}
use Rattle.amo_process.specs.declared.batch.Item.{Item}
use Rattle.amo_process.specs.declared.batch.Item.TheVariants.{Store, Load, LoadUntilZero}
use Rattle.amo_process.specs.Shared.{Shared, first_shared, standing_at, shared_after}
use Rattle.amo_process.specs.Batch.{items_of, left_after, carried_out}

-- The shared words and lists, and for each worker what is left of the batch that its process asked
-- for.
pub record Batched : Type 0 where
  pub shared : Shared
  pub left : List (List Item)

-- nobody has asked for anything
abbrev pub first_batched : Givens → Batched
first_batched g = record { shared = first_shared g; left = table g.workers (λ _. []) }

-- the batch of a worker, if it has a standing
abbrev pub batch_at : Givens → ℕ → Option Standing → List Item
batch_at g p None = []
batch_at g p (Some s) = items_of g p s

-- the next items of the process of p: what is left, or, if nothing is left, the batch for which it
-- asks
abbrev pub next_items : Givens → Shared → ℕ → List Item → List Item
next_items g s p [] = batch_at g p (standing_at g s p)
next_items g s p (item ∷ items) = item ∷ items

-- what the first access of the item lets its process hear
abbrev pub heard_by : Shared → Item → ℕ
heard_by s (Store word value) = 0
heard_by s (Load word) = slice_index s.words word
heard_by s (LoadUntilZero word last) = slice_index s.words word

-- what is left, or nothing
abbrev pub left_or_none : Option (List Item) → List Item
left_or_none None = []
left_or_none (Some items) = items

-- after the first access of these
abbrev pub after_access : Batched → ℕ → List Item → Batched
after_access b p [] = b
after_access b p (item ∷ items) =
    record { shared = carried_out b.shared p item; left = put b.left p (left_or_none (left_after (item ∷ items) (heard_by b.shared item))) }

-- a process that begins has asked for nothing, and one that asks to leave asks anew
abbrev pub batched_after : Givens → Batched → Happening → Batched
batched_after g b (Steps p) = after_access b p (next_items g b.shared p (numbered [] b.left p))
batched_after g b (Begins p) = record { shared = shared_after g b.shared (Begins p); left = put b.left p [] }
batched_after g b (Leaves p) = record { shared = shared_after g b.shared (Leaves p); left = put b.left p [] }

-- after all of these, in their order
abbrev pub batched_after_all : Givens → Batched → List Happening → Batched
batched_after_all g b [] = b
batched_after_all g b (h ∷ hs) = batched_after_all g (batched_after g b h) hs

-- what happens to processes by batches from the first on
abbrev pub batched_of : Givens → List Happening → Batched
batched_of g hs = batched_after_all g (first_batched g) hs
