-- The rest that a floor of one worker leaves.
use Rattle.std.specs.Prelude.{◌≡◌, ℕ, not, List, filter, All, replicate}
use Rattle.std.specs.List.{enumerate_from}
use Rattle.amo_sets.specs.Sets.{has, AreDistinct}
use Rattle.amo_words.specs.declared.rule.Spot.TheVariants.{Home}
use Rattle.amo_words.specs.declared.floor.settling.Settlement.{Settlement}
use Rattle.amo_words.specs.Faces.{spots}
use Rattle.amo_words.specs.Settling.{IsWhole}
use Rattle.amo_crew.specs.Outcomes.{jobs_of}
use Rattle.amo_crew.specs.Running.{IsRelated}
use Rattle.amo_example_payments.specs.declared.second.Leftover.{Leftover}
use Rattle.amo_example_payments.specs.declared.second.LeftoverFault.{LeftoverFault}
use Rattle.amo_example_payments.specs.declared.second.LeftoverFault.TheVariants.{Untried, Unhired, Unsettled}

-- Each answer is that of its job's payload, no job has two, and the others come back, each with its
-- own payload, in the order of their numbers. None is in doubt.
pub record IsLeftover {P Out : Type 0} (related : ℕ → ℕ → P → Out → Type 0) (payloads : List P) (r : Leftover P Out) : Type 0 where
  pub answers : All (IsRelated related payloads) r.outputs.items
  pub distinct : AreDistinct (jobs_of r.outputs.items)
  pub free : r.free.items ≡ filter (λ t. not (has (jobs_of r.outputs.items) t.0)) (enumerate_from 1 payloads)

-- A floor of these payloads gives this back. It is the payloads themselves if nothing was
-- performed, or the floor as it was opened, or the floor and the answers. These make a whole rest
-- with each settlement of the floor.
abbrev pub IsLeftoverFault : {P Out : Type 0} → (ℕ → ℕ → P → Out → Type 0) → List P → LeftoverFault P Out → Type 0
IsLeftoverFault related payloads (Untried back) = back.items ≡ payloads
IsLeftoverFault related payloads (Unhired floor book) = (book.table_id ≡ floor.table_id) × (book.view.payloads ≡ payloads) × (spots book ≡ replicate 1 Home)
IsLeftoverFault {P} {Out} related payloads (Unsettled floor book outputs) = (book.table_id ≡ floor.table_id)
    × ((s : Settlement P) (r : Leftover P Out) → IsWhole book.view.givens book.view.payloads book.view.seen (spots book) s → r.outputs.items ≡ outputs.items → r.free.items ≡ s.free.items → IsLeftover related payloads r)
