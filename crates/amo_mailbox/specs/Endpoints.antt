-- An inlet and an outlet as clauses see them.
use Rattle.std.specs.List.{list_any}
use Rattle.std.specs.List.Sorted.{IsPermutation, IsNonDecreasingBy}
use Rattle.std.specs.Prelude.{Bool, ◌==◌, flat_map, ◌≡◌, ℕ, ◌≤◌, List, [], ◌++◌, length}
use Rattle.crossbeam_queue.specs.Passes.{view, IsPassOf, ruled_capacity}
use Rattle.amo_mailbox.specs.declared.output.Output.{Output}
use Rattle.amo_mailbox.specs.declared.pass_state.PassState.{PassState}
use Rattle.amo_mailbox.specs.declared.pass_state.PassState.TheVariants.{Sends, Gets, Spent}
use Rattle.amo_mailbox.specs.declared.queue.Queue.{Queue}
use Rattle.amo_mailbox.specs.declared.inlet.Inlet.{Inlet}
use Rattle.amo_mailbox.specs.declared.outlet.Outlet.{Outlet}
use Rattle.amo_mailbox.specs.Mailbox.{of, taken_of, made_of, back_of}

module _ {Out : Type 0} where
  -- for how many outputs the queue has places
  abbrev pub places : Queue Out → ℕ
  places queue = ruled_capacity queue.ring

  -- what an outlet's pass says that it sent
  abbrev pub sent_by : PassState Out → List (Output Out)
  sent_by (Sends p put) = put
  sent_by (Gets taken made back) = []
  sent_by Spent = []

  -- what the outlet was given: what it sent, and then what it kept
  abbrev pub given : Outlet Out → List (Output Out)
  given o = sent_by (view o.pass) ++ o.kept

  -- they belong together
  pub record IsOutletOf (queue : Queue Out) (o : Outlet Out) : Type 0 where
    pub pass : IsPassOf queue.ring o.pass
    pub view_is : view o.pass ≡ Sends o.worker (sent_by (view o.pass))
    pub kept_of : of o.worker o.kept ≡ o.kept
    pub counted : length (given o) ≡ o.put_count

  pub record IsInletOf (queue : Queue Out) (i : Inlet Out) : Type 0 where
    pub pass : IsPassOf queue.ring i.pass
    pub view_is : view i.pass ≡ Gets i.taken (made_of (view i.pass)) []
    pub taken_in : length i.taken ≤ i.room

  -- an outlet that was given nothing yet, with room for n outputs
  pub record IsNewOutletOf (queue : Queue Out) (n : ℕ) (o : Outlet Out) : Type 0 where
    pub belongs : IsOutletOf queue o
    pub empty : given o ≡ []
    pub room_is : o.room ≡ n

  -- an inlet that took nothing yet, with room for n outputs
  pub record IsNewInletOf (queue : Queue Out) (n : ℕ) (i : Inlet Out) : Type 0 where
    pub belongs : IsInletOf queue i
    pub empty : i.taken ≡ []
    pub room_is : i.room ≡ n

  -- what an outlet's pass says at the end: its worker, and what was sent
  abbrev pub worker_and_sent : Outlet Out → ℕ × List (Output Out)
  worker_and_sent o = (o.worker, sent_by (view o.pass))

  abbrev pub has_worker : List (Outlet Out) → ℕ → Bool
  has_worker os p = list_any (λ o. p == o.worker) os

  -- what does not change when the passes go
  abbrev pub worker_and_kept : Outlet Out → ℕ × List (Output Out)
  worker_and_kept o = (o.worker, o.kept)

  -- it is an inlet's pass
  abbrev pub IsGets : PassState Out → Type 0
  IsGets v = v ≡ Gets (taken_of v) (made_of v) (back_of v)

  -- the list ends with this one
  abbrev pub EndsWith : List (Output Out) → List (Output Out) → Type 0
  EndsWith xs ys = (front : List (Output Out)) × (xs ≡ front ++ ys)

  -- it ends with what the outlets kept, by rising worker
  abbrev pub EndsByRisingWorker : List (Output Out) → List (Outlet Out) → Type 0
  EndsByRisingWorker xs os = (sorted : List (Outlet Out)) × IsPermutation os sorted × IsNonDecreasingBy (λ o. o.worker) sorted × EndsWith xs (flat_map (λ o. o.kept) sorted)
