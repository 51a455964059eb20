-- The steps of a worker: what each loads or stores, the record after it, and what it shows.
use Rattle.std.specs.Prelude.{◌≡◌, ℕ, ◌+◌, ◌-◌, ◌^◌, ◌≤◌, min, Bool, true, false, List, [], ◌∷◌, ◌++◌, length, nat_le, ◌==◌, if◌then◌else◌, ⊤}
use Rattle.amo_sets.specs.Lists.{numbered, put}
use Rattle.amo_sets.specs.Sets.{with_number}
use Rattle.amo_params.specs.Givens.{next_other}
use Rattle.amo_kk.specs.Record.{is_over}
use Rattle.amo_kk.specs.Choice.{record_after_choice, record_after_check}
use Rattle.amo_params.specs.declared.givens.Givens.{Givens}
use Rattle.amo_kk.specs.declared.phase.Phase.{Phase}
use Rattle.amo_kk.specs.declared.phase.Phase.TheVariants.{Announcing, Trying, Reading, Claiming, Holding, Over, Left}
use Rattle.amo_kk.specs.declared.model.Record.{Record}
use Rattle.amo_kk.specs.declared.phase.Want.{Want}
use Rattle.amo_kk.specs.declared.phase.Want.TheVariants.{StoreNext, LoadNext, LoadDone, StoreClaim, StoreDone, Nothing}
use Rattle.amo_kk.specs.declared.event.Event.{Event}
use Rattle.amo_kk.specs.declared.event.Event.TheVariants.{Claimed as ClaimedEvent, Done as DoneEvent, Ended as EndedEvent, Left as LeftEvent}
use Rattle.amo_kk.specs.declared.event.Shown.{Shown}
use Rattle.amo_kk.specs.declared.event.Shown.TheVariants.{Quiet, Claimed, Done, DoneEnded, Ended, Left as LeftShown}

-- the load or store of each phase, for this record
abbrev pub want_in : Record → Phase → Want
want_in r (Announcing j) = StoreNext j
want_in r (Trying j q) = LoadNext q
want_in r (Reading j q) = LoadDone q (numbered 0 r.fronts q + 1)
want_in r (Claiming j) = StoreClaim (length r.claimed + 1) j
want_in r (Holding j) = StoreDone (length r.dones + 1) j
want_in r Over = Nothing
want_in r Left = Nothing

-- the load or store that the worker wants next
abbrev pub want : Record → Want
want r = want_in r r.phase

-- whether a load is wanted
abbrev pub is_load : Want → Bool
is_load (LoadNext q) = true
is_load (LoadDone q k) = true
is_load want = false

-- whether a store is wanted
abbrev pub is_store : Want → Bool
is_store (StoreNext j) = true
is_store (StoreClaim c j) = true
is_store (StoreDone k j) = true
is_store want = false

-- the set tried with the announced job v, where 0 announces nothing
abbrev pub with_announced : ℕ → List ℕ → List ℕ
with_announced v tried = if v == 0 then tried else with_number v tried

-- the record about to read the row of q, or after the check if there are only q - 1 workers
abbrev pub record_at_row : Givens → ℕ → ℕ → ℕ → Record → Record
record_at_row g p j q r = if nat_le q g.workers then record r { phase = Reading j q } else record_after_check g p j r

-- the record about to read the announcement of q, or at the first row if there are only q - 1
-- workers
abbrev pub record_at_announcement : Givens → ℕ → ℕ → ℕ → Record → Record
record_at_announcement g p j q r =
    if nat_le q g.workers then record r { phase = Trying j q } else record_at_row g p j (next_other p 0) r

-- the record after the step of each phase, v being what was loaded, but for the count of steps
abbrev pub record_after_phase : Givens → ℕ → ℕ → Record → Phase → Record
record_after_phase g p v r (Announcing j) = record_at_announcement g p j (next_other p 0) r
record_after_phase g p v r (Trying j q) = record_at_announcement g p j (next_other p q) (record r { tried = with_announced v r.tried })
record_after_phase g p v r (Reading j q) =
    if v == 0
    then record_at_row g p j (next_other p q) r
    else record r { known = with_number v r.known; fronts = put r.fronts q (numbered 0 r.fronts q + 1) }
record_after_phase g p v r (Claiming j) = record r { phase = Holding j; claimed = r.claimed ++ j ∷ [] }
record_after_phase g p v r (Holding j) = record_after_choice g p (record r { dones = r.dones ++ j ∷ []; known = with_number j r.known })
record_after_phase g p v r Over = r
record_after_phase g p v r Left = r

-- the record after the step of worker p, v being what was loaded
abbrev pub record_after : Givens → ℕ → ℕ → Record → Record
record_after g p v r = let e = record_after_phase g p v r r.phase in record e { steps = min (r.steps + 1) (2 ^ 64 - 1) }

-- the record after leaving, which a caller asks for
abbrev pub record_after_leave : Record → Record
record_after_leave r = record r { phase = Left; steps = min (r.steps + 1) (2 ^ 64 - 1) }

-- what a step shows to its caller, by the phases before and after it
abbrev pub shown : Phase → Phase → Shown
shown (Claiming j) after = Claimed j
shown (Holding j) after = if is_over after then DoneEnded j else Done j
shown Over after = Quiet
shown Left after = Quiet
shown phase after = if is_over after then Ended else Quiet

-- the events of worker p that this adds to the history
abbrev pub events_of : ℕ → Shown → List Event
events_of p Quiet = []
events_of p (Claimed j) = ClaimedEvent p j ∷ []
events_of p (Done j) = DoneEvent p j ∷ []
events_of p (DoneEnded j) = DoneEvent p j ∷ EndedEvent p ∷ []
events_of p Ended = EndedEvent p ∷ []
events_of p LeftShown = LeftEvent p ∷ []

-- the end of worker p, if this phase is over
abbrev pub ended_if_over : ℕ → Phase → List Event
ended_if_over p phase = if is_over phase then EndedEvent p ∷ [] else []

-- v may be what the wanted load gives: a job or 0, and 0 in the last place of a row
abbrev pub MayLoad : Givens → ℕ → Want → Type 0
MayLoad g v (LoadNext q) = v ≤ g.jobs
MayLoad g v (LoadDone q k) = (v ≤ g.jobs) × (k ≡ g.jobs + 1 → v ≡ 0)
MayLoad g v want = ⊤
