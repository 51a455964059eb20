-- Within this crate, but for `HasTurned` and `HasLeft`, which callers read: the change of a handle
-- by each kind of step. A kind is stated by cases on the role of the handle's view. Nothing is
-- stated for the roles that never make such a step, so no such step teaches them anything.
use Rattle.std.specs.Prelude.{◌≡◌, ℕ, ◌+◌, ◌-◌, List, [], ◌∷◌, ◌++◌, slice_set, nat_lt, if◌then◌else◌, true, false, Option, Some, None, replicate, ⊤}
use mathlib.Core.Option.{some}
use lib.ListN.{get_elem?}
use Rattle.atomic_table.specs.Table.{Step, Me, rest}
use Rattle.amo_kk.specs.Step.{want, record_after, record_after_leave, MayLoad}
use Rattle.amo_kk.specs.World.{loaded_value, world_of}
use Rattle.amo_kk.specs.Machine.{LocalView}
use Rattle.amo_params.specs.declared.givens.Givens.{Givens}
use Rattle.amo_params.specs.declared.moves.Move.{Move}
use Rattle.amo_params.specs.declared.moves.Move.TheVariants.{Turn, Leave}
use Rattle.amo_kk.specs.declared.phase.Phase.{Phase}
use Rattle.amo_kk.specs.declared.phase.Phase.TheVariants.{Claiming}
use Rattle.amo_words.specs.declared.rule.Role.{Role}
use Rattle.amo_words.specs.declared.rule.Role.TheVariants.{Opening, Keeping, Working, Spent}
use Rattle.amo_words.specs.declared.rule.Spot.{Spot}
use Rattle.amo_words.specs.declared.rule.Spot.TheVariants.{Home, Out, Back}
use Rattle.amo_words.specs.declared.rule.View.{View}
use Rattle.amo_words.specs.Logs.{moves_of, first_machine, AreOwn, StartsWith}
use Rattle.amo_words.specs.Rule.{AllStand, spent_view}

-- a worker's steps

-- the machine after its turn, v being what was loaded
abbrev pub machine_turned : LocalView → ℕ → LocalView
machine_turned l v = record l { state = record_after l.givens l.number v l.state }

-- the machine after leaving
abbrev pub machine_left : LocalView → LocalView
machine_left l = record l { state = record_after_leave l.state }

-- the view after this move of its worker, whose machine is now l; others have moved in between
abbrev pub view_after : {P : Type 0} → View P → List Move → Move → LocalView → View P
view_after v between m l = record v { seen = (v.seen ++ between) ++ m ∷ []; moves = []; role = Working l }

-- From the view v the worker with the machine l took a turn to the view w, n being the loaded
-- value, or 0. Since its last step only others have moved, all moves are turns and leaves, and a
-- load gave the value that its register had in the world just before.
pub record HasTurned {P : Type 0} (v : View P) (l : LocalView) (n : ℕ) (w : View P) : Type 0 where
  pub between : List Move
  pub others : moves_of l.number between ≡ 0
  pub own : AreOwn v.givens (v.seen ++ between)
  pub loads : n ≡ loaded_value (world_of v.givens (v.seen ++ between)) (want l.state)
  pub leads : w ≡ view_after v between (Turn l.number) (machine_turned l n)

-- the same by the role of v
abbrev pub TurnedBy : {P : Type 0} → View P → Role → ℕ → View P → Type 0
TurnedBy v (Working l) n w = HasTurned v l n w
TurnedBy v role n w = ⊤

-- n may be what the worker wants to load
abbrev pub MayLoadBy : Role → ℕ → Type 0
MayLoadBy (Working l) n = MayLoad l.givens n (want l.state)
MayLoadBy role n = ⊤

-- From the view v the worker with the machine l has left, to the view w.
pub record HasLeft {P : Type 0} (v : View P) (l : LocalView) (w : View P) : Type 0 where
  pub between : List Move
  pub others : moves_of l.number between ≡ 0
  pub own : AreOwn v.givens (v.seen ++ between)
  pub leads : w ≡ view_after v between (Leave l.number) (machine_left l)

-- the same by the role of v
abbrev pub LeftBy : {P : Type 0} → View P → Role → View P → Type 0
LeftBy v (Working l) w = HasLeft v l w
LeftBy v role w = ⊤

-- the slot j - 1 is taken, with the payload as it was put in
abbrev pub Takes : {P : Type 0} → List P → List (ℕ × Option P) → ℕ → List (ℕ × Option P) → Type 0
Takes {P} payloads out j out' = (x : P) × (get_elem? payloads (j - 1) ≡ some x) × (out' ≡ (j - 1, Some x) ∷ out)

-- what a claim takes, by the phase
abbrev pub TakesIn : {P : Type 0} → List P → List (ℕ × Option P) → Phase → List (ℕ × Option P) → Type 0
TakesIn payloads out (Claiming j) out' = Takes payloads out j out'
TakesIn payloads out phase out' = ⊤

-- the same by the role
abbrev pub TakenBy : {P : Type 0} → List P → List (ℕ × Option P) → Role → List (ℕ × Option P) → Type 0
TakenBy payloads out (Working l) out' = TakesIn payloads out l.state.phase out'
TakenBy payloads out role out' = ⊤

-- the store of an announcement, or that which files a job
abbrev pub told_by_store : {P : Type 0} → Step (Option P) → Me (Option P) (View P) → ℕ → Me (Option P) (View P) → Type 0
told_by_store st me n me' = TurnedBy me.0 me.0.role 0 me'.0 × (me'.1 ≡ me.1) × (n ≡ st.first)

-- the load of an announcement or of an entry of a row
abbrev pub told_by_load : {P : Type 0} → Step (Option P) → Me (Option P) (View P) → ℕ → Me (Option P) (View P) → Type 0
told_by_load st me n me' = TurnedBy me.0 me.0.role n me'.0 × MayLoadBy me.0.role n × (me'.1 ≡ me.1)

-- the store of a count of claims, which takes a slot
abbrev pub told_by_claim : {P : Type 0} → Step (Option P) → Me (Option P) (View P) → ℕ → Me (Option P) (View P) → Type 0
told_by_claim st me n me' = TurnedBy me.0 me.0.role 0 me'.0 × TakenBy me.0.payloads me.1 me.0.role me'.1 × (n ≡ st.first)

-- the store of 0 to an announcement, by which a worker leaves
abbrev pub told_by_leave : {P : Type 0} → Step (Option P) → Me (Option P) (View P) → ℕ → Me (Option P) (View P) → Type 0
told_by_leave st me n me' = LeftBy me.0 me.0.role me'.0 × (me'.1 ≡ me.1) × (n ≡ st.first)

-- how views are cut and joined

-- what the new seat of worker p has of the book's machines
abbrev pub role_of_hired : Givens → ℕ → Role → Role
role_of_hired g p (Keeping spots) = Working (first_machine g p)
role_of_hired g p role = Spent

-- what the book has without the machine of p
abbrev pub without_hired : ℕ → Role → Role
without_hired p (Keeping spots) = Keeping (slice_set spots (p - 1) Out)
without_hired p role = role

-- hiring p: the book no more has its machine, and the new seat has it
abbrev pub book_left : {P : Type 0} → ℕ → View P → View P
book_left p v = record v { role = without_hired p v.role }

-- the view of the new handle of worker p after it is hired
abbrev pub worker_right : {P : Type 0} → ℕ → View P → View P
worker_right p v = record v { moves = []; role = role_of_hired v.givens p v.role }

-- a seat that has taken slots can't be joined, so its view goes to a new one
abbrev pub shed_left : {P : Type 0} → View P → View P
shed_left v = spent_view

-- the view of the new handle, which has no slots
abbrev pub shed_right : {P : Type 0} → View P → View P
shed_right v = v

-- the book's machines with that of another role
abbrev pub with_back : List Spot → Role → Role
with_back spots (Working l) = Keeping (slice_set spots (l.number - 1) (Back l))
with_back spots role = Keeping spots

-- the registry's role with that of a collected worker
abbrev pub joined : Role → Role → Role
joined (Keeping spots) role = with_back spots role
joined own role = own

-- collecting: the machine of a worker enters the book
abbrev pub both_views : {P : Type 0} → View P → View P → View P
both_views v w = record v { moves = w.seen; role = joined v.role w.role }

-- The registry's load after a join. It learns a list of moves that begins with what it had seen and
-- with what the worker had seen. All its machines stand after that list.
pub record HasMet {P : Type 0} (v : View P) (spots : List Spot) (w : View P) : Type 0 where
  pub leads : w ≡ record v { seen = w.seen; moves = [] }
  pub seen : StartsWith w.seen v.seen
  pub moves : StartsWith w.seen v.moves
  pub own : AreOwn v.givens w.seen
  pub stand : AllStand v.givens w.seen spots

-- a load of the registry leads from the first view to the second
abbrev pub MetBy : {P : Type 0} → View P → Role → View P → Type 0
MetBy v (Keeping spots) w = HasMet v spots w
MetBy v role w = ⊤

-- the change of the handle by that load, whatever value it gave
abbrev pub told_by_meeting : {P : Type 0} → Step (Option P) → Me (Option P) (View P) → ℕ → Me (Option P) (View P) → Type 0
told_by_meeting st me n me' = MetBy me.0 me.0.role me'.0 × (me'.1 ≡ me.1)

-- opening

-- the role after the payload n, from 0, was placed: with the last one the table is open
abbrev pub next_role : Givens → ℕ → Role
next_role g n = if nat_lt (n + 1) g.jobs then Opening (n + 1) false else Keeping (replicate g.workers Home)

-- the role while n payloads are placed, or all are
abbrev pub placing_role : Givens → ℕ → Role
placing_role g n = if nat_lt n g.jobs then Opening n false else Keeping (replicate g.workers Home)

-- the next slot is taken
abbrev pub PickedBy : {P : Type 0} → View P → List (ℕ × Option P) → Role → View P → List (ℕ × Option P) → Type 0
PickedBy v out (Opening n b) w out' = (w ≡ record v { role = Opening n true }) × (out' ≡ (n, None) ∷ out)
PickedBy v out role w out' = ⊤

-- it is given back, with its payload
abbrev pub PlacedBy : {P : Type 0} → View P → List (ℕ × Option P) → Role → View P → List (ℕ × Option P) → Type 0
PlacedBy v out (Opening n b) w out' = (w ≡ record v { role = next_role v.givens n }) × (out' ≡ rest out)
PlacedBy v out role w out' = ⊤

-- the change of the handle that takes the next slot
abbrev pub told_by_picking : {P : Type 0} → Step (Option P) → Me (Option P) (View P) → ℕ → Me (Option P) (View P) → Type 0
told_by_picking st me n me' = PickedBy me.0 me.1 me.0.role me'.0 me'.1

-- the change of the handle that gives the slot back with its payload
abbrev pub told_by_placing : {P : Type 0} → Step (Option P) → Me (Option P) (View P) → ℕ → Me (Option P) (View P) → Type 0
told_by_placing st me n me' = PlacedBy me.0 me.1 me.0.role me'.0 me'.1
