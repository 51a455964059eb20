-- Floor, book and worker as contracts see them; within this crate, `IsWorking` and `IsBook`, what
-- holds of their fields.
use Rattle.std.specs.Prelude.{◌≡◌, ℕ, List, [], length, Option}
use Rattle.amo_sets.specs.Lists.{numbered}
use Rattle.atomic_table.specs.Seated.{TableId}
use Rattle.amo_params.specs.Givens.{IsWorker}
use Rattle.amo_kk.specs.World.{nobody}
use Rattle.amo_kk.specs.Words.{words_of, word_count}
use Rattle.amo_kk.specs.Lawful.{IsSoundRecord, IsSoundProcess}
use Rattle.amo_kk.specs.declared.model.Process.{Process}
use Rattle.amo_kk.specs.Machine.{LocalView}
use Rattle.amo_params.specs.declared.givens.Givens.{Givens}
use Rattle.amo_words.specs.declared.rule.Role.{Role}
use Rattle.amo_words.specs.declared.rule.Role.TheVariants.{Keeping, Working}
use Rattle.amo_words.specs.declared.rule.Spot.{Spot}
use Rattle.amo_words.specs.declared.rule.View.{View}
use Rattle.amo_words.specs.Logs.{AreOwn}
use Rattle.amo_words.specs.Rule.{AllStand}

-- A worker or a book: its table, the number of its seat there, and what it knows.
pub record Seated (P : Type 0) : Type 0 where
  pub table_id : TableId
  pub id : ℕ
  pub view : View P

-- A floor: its table, and the givens.
pub record FloorView : Type 0 where
  pub table_id : TableId
  pub givens : Givens

-- the machine that stands for that of a handle of no worker
abbrev pub no_machine : Givens → LocalView
no_machine g = record { givens = g; number = 0; state = nobody.local }

-- the machine of the worker with this role
abbrev pub machine_of : Givens → Role → LocalView
machine_of g (Working l) = l
machine_of g role = no_machine g

-- the spots of a book with this role
abbrev pub spots_of : Role → List Spot
spots_of (Keeping spots) = spots
spots_of role = []

-- the machine of a worker: givens, number and record
abbrev pub machine : {P : Type 0} → Seated P → LocalView
machine w = machine_of w.view.givens w.view.role

-- the spots of a book, from worker 1
abbrev pub spots : {P : Type 0} → Seated P → List Spot
spots b = spots_of b.view.role

-- The facts about a worker's fields: its handle's view, its table, and its machine.
pub record IsWorking {P : Type 0} (v : View P) (id : TableId) (l : LocalView) : Type 0 where
  pub role : v.role ≡ Working l
  pub givens : v.givens ≡ l.givens
  pub words : id.words ≡ word_count l.givens
  pub slots : id.slots ≡ l.givens.jobs
  pub worker : IsWorker l.givens l.number
  pub sound : IsSoundRecord l.givens l.number l.state

-- The facts about a registry's fields: its handle's view, its table, the givens, and the slot
-- states, whose list has exactly the room that it needs. The registry's machines stand after the
-- moves that it has seen.
pub record IsBook {P : Type 0} (v : View P) (id : TableId) (g : Givens) (spots : List Spot) (room : ℕ) : Type 0 where
  pub role : v.role ≡ Keeping spots
  pub givens : v.givens ≡ g
  pub words : id.words ≡ word_count g
  pub slots : id.slots ≡ g.jobs
  pub moves : v.moves ≡ []
  pub turns : AreOwn g v.seen
  pub stand : AllStand g v.seen spots
  pub exact : room ≡ g.workers

-- The words are those of these processes, each of which is sound.
pub record AreShown (g : Givens) (all : List Process) (words : List ℕ) : Type 0 where
  pub size : length all ≡ g.workers
  pub sound : (p : ℕ) → IsWorker g p → IsSoundProcess g p (numbered nobody all p)
  pub shown : words ≡ words_of all

-- A closed floor: the givens, the spots of its book from worker 1, and its words and slots as they
-- stood.
pub record ClosedView (P : Type 0) : Type 0 where
  pub givens : Givens
  pub spots : List Spot
  pub words : List ℕ
  pub slots : List (Option P)
