-- The jobs that closed registers and slots show, and the final accounting. Within this crate:
-- `IsReadable`, `HaveRoom`, `any_has`, `AreMarked` and `IsBlank`, by which it is filled.
use Rattle.std.specs.Prelude.{◌≡◌, ◌==◌, replicate, ℕ, zero, suc, ◌+◌, ◌<◌, ◌≤◌, Bool, true, false, ◌||◌, if◌then◌else◌, List, [], ◌∷◌, ◌++◌, length, map, get_or, Option, Some, vec_capacity}
use Rattle.std.proofs.Common.{Vec, Global}
use mathlib.Core.Option.{some}
use lib.ListN.{get_elem?}
use Rattle.std.specs.List.{sum_by}
use Rattle.std.specs.Mem.Slots.{slots_items, slots_len, IsFull}
use Rattle.atomic_table.specs.declared.owned.Closed.{Closed}
use Rattle.atomic_table.specs.Table.{Final, Seen}
use Rattle.amo_sets.specs.Lists.{numbered, table}
use Rattle.amo_sets.specs.Sets.{has}
use Rattle.amo_params.specs.Givens.{bound}
use Rattle.amo_kk.specs.Record.{is_over}
use Rattle.amo_kk.specs.Words.{words_of, next_word, claim_word, done_word, word_count}
use Rattle.amo_params.specs.declared.givens.Givens.{Givens}
use Rattle.amo_params.specs.declared.moves.Move.{Move}
use Rattle.amo_kk.specs.declared.model.Process.{Process}
use Rattle.amo_words.specs.declared.rule.Spot.{Spot}
use Rattle.amo_words.specs.declared.rule.Spot.TheVariants.{Home, Out, Back}
use Rattle.amo_words.specs.declared.floor.settling.WorkerEnd.{WorkerEnd}
use Rattle.amo_words.specs.declared.floor.settling.WorkerEnd.TheVariants.{NeverHired, Ended, Stopped, Lost}
use Rattle.amo_words.specs.declared.floor.settling.Settlement.{Settlement}
use Rattle.amo_kk.specs.World.{world_of}
use Rattle.amo_words.specs.Logs.{AreOwn, StartsWith, is_claimed}
use Rattle.amo_words.specs.declared.rule.Role.TheVariants.{Keeping}
use Rattle.amo_words.specs.declared.rule.View.{View}
use Rattle.amo_words.specs.declared.rule.Key.{Key}
use Rattle.amo_words.specs.Rule.{AllStand, IsKept}
use Rattle.amo_words.specs.Looking.{IsBack}
use Rattle.amo_words.specs.Faces.{AreShown, ClosedView}
use Rattle.amo_kk.specs.Machine.{LocalView}

-- The registers of each worker.

-- a word before these, or no word if it is 0
abbrev pub unless_zero : ℕ → List ℕ → List ℕ
unless_zero zero xs = []
unless_zero (suc x) xs = suc x ∷ xs

-- the n words from the place i on, up to the first 0
abbrev pub row_from : List ℕ → ℕ → ℕ → List ℕ
row_from words i zero = []
row_from words i (suc n) = unless_zero (get_or words i 0) (row_from words (suc i) n)

-- the row of p up to its first 0
abbrev pub row_in : Givens → List ℕ → ℕ → List ℕ
row_in g words p = row_from words (done_word g p 1) (g.jobs + 1)

-- the announcement of p, where its count of claims is one more than its row has jobs
abbrev pub hand_in_words : Givens → List ℕ → ℕ → List ℕ
hand_in_words g words p = if get_or words (claim_word g p) 0 == length (row_in g words p) + 1 then get_or words (next_word p) 0 ∷ [] else []

-- the done jobs of all workers, from 1, as these registers have them
abbrev pub dones_in_words : Givens → List ℕ → List (List ℕ)
dones_in_words g words = table g.workers (λ p. row_in g words p)

-- the claimed jobs of all workers, from 1, as these registers have them
abbrev pub claims_in_words : Givens → List ℕ → List (List ℕ)
claims_in_words g words = table g.workers (λ p. row_in g words p ++ hand_in_words g words p)

-- The closed words of these givens can be read: all stand there, and they are those of some sound
-- processes.
pub record IsReadable {S : Type 0} (g : Givens) (c : Closed S Global) : Type 0 where
  pub full : IsFull c.words
  pub size : slots_len c.words ≡ word_count g
  pub shown : (all : List Process) × AreShown g all (slots_items c.words)

-- from the place i on, the lists are empty and have this room
abbrev pub HaveRoom : ℕ → ℕ → List (Vec ℕ Global) → Type 0
HaveRoom room i lists = (k : ℕ) (d : Vec ℕ Global) → i ≤ k → k < length lists → ((get_or lists k d).items ≡ []) × (room ≤ vec_capacity (get_or lists k d))

-- the done jobs of each worker
abbrev pub dones_of : List Process → List (List ℕ)
dones_of all = map (λ (a : Process). a.local.dones) all

-- the claimed jobs of each worker
abbrev pub claims_of : List Process → List (List ℕ)
claims_of all = map (λ (a : Process). a.local.claimed) all

-- whether j is in one of the lists
abbrev pub any_has : List (List ℕ) → ℕ → Bool
any_has [] j = false
any_has (xs ∷ rest) j = has xs j || any_has rest j

-- how the worker in this spot ended
abbrev pub end_of : Spot → WorkerEnd
end_of Home = NeverHired
end_of Out = Lost
end_of (Back l) = if is_over l.state.phase then Ended l.state.steps else Stopped l.state.steps

-- the jobs from j on that nobody of these has claimed, each with its payload
abbrev pub free_of : {P : Type 0} → List Process → ℕ → List P → List (ℕ × P)
free_of all j [] = []
free_of all j (x ∷ xs) = if is_claimed all j then free_of all (suc j) xs else (j, x) ∷ free_of all (suc j) xs

-- the slots have the payload of each job that nobody of these has claimed
abbrev pub HasFree : {P : Type 0} → Givens → List Process → List P → List (Option P) → Type 0
HasFree {P} g all payloads slots =
    (length payloads ≡ g.jobs)
    × ((j : ℕ) (x : P) → get_elem? payloads j ≡ some x → is_claimed all (j + 1) ≡ false → get_elem? slots j ≡ some (Some x))

-- just the jobs that one of these has claimed are marked
abbrev pub AreMarked : Givens → List Process → List Bool → Type 0
AreMarked g all marks = (k : ℕ) → k < g.jobs → get_or marks k false ≡ is_claimed all (k + 1)

-- The closed words and slots show a world after a list of turns and leavings that begins with what
-- the book had seen.
pub record IsClosed {P : Type 0} (g : Givens) (payloads : List P) (seen : List Move) (spots : List Spot) (words : List ℕ) (slots : List (Option P)) : Type 0 where
  pub log : List Move
  pub turns : AreOwn g log
  pub begins : StartsWith log seen
  pub stand : AllStand g log spots
  pub shown : AreShown g (world_of g log).processes words
  pub free : HasFree g (world_of g log).processes payloads slots

-- how many jobs are in these lists
abbrev pub job_count : List (List ℕ) → ℕ
job_count lists = sum_by (λ xs. length xs) lists

-- what a book's seat knows between two calls
abbrev pub book_view : {P : Type 0} → Givens → List P → List Move → List Spot → View P
book_view g payloads seen spots = record { givens = g; payloads = payloads; seen = seen; moves = []; role = Keeping spots }

-- The final accounting is whole. The table was closed with some registers and slots, when the
-- registry's handle knew what the registry knew. A list of turns and leaves that begins with what
-- the registry had seen leads to a world that has these registers, and in which the registry's
-- machines stand. The lists, the ends and the free jobs are those of that world.
pub record IsWhole {P : Type 0} (g : Givens) (payloads : List P) (seen : List Move) (spots : List Spot) (s : Settlement P) : Type 0 where
  pub key : Key P
  pub seat : ℕ
  pub words : List ℕ
  pub slots : List (Option P)
  pub closed : Final (Seen (IsKept key) seat (book_view g payloads seen spots)) words slots
  pub log : List Move
  pub turns : AreOwn g log
  pub begins : StartsWith log seen
  pub shown : words ≡ words_of (world_of g log).processes
  pub stand : AllStand g log spots
  -- the lists are what these words say of each worker
  pub told_claims : map (λ (v : Vec ℕ Global). v.items) s.claims.items ≡ claims_in_words g words
  pub told_dones : map (λ (v : Vec ℕ Global). v.items) s.dones.items ≡ dones_in_words g words
  pub claims : map (λ (v : Vec ℕ Global). v.items) s.claims.items ≡ claims_of (world_of g log).processes
  pub dones : map (λ (v : Vec ℕ Global). v.items) s.dones.items ≡ dones_of (world_of g log).processes
  pub ends : s.ends.items ≡ map end_of spots
  pub free : s.free.items ≡ free_of (world_of g log).processes 1 payloads
  -- if a collected worker had ended, so many jobs are done
  pub enough : (p : ℕ) (l : LocalView) → IsBack spots p l → is_over l.state.phase ≡ true
      → bound g ≤ job_count (map (λ (v : Vec ℕ Global). v.items) s.dones.items)

-- The floor whose registry had these slot states and had seen these moves was closed, and c is what
-- stood. It has the registers and slots of the table between two steps, when the registry's handle
-- knew what the registry knew. They show a world to which the registry's moves lead.
pub record HasClosed {P : Type 0} (g : Givens) (payloads : List P) (seen : List Move) (spots : List Spot) (c : ClosedView P) : Type 0 where
  pub givens : c.givens ≡ g
  pub spots_are : c.spots ≡ spots
  pub key : Key P
  pub seat : ℕ
  pub closed : Final (Seen (IsKept key) seat (book_view g payloads seen spots)) c.words c.slots
  pub world : IsClosed g payloads seen spots c.words c.slots

-- The settlement is whole for each book with which this floor can have been closed.
abbrev pub IsWholeOf : {P : Type 0} → ClosedView P → Settlement P → Type 0
IsWholeOf {P} c s = (g : Givens) (payloads : List P) (seen : List Move) (spots : List Spot) → HasClosed g payloads seen spots c → IsWhole g payloads seen spots s

-- The final accounting is read from the closed floor. The lists of each worker, lost or not, come
-- from its registers, and the ends from the slot states. The free jobs are those that the registers
-- give to no worker.
pub record IsReadFrom {P : Type 0} (c : ClosedView P) (s : Settlement P) : Type 0 where
  pub claims : map (λ (v : Vec ℕ Global). v.items) s.claims.items ≡ claims_in_words c.givens c.words
  pub dones : map (λ (v : Vec ℕ Global). v.items) s.dones.items ≡ dones_in_words c.givens c.words
  pub ends : s.ends.items ≡ map end_of c.spots
  pub free : (all : List Process) (payloads : List P) → AreShown c.givens all c.words → HasFree c.givens all payloads c.slots → s.free.items ≡ free_of all 1 payloads

-- the done jobs of worker p in the final accounting
abbrev pub settled_dones : {P : Type 0} → Settlement P → ℕ → List ℕ
settled_dones s p = numbered [] (map (λ (v : Vec ℕ Global). v.items) s.dones.items) p

-- the claimed jobs of worker p in the final accounting
abbrev pub settled_claims : {P : Type 0} → Settlement P → ℕ → List ℕ
settled_claims s p = numbered [] (map (λ (v : Vec ℕ Global). v.items) s.claims.items) p

-- empty lists, with the room that a settlement takes, and a mark for each job
pub record IsBlank {P : Type 0} (g : Givens) (s : Settlement P) (marks : List Bool) : Type 0 where
  pub claims : (length s.claims.items ≡ g.workers) × HaveRoom (g.jobs + 1) 0 s.claims.items
  pub dones : (length s.dones.items ≡ g.workers) × HaveRoom (g.jobs + 1) 0 s.dones.items
  pub ends : (s.ends.items ≡ []) × (g.workers ≤ vec_capacity s.ends)
  pub free : (s.free.items ≡ []) × (g.jobs ≤ vec_capacity s.free)
  pub marks_are : marks ≡ replicate g.jobs false
