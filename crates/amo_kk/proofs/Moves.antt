-- The changes of a world by moves: of the worker that moves, of the others, of the counts of steps,
-- and of who is gone.
use Rattle.std.proofs.Common.{◌≡◌, ◌≢◌, ⊎_elim, ℕ, zero, suc, ◌+◌, ◌<◌, ◌≤◌, Bool, true, false, List, [], ◌∷◌, ◌++◌, length, refl, sym, ap, ◌∙◌, subst, arith}
use Rattle.std.specs.Prelude.{if◌then◌else◌}
use Rattle.std.proofs.lemmas.Bool.{true≢false, cases_eq, cases_lt, or_parts}
use Rattle.amo_sets.specs.Lists.{numbered, put, table}
use Rattle.amo_sets.proofs.Numbers.{numbered-put_same, numbered-put_other, length-put, length-table}
use Rattle.amo_sets.proofs.Tables.{numbered-table, numbered_past}
use Rattle.amo_params.specs.Givens.{IsWorker}
use Rattle.amo_kk.specs.Record.{can_leave, empty_record, wants_nothing}
use Rattle.amo_kk.specs.Step.{want, record_after, record_after_leave, shown, events_of}
use Rattle.amo_params.specs.Moves.{worker_of, is_halt, has_halt}
use Rattle.amo_kk.specs.World.{nobody, process, loaded_value, process_after, world_with, world_after_step, world_after_turn, world_after_leave, world_after_move, world_after_moves, first_process, opening_world, world_of}
use Rattle.amo_kk.specs.Lawful.{IsLawful}
use Rattle.amo_params.specs.declared.givens.Givens.{Givens}
use Rattle.amo_kk.specs.declared.phase.Want.{Want}
use Rattle.amo_kk.specs.declared.phase.Want.TheVariants.{StoreNext}
use Rattle.amo_kk.specs.declared.model.Record.{Record}
use Rattle.amo_kk.specs.declared.model.Process.{Process}
use Rattle.amo_kk.specs.declared.model.World.{World}
use Rattle.amo_kk.specs.declared.event.Event.{Event}
use Rattle.amo_kk.specs.declared.event.Event.TheVariants.{Halted, Left as LeftEvent}
use Rattle.amo_params.specs.declared.moves.Move.{Move}
use Rattle.amo_params.specs.declared.moves.Move.TheVariants.{Turn, Halt, Leave}
use Rattle.amo_kk.proofs.Choice.{choice_cases}
use Rattle.amo_kk.proofs.Worlds.{here_is_worker, put_here, move_lawful}
use Rattle.amo_kk.proofs.Runs.{stored_local, stored_gone}

-- one list of moves after another

pub world_after_moves-append : (g : Givens) (w : World) (xs ys : List Move) → world_after_moves g w (xs ++ ys) ≡ world_after_moves g (world_after_moves g w xs) ys
world_after_moves-append g w [] ys = refl
world_after_moves-append g w (m ∷ xs) ys = world_after_moves-append g (world_after_move g w m) xs ys

-- and one move after others
pub world_more : (g : Givens) (w : World) (ms : List Move) (m : Move) → world_after_moves g w (ms ++ m ∷ []) ≡ world_after_move g (world_after_moves g w ms) m
world_more g w ms m = world_after_moves-append g w ms (m ∷ [])

-- the worker of the move

pub turned_processes : (g : Givens) (w : World) (p : ℕ) → (process w p).gone ≡ false
    → (let a = process w p in (world_after_turn g w p).processes ≡ put w.processes p (process_after (want a.local) a (record_after g p (loaded_value w (want a.local)) a.local)))
turned_processes g w p here = ap (λ b. (if b then w else world_after_step g w p (process w p)).processes) here

pub turned_process : (g : Givens) (w : World) (p : ℕ) → IsLawful g w → (process w p).gone ≡ false
    → (let a = process w p in process (world_after_turn g w p) p ≡ process_after (want a.local) a (record_after g p (loaded_value w (want a.local)) a.local))
turned_process g w p law here = ap (λ l. numbered nobody l p) (turned_processes g w p here) ∙ put_here g w p _ law.size (here_is_worker g w p law.size here)

pub turned_local : (g : Givens) (w : World) (p : ℕ) → IsLawful g w → (process w p).gone ≡ false
    → (let r = (process w p).local in (process (world_after_turn g w p) p).local ≡ record_after g p (loaded_value w (want r)) r)
turned_local g w p law here = ap (λ (a : Process). a.local) (turned_process g w p law here) ∙ stored_local (want (process w p).local) (process w p) _

pub left_processes : (w : World) (p : ℕ) → (process w p).gone ≡ false → can_leave (process w p).local.phase ≡ true
    → (let a = process w p in (world_after_leave w p).processes ≡ put w.processes p (process_after (StoreNext 0) a (record_after_leave a.local)))
left_processes w p here may =
    ap (λ b. (if b then w else (if can_leave (process w p).local.phase then left else w)).processes) here ∙ ap (λ b. (if b then left else w).processes) may
  where
    left : World
    left = world_with w p (process_after (StoreNext 0) (process w p) (record_after_leave (process w p).local)) (LeftEvent p ∷ [])

pub left_process : (g : Givens) (w : World) (p : ℕ) → IsLawful g w → (process w p).gone ≡ false → can_leave (process w p).local.phase ≡ true
    → (let a = process w p in process (world_after_leave w p) p ≡ process_after (StoreNext 0) a (record_after_leave a.local))
left_process g w p law here may = ap (λ l. numbered nobody l p) (left_processes w p here may) ∙ put_here g w p _ law.size (here_is_worker g w p law.size here)

-- a move in general

-- The facts about the process a that the move puts in place of its worker, which was the process b.
pub record IsMoved (m : Move) (b a : Process) : Type 0 where
  pub steps : a.local.steps ≤ b.local.steps + 1
  -- unless it is stopped, it is gone just if it wants nothing
  pub gone : is_halt m ≡ false → a.gone ≡ wants_nothing a.local.phase

-- A move leaves the world as it is, or puts a process in place of its worker, which isn't gone. So
-- what holds of both holds of the world after it.
pub move_cases : (g : Givens) (w : World) (m : Move) (P : World → Type 0) → P w
    → ((a : Process) (events : List Event) → (process w (worker_of m)).gone ≡ false → IsMoved m (process w (worker_of m)) a → P (world_with w (worker_of m) a events))
    → P (world_after_move g w m)
move_cases g w (Turn p) P same other = go (process w p).gone refl
  where
    x : Want
    x = want (process w p).local

    r : Record
    r = record_after g p (loaded_value w x) (process w p).local

    moved : IsMoved (Turn p) (process w p) (process_after x (process w p) r)
    moved =
        record {
          steps = let now = ap (λ (y : Record). y.steps) (stored_local x (process w p) r) in omega arith;
          gone = λ _. stored_gone x (process w p) r ∙ ap (λ (y : Record). wants_nothing y.phase) (sym (stored_local x (process w p) r));
        }

    go : (b : Bool) → (process w p).gone ≡ b → P (if b then w else world_after_step g w p (process w p))
    go true e = same
    go false e = other (process_after x (process w p) r) (events_of p (shown (process w p).local.phase r.phase)) e moved
move_cases g w (Halt p) P same other = go (process w p).gone refl
  where
    go : (b : Bool) → (process w p).gone ≡ b → P (if b then w else world_with w p (record (process w p) { gone = true }) (Halted p ∷ []))
    go true e = same
    go false e = other (record (process w p) { gone = true }) (Halted p ∷ []) e (record { steps = omega arith; gone = λ h. absurd (true≢false h) })
move_cases g w (Leave p) P same other = go (process w p).gone (can_leave (process w p).local.phase) refl
  where
    a : Process
    a = process_after (StoreNext 0) (process w p) (record_after_leave (process w p).local)

    go : (b c : Bool) → (process w p).gone ≡ b → P (if b then w else (if c then world_with w p a (LeftEvent p ∷ []) else w))
    go true c e = same
    go false false e = same
    go false true e = other a (LeftEvent p ∷ []) e (record { steps = omega arith; gone = λ _. refl })

-- the other workers stay as they are
pub move_other : (g : Givens) (w : World) (m : Move) (q : ℕ) → q ≢ worker_of m → process (world_after_move g w m) q ≡ process w q
move_other g w m q n = move_cases g w m (λ v. process v q ≡ process w q) refl (λ a events e moved. numbered-put_other nobody a w.processes (worker_of m) q n)

-- how many steps a worker has had

abbrev pub steps : World → ℕ → ℕ
steps w q = (process w q).local.steps

-- a process in place of p that has had at most one step more
pub put_steps : (g : Givens) (w : World) (p q : ℕ) (a : Process) (events : List Event) → IsLawful g w → IsWorker g p → a.local.steps ≤ steps w p + 1
    → steps (world_with w p a events) q ≤ steps w q + 1
put_steps g w p q a events law o few = ⊎_elim
    (λ (e : q ≡ p). subst (λ x. steps (world_with w p a events) x ≤ steps w x + 1) (sym e) (let here = ap (λ (x : Process). x.local.steps) (put_here g w p a law.size o) in omega arith))
    (λ (n : q ≢ p). let there = ap (λ (x : Process). x.local.steps) (numbered-put_other nobody a w.processes p q n) in omega arith)
    (cases_eq q p)

pub move_steps : (g : Givens) (w : World) (m : Move) (q : ℕ) → IsLawful g w → steps (world_after_move g w m) q ≤ steps w q + 1
move_steps g w m q law = move_cases g w m (λ v. steps v q ≤ steps w q + 1) (omega arith)
    (λ a events e moved. put_steps g w (worker_of m) q a events law (here_is_worker g w (worker_of m) law.size e) moved.steps)

pub moves_steps : (g : Givens) (w : World) (ms : List Move) (q : ℕ) → IsLawful g w → steps (world_after_moves g w ms) q ≤ steps w q + length ms
moves_steps g w [] q law = omega arith
moves_steps g w (m ∷ ms) q law =
    let one = move_steps g w m q law in
    let rest = moves_steps g (world_after_move g w m) ms q (move_lawful g w m g.limits law) in
    omega arith

-- each worker of the opening world is as it begins, and no other number has one
opening_each : (g : Givens) (P : Process → Type 0) → P nobody → ((p : ℕ) → P (first_process g p)) → (q : ℕ) → P (process (opening_world g) q)
opening_each g P none first zero = none
opening_each g P none first (suc k) = ⊎_elim
    (λ (l : k < g.workers). subst P (sym (numbered-table nobody (first_process g) g.workers (suc k) (omega arith) (omega arith))) (first (suc k)))
    (λ (l : g.workers ≤ k).
    let size = length-table (first_process g) g.workers in
    subst P (sym (numbered_past nobody (table g.workers (first_process g)) (suc k) (omega arith))) none)
    (cases_lt k g.workers)

-- so at first none has had a step
pub opening_steps : (g : Givens) (q : ℕ) → steps (opening_world g) q ≡ 0
opening_steps g q = opening_each g (λ (a : Process). a.local.steps ≡ 0) refl (λ p. choice_cases g p (empty_record g) (λ r. r.steps ≡ 0) (λ _. refl) (λ _. refl)) q

-- the workers that are gone if nobody is stopped

-- what holds of each process holds after one was put in place of another
each_put : (P : Process → Type 0) (a : Process) (all : List Process) (p : ℕ) → P a → ((q : ℕ) → P (numbered nobody all q)) → (q : ℕ) → P (numbered nobody (put all p a) q)
each_put P a all p mine others q = ⊎_elim
    (λ (e : q ≡ p). subst (λ x. P (numbered nobody (put all p a) x)) (sym e) (here p))
    (λ (n : q ≢ p). subst P (sym (numbered-put_other nobody a all p q n)) (others q))
    (cases_eq q p)
  where
    here : (p : ℕ) → P (numbered nobody (put all p a) p)
    here zero = others zero
    here (suc k) = ⊎_elim
        (λ (l : k < length all). subst P (sym (numbered-put_same nobody a all (suc k) (omega arith) (omega arith))) mine)
        (λ (l : length all ≤ k).
        let size = length-put a all (suc k) in
        subst P (numbered_past nobody all (suc k) (omega arith) ∙ sym (numbered_past nobody (put all (suc k) a) (suc k) (omega arith))) (others (suc k)))
        (cases_lt k (length all))

-- each worker is gone just if it wants nothing
abbrev pub AreGoneIfIdle : World → Type 0
AreGoneIfIdle w = (p : ℕ) → (process w p).gone ≡ wants_nothing (process w p).local.phase

moves_gone : (g : Givens) (w : World) (ms : List Move) → has_halt ms ≡ false → AreGoneIfIdle w → AreGoneIfIdle (world_after_moves g w ms)
moves_gone g w [] none all = all
moves_gone g w (m ∷ ms) none all =
    let parts = or_parts (is_halt m) (has_halt ms) none in
    moves_gone g (world_after_move g w m) ms parts.1
    (move_cases g w m (λ v. AreGoneIfIdle v) all (λ a events e moved. each_put (λ x. x.gone ≡ wants_nothing x.local.phase) a w.processes (worker_of m) (moved.gone parts.0) all))

opening_gone : (g : Givens) → AreGoneIfIdle (opening_world g)
opening_gone g q = opening_each g (λ (a : Process). a.gone ≡ wants_nothing a.local.phase) refl (λ p. refl) q

pub gone_is : (g : Givens) (ms : List Move) → has_halt ms ≡ false → AreGoneIfIdle (world_of g ms)
gone_is g ms none = moves_gone g (opening_world g) ms none (opening_gone g)
