-- All workers with their words, and the history, one move at a time.
use Rattle.std.specs.Prelude.{ℕ, zero, suc, ◌+◌, true, List, [], ◌∷◌, ◌++◌, length, replicate, nat_lt, if◌then◌else◌}
use Rattle.std.specs.List.{sum_by}
use Rattle.amo_sets.specs.Lists.{numbered, put, table}
use Rattle.amo_kk.specs.Record.{wants_nothing, can_leave}
use Rattle.amo_kk.specs.Choice.{first_record}
use Rattle.amo_kk.specs.Step.{want, record_after, record_after_leave, shown, events_of}
use Rattle.amo_params.specs.declared.givens.Givens.{Givens}
use Rattle.amo_kk.specs.declared.phase.Phase.TheVariants.{Over}
use Rattle.amo_kk.specs.declared.model.Record.{Record}
use Rattle.amo_kk.specs.declared.phase.Want.{Want}
use Rattle.amo_kk.specs.declared.phase.Want.TheVariants.{StoreNext, LoadNext, LoadDone, StoreClaim, StoreDone}
use Rattle.amo_kk.specs.declared.model.Process.{Process}
use Rattle.amo_kk.specs.declared.event.Event.{Event}
use Rattle.amo_kk.specs.declared.event.Event.TheVariants.{Ended, Halted, Left}
use Rattle.amo_params.specs.declared.moves.Move.{Move}
use Rattle.amo_params.specs.declared.moves.Move.TheVariants.{Turn, Halt, Leave}
use Rattle.amo_kk.specs.declared.model.World.{World}

-- the process for a number that no worker has: it is gone, and has nothing
abbrev pub nobody : Process
nobody =
    record {
      local = record { phase = Over; known = []; tried = []; fronts = []; claimed = []; dones = []; steps = 0 };
      next = 0;
      claim = 0;
      row = [];
      gone = true;
    }

-- worker p with its words
abbrev pub process : World → ℕ → Process
process w p = numbered nobody w.processes p

-- how many jobs all workers together have done
abbrev pub done_count : World → ℕ
done_count w = sum_by (λ (a : Process). length a.local.dones) w.processes

-- the value that the wanted load gives
abbrev pub loaded_value : World → Want → ℕ
loaded_value w (LoadNext q) = (process w q).next
loaded_value w (LoadDone q k) = numbered 0 (process w q).row k
loaded_value w want = 0

-- the process a after a step with this load or store, r being its record after it: it is gone if it
-- wants nothing
abbrev pub process_after : Want → Process → Record → Process
process_after (StoreNext j) a r = record a { local = r; next = j; gone = wants_nothing r.phase }
process_after (StoreClaim c j) a r = record a { local = r; claim = c; gone = wants_nothing r.phase }
process_after (StoreDone k j) a r = record a { local = r; row = put a.row k j; gone = wants_nothing r.phase }
process_after want a r = record a { local = r; gone = wants_nothing r.phase }

-- the world with a as worker p, and with these events more in its history
abbrev pub world_with : World → ℕ → Process → List Event → World
world_with w p a events = record { processes = put w.processes p a; history = w.history ++ events }

-- the world after the step of worker p, which is the process a
abbrev pub world_after_step : Givens → World → ℕ → Process → World
world_after_step g w p a =
    let r = record_after g p (loaded_value w (want a.local)) a.local in
    world_with w p (process_after (want a.local) a r) (events_of p (shown a.local.phase r.phase))

-- the world after a turn of p: the step of p, if p isn't gone
abbrev pub world_after_turn : Givens → World → ℕ → World
world_after_turn g w p = if (process w p).gone then w else world_after_step g w p (process w p)

-- the world after a stop of p: p is gone, if it wasn't
abbrev pub world_after_halt : World → ℕ → World
world_after_halt w p = if (process w p).gone then w else world_with w p (record (process w p) { gone = true }) (Halted p ∷ [])

-- the world after p leaves: p stores 0 to its announcement, if it isn't gone and has nothing in its
-- hand
abbrev pub world_after_leave : World → ℕ → World
world_after_leave w p =
    if (process w p).gone
    then w
    else (if can_leave (process w p).local.phase
    then world_with w p (process_after (StoreNext 0) (process w p) (record_after_leave (process w p).local)) (Left p ∷ [])
    else w)

-- the world after a move
abbrev pub world_after_move : Givens → World → Move → World
world_after_move g w (Turn p) = world_after_turn g w p
world_after_move g w (Halt p) = world_after_halt w p
world_after_move g w (Leave p) = world_after_leave w p

-- the world after these moves, in their order
abbrev pub world_after_moves : Givens → World → List Move → World
world_after_moves g w [] = w
world_after_moves g w (m ∷ ms) = world_after_moves g (world_after_move g w m) ms

-- worker p as it begins: its registers are 0, and it is gone if it is over from birth
abbrev pub first_process : Givens → ℕ → Process
first_process g p =
    let r = first_record g p in
    record { local = r; next = 0; claim = 0; row = replicate (g.jobs + 1) 0; gone = wants_nothing r.phase }

-- the opening world; with fewer jobs than beta all workers have ended
abbrev pub opening_world : Givens → World
opening_world g =
    record {
      processes = table g.workers (first_process g);
      history = if nat_lt g.jobs g.beta then table g.workers (λ p. Ended p) else [];
    }

-- the world after these moves, from the opening world
abbrev pub world_of : Givens → List Move → World
world_of g ms = world_after_moves g (opening_world g) ms

-- a round is a turn of each worker, in the order of their numbers
abbrev pub round : ℕ → List Move
round workers = table workers (λ p. Turn p)

-- so many rounds
abbrev pub rounds : ℕ → ℕ → List Move
rounds workers zero = []
rounds workers (suc n) = rounds workers n ++ round workers
