-- A world whose workers may begin again, each from its own words alone.
use Rattle.std.specs.Prelude.{ℕ, zero, suc, ◌+◌, ◌*◌, drop, List, [], ◌∷◌, ◌++◌, map, if◌then◌else◌}
use Rattle.amo_sets.specs.Lists.{put}
use Rattle.amo_params.specs.Givens.{is_within}
use Rattle.amo_kk.specs.Record.{wants_nothing}
use Rattle.amo_kk.specs.Again.{entries_of, doubt, record_again}
use Rattle.amo_kk.specs.Step.{ended_if_over}
use Rattle.amo_kk.specs.World.{process, world_after_move, opening_world}
use Rattle.amo_params.specs.declared.givens.Givens.{Givens}
use Rattle.amo_kk.specs.declared.model.Process.{Process}
use Rattle.amo_kk.specs.declared.model.World.{World}
use Rattle.amo_kk.specs.declared.event.Event.{Event}
use Rattle.amo_params.specs.declared.moves.Move.{Move}
use Rattle.amo_restart.specs.declared.model.Act.{Act}
use Rattle.amo_restart.specs.declared.model.Act.TheVariants.{Moves, Returns}
use Rattle.amo_restart.specs.declared.model.Entry.{Entry}
use Rattle.amo_restart.specs.declared.model.Entry.TheVariants.{Shown, Returned}
use Rattle.amo_restart.specs.declared.model.Tale.{Tale}

-- the process with these words, which begins again; its words stay as they are
abbrev pub process_again : Givens → ℕ → Process → List ℕ → Process
process_again g p a dones = let r = record_again g p a.next a.claim dones in record a { local = r; gone = wants_nothing r.phase }

-- the process after its return
abbrev pub process_after_return : Givens → ℕ → Process → Process
process_after_return g p a = process_again g p a (entries_of a.row)

-- how many of these numbers aren't 0
abbrev pub entries_in : List ℕ → ℕ
entries_in [] = 0
entries_in (zero ∷ xs) = entries_in xs
entries_in (suc j ∷ xs) = suc (entries_in xs)

-- how many jobs the shared words show as filed: the entries of all rows, which come after all other
-- words
abbrev pub filed_in : Givens → List ℕ → ℕ
filed_in g words = entries_in (drop (2 * g.workers + 1) words)

-- the workers of a tale, with nothing shown
abbrev pub world_of_tale : Tale → World
world_of_tale t = record { processes = t.processes; history = [] }

-- these events as entries
abbrev pub entries_for : List Event → List Entry
entries_for events = map (λ (e : Event). Shown e) events

-- the tale after a move: what the move shows comes after the entries
abbrev pub tale_after_move : Givens → Tale → Move → Tale
tale_after_move g t m = let w = world_after_move g (world_of_tale t) m in record { processes = w.processes; entries = t.entries ++ entries_for w.history }

-- the tale after p, which is the process a, begins again
abbrev pub tale_with_return : Givens → Tale → ℕ → Process → Tale
tale_with_return g t p a =
    let b = process_after_return g p a in
    record {
      processes = put t.processes p b;
      entries = t.entries ++ Returned p (doubt a.next a.claim (entries_of a.row)) ∷ entries_for (ended_if_over p b.local.phase);
    }

-- the tale after a return of p, if p is a worker, whatever became of it before
abbrev pub tale_after_return : Givens → Tale → ℕ → Tale
tale_after_return g t p = if is_within g.workers p then tale_with_return g t p (process (world_of_tale t) p) else t

-- the tale after an act
abbrev pub tale_after : Givens → Tale → Act → Tale
tale_after g t (Moves m) = tale_after_move g t m
tale_after g t (Returns p) = tale_after_return g t p

-- the tale after these acts, in their order
abbrev pub tale_after_all : Givens → Tale → List Act → Tale
tale_after_all g t [] = t
tale_after_all g t (x ∷ xs) = tale_after_all g (tale_after g t x) xs

-- the opening tale
abbrev pub opening_tale : Givens → Tale
opening_tale g = record { processes = (opening_world g).processes; entries = entries_for (opening_world g).history }

-- the tale of these acts
abbrev pub tale_of : Givens → List Act → Tale
tale_of g xs = tale_after_all g (opening_tale g) xs
