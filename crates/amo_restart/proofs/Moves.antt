-- Without returns a tale is the world of the same moves.
use Rattle.std.proofs.Common.{◌≡◌, ℕ, Bool, true, false, List, [], ◌∷◌, ◌++◌, refl, sym, ap, ◌∙◌, append-nil, map}
use Rattle.std.specs.Prelude.{if◌then◌else◌}
use Rattle.amo_sets.specs.Lists.{put}
use Rattle.amo_kk.specs.Record.{can_leave}
use Rattle.amo_kk.specs.Step.{want, record_after, record_after_leave, shown, events_of}
use Rattle.amo_kk.specs.World.{process, loaded_value, process_after, world_with, world_after_step, world_after_move, world_after_moves, opening_world, world_of}
use Rattle.amo_params.specs.declared.givens.Givens.{Givens}
use Rattle.amo_kk.specs.declared.phase.Want.{Want}
use Rattle.amo_kk.specs.declared.phase.Want.TheVariants.{StoreNext, LoadNext, LoadDone, StoreClaim, StoreDone, Nothing}
use Rattle.amo_kk.specs.declared.model.Process.{Process}
use Rattle.amo_kk.specs.declared.model.World.{World}
use Rattle.amo_kk.specs.declared.event.Event.{Event}
use Rattle.amo_kk.specs.declared.event.Event.TheVariants.{Halted, Left}
use Rattle.amo_params.specs.declared.moves.Move.{Move}
use Rattle.amo_params.specs.declared.moves.Move.TheVariants.{Turn, Halt, Leave}
use Rattle.amo_restart.specs.declared.model.Act.TheVariants.{Moves}
use Rattle.amo_restart.specs.declared.model.Tale.{Tale}
use Rattle.amo_restart.specs.Return.{entries_for, tale_after_move, tale_after_all, tale_of}

-- the world as a tale, and without its history
abbrev told : World → Tale
told w = record { processes = w.processes; entries = entries_for w.history }

abbrev bare : World → World
bare w = record { processes = w.processes; history = [] }

-- the tale that comes after w, where v shows what comes next
abbrev next : World → World → Tale
next w v = record { processes = v.processes; entries = entries_for w.history ++ entries_for v.history }

shown-append : (es fs : List Event) → entries_for (es ++ fs) ≡ entries_for es ++ entries_for fs
shown-append [] fs = refl
shown-append (e ∷ es) fs = ap (λ l. entries_for (e ∷ []) ++ l) (shown-append es fs)

nothing_next : (w : World) → next w (bare w) ≡ told w
nothing_next w = (λ i. record { processes = w.processes; entries = append-nil (entries_for w.history) i })

with_next : (w : World) (p : ℕ) (a : Process) (es : List Event) → next w (world_with (bare w) p a es) ≡ told (world_with w p a es)
with_next w p a es = (λ i. record { processes = put w.processes p a; entries = sym (shown-append w.history es) i })

loads : (w : World) (x : Want) → loaded_value (bare w) x ≡ loaded_value w x
loads w (StoreNext j) = refl
loads w want = refl

-- the event of a worker that has loaded v
abbrev event_with : Givens → World → ℕ → Process → ℕ → World
event_with g w p a v = let r = record_after g p v a.local in world_with w p (process_after (want a.local) a r) (events_of p (shown a.local.phase r.phase))

move_next : (g : Givens) (w : World) (m : Move) → tale_after_move g (told w) m ≡ told (world_after_move g w m)
move_next g w (Turn p) = go (process w p).gone
  where
    go : (b : Bool) → next w (if b then bare w else world_after_step g (bare w) p (process w p)) ≡ told (if b then w else world_after_step g w p (process w p))
    go true = nothing_next w
    go false =
        let a = process w p in
        let x = want a.local in
        ap (λ v. next w (event_with g (bare w) p a v)) (loads w x)
        ∙ with_next w p (process_after x a (record_after g p (loaded_value w x) a.local)) (events_of p (shown a.local.phase (record_after g p (loaded_value w x) a.local).phase))
move_next g w (Halt p) = go (process w p).gone
  where
    go : (b : Bool) → next w (if b then bare w else world_with (bare w) p (record (process w p) { gone = true }) (Halted p ∷ []))
        ≡ told (if b then w else world_with w p (record (process w p) { gone = true }) (Halted p ∷ []))
    go true = nothing_next w
    go false = with_next w p (record (process w p) { gone = true }) (Halted p ∷ [])
move_next g w (Leave p) = go (process w p).gone (can_leave (process w p).local.phase)
  where
    go : (b c : Bool) → next w (if b then bare w else (if c then world_with (bare w) p (process_after (StoreNext 0) (process w p) (record_after_leave (process w p).local)) (Left p ∷ []) else bare w))
        ≡ told (if b then w else (if c then world_with w p (process_after (StoreNext 0) (process w p) (record_after_leave (process w p).local)) (Left p ∷ []) else w))
    go true c = nothing_next w
    go false false = nothing_next w
    go false true = with_next w p (process_after (StoreNext 0) (process w p) (record_after_leave (process w p).local)) (Left p ∷ [])

moves_next : (g : Givens) (w : World) (ms : List Move) → tale_after_all g (told w) (map (λ (m : Move). Moves m) ms) ≡ told (world_after_moves g w ms)
moves_next g w [] = refl
moves_next g w (m ∷ ms) = ap (λ t. tale_after_all g t (map (λ (m : Move). Moves m) ms)) (move_next g w m) ∙ moves_next g (world_after_move g w m) ms

pub tale_of_moves : (g : Givens) (ms : List Move) → tale_of g (map (λ (m : Move). Moves m) ms) ≡ told (world_of g ms)
tale_of_moves g ms = moves_next g (opening_world g) ms
