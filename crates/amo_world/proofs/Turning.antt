-- The facts about the fields of a world before and after a turn, a halt and a leave of a worker
-- that isn't gone.
use Rattle.std.proofs.Common.{◌≡◌, ⊎_elim, ℕ, ◌+◌, ◌-◌, ◌<◌, ◌≤◌, Bool, true, false, List, [], ◌∷◌, ◌++◌, map, length, get_or, set, sym, ap, ◌∙◌, subst, arith, length-append}
use Rattle.std.specs.Prelude.{if◌then◌else◌}
use Rattle.std.proofs.lemmas.Bool.{true≢false, cases_Bool, cases_eq}
use Rattle.std.proofs.lemmas.List.{map-set, length-set, get_or-set_same, get_or-set_other}
use Rattle.std.specs.Vec.{vec_capacity}
use Rattle.amo_sets.specs.Lists.{put}
use Rattle.amo_params.specs.Givens.{IsWorker}
use Rattle.amo_kk.specs.Record.{wants_nothing, can_leave}
use Rattle.amo_kk.specs.Step.{want, is_load, record_after, record_after_leave, shown, events_of, MayLoad}
use Rattle.amo_kk.specs.Lawful.{IsLawful, HasRun, IsSoundProcess}
use Rattle.amo_kk.specs.World.{process, loaded_value, process_after, world_with, world_after_step, world_after_turn, world_after_halt, world_after_leave}
use Rattle.amo_kk.specs.Machine.{LocalView}
use Rattle.amo_kk.specs.Answer.{turn_shown}
use Rattle.amo_params.specs.declared.givens.Givens.{Givens}
use Rattle.amo_kk.specs.declared.phase.Want.TheVariants.{StoreNext}
use Rattle.amo_kk.specs.declared.model.Record.{Record}
use Rattle.amo_kk.specs.declared.model.Process.{Process}
use Rattle.amo_kk.specs.declared.model.World.{World}
use Rattle.amo_kk.specs.declared.event.Event.{Event}
use Rattle.amo_kk.specs.declared.event.Event.TheVariants.{Halted, Left as LeftEvent}
use Rattle.amo_kk.specs.declared.event.Shown.{Shown}
use Rattle.amo_kk.proofs.Kept.{row_room}
use Rattle.amo_kk.proofs.Holding.{put_before}
use Rattle.amo_kk.proofs.Worlds.{turn_lawful, halt_lawful, leave_lawful}
use Rattle.amo_kk.proofs.Runs.{turn_runs, halt_runs, leave_runs, stored_local}
use Rattle.amo_kk.proofs.Room.{run_is_short}
use Rattle.amo_kk.proofs.Loads.{store_zero, may_load}
use Rattle.amo_world.specs.declared.process.SimProcess.{SimProcess as OwnProcess}
use Rattle.amo_world.specs.Views.{WorldView}
use Rattle.amo_world.specs.Processes.{process_of, process_after_step, world_of_processes, AreInOrder, IsKept, IsSameWorker}
use Rattle.amo_world.proofs.Places.{process_at}

-- the worker of a call on a world that is seen as v, its fields as x
pub worker_here : (x v : WorldView) (p : ℕ) → x ≡ v → IsWorker v.givens p → IsWorker x.givens p
worker_here x v p same o = subst (λ (y : WorldView). IsWorker y.givens p) (sym same) o

-- and it is not gone, as a test has answered
pub still_here : (x v : WorldView) (p : ℕ) (answer : Bool) → x ≡ v → answer ≡ (process v.world p).gone → answer ≡ false → (process x.world p).gone ≡ false
still_here x v p answer same is e = ap (λ (y : WorldView). (process y.world p).gone) same ∙ sym is ∙ e

-- The facts about worker p, which takes its turn: it isn't gone, and this is the value of its load.
pub record TakesTurn (g : Givens) (w : World) (p value : ℕ) : Type 0 where
  pub worker : IsWorker g p
  pub here : (process w p).gone ≡ false
  pub loads : value ≡ loaded_value w (want (process w p).local)

-- the facts, if they are known of the view
pub takes_turn : (g : Givens) (w : World) (p value : ℕ) (v : WorldView) → (let u : WorldView = record { givens = g; world = w } in u) ≡ v → IsWorker v.givens p → (process v.world p).gone ≡ false
    → value ≡ loaded_value v.world (want (process v.world p).local) → TakesTurn g w p value
takes_turn g w p value v same worker here loads = record {
  worker = subst (λ (u : WorldView). IsWorker u.givens p) (sym same) worker;
  here = ap (λ (u : WorldView). (process u.world p).gone) same ∙ here;
  loads = loads ∙ ap (λ (u : WorldView). loaded_value u.world (want (process u.world p).local)) (sym same);
}

-- a process in place of another of the same givens and number
in_order_after : (g : Givens) (processes : List OwnProcess) (k : ℕ) (t s : OwnProcess) → AreInOrder g g.workers processes → k < length processes → s ≡ get_or processes k s → IsSameWorker s t
    → AreInOrder g g.workers (set processes k t)
in_order_after g processes k t s in_order h is same =
    record {
      size = length-set processes k t ∙ in_order.size;
      givens = λ i d l. ⊎_elim
          (λ (e : i ≡ k). ap (λ (y : OwnProcess). y.local.givens) (here i d e) ∙ same.givens ∙ ap (λ (y : OwnProcess). y.local.givens) is ∙ in_order.givens k s h)
          (λ n. ap (λ (y : OwnProcess). y.local.givens) (get_or-set_other processes k i t d n) ∙ in_order.givens i d (let z = length-set processes k t in omega arith))
          (cases_eq i k);
      number = λ i d l. ⊎_elim
          (λ (e : i ≡ k). ap (λ (y : OwnProcess). y.local.number) (here i d e) ∙ same.number ∙ ap (λ (y : OwnProcess). y.local.number) is ∙ in_order.number k s h ∙ omega arith)
          (λ n. ap (λ (y : OwnProcess). y.local.number) (get_or-set_other processes k i t d n) ∙ in_order.number i d (let z = length-set processes k t in omega arith))
          (cases_eq i k);
      room = λ i d l. ⊎_elim
          (λ (e : i ≡ k). ap (λ (y : OwnProcess). vec_capacity y.row) (here i d e) ∙ same.room ∙ ap (λ (y : OwnProcess). vec_capacity y.row) is ∙ in_order.room k s h)
          (λ n. ap (λ (y : OwnProcess). vec_capacity y.row) (get_or-set_other processes k i t d n) ∙ in_order.room i d (let z = length-set processes k t in omega arith))
          (cases_eq i k);
    }
  where
    here : (i : ℕ) (d : OwnProcess) → i ≡ k → get_or (set processes k t) i d ≡ t
    here i d e = ap (λ x. get_or (set processes k t) x d) e ∙ get_or-set_same processes k t d h

module _ (g : Givens) (processes : List OwnProcess) (history : List Event) (places room p : ℕ) (kept : IsKept g processes history places room) (o : IsWorker g p) (s : OwnProcess) (is : s ≡ get_or processes (p - 1) s) where
  pub process_is : process (world_of_processes processes history) p ≡ process_of s
  process_is = process_at processes p s o.low (let e = kept.in_order.size in let h = o.high in omega arith) ∙ ap process_of (sym is)

  within : p - 1 < length processes
  within = let e = kept.in_order.size in let l = o.low in let h = o.high in omega arith

  pub own_givens : s.local.givens ≡ g
  own_givens = ap (λ (x : OwnProcess). x.local.givens) is ∙ kept.in_order.givens (p - 1) s within

  pub own_number : s.local.number ≡ p
  own_number = ap (λ (x : OwnProcess). x.local.number) is ∙ kept.in_order.number (p - 1) s within ∙ (let l = o.low in omega arith)

  sound : IsSoundProcess g p (process_of s)
  sound = subst (λ (a : Process). IsSoundProcess g p a) process_is (kept.lawful.lawful.sound p o)

  -- the process after a change that makes this world
  module _ (t : OwnProcess) (events : List Event) (v : World) (law : IsLawful g v) (runs : HasRun g v)
      (makes : world_of_processes (set processes (p - 1) t) (history ++ events) ≡ v) where
    has_room : length history + length events ≤ room
    has_room =
        let run : HasRun g (world_of_processes (set processes (p - 1) t) (history ++ events)) = subst (λ (u : World). HasRun g u) (sym makes) runs in
        let short = run_is_short g (history ++ events) run.0 in
        let e = length-append history events in
        let r = kept.history_fits in
        omega arith

    kept_after : (more : ℕ) → IsSameWorker s t → more ≡ room → IsKept g (set processes (p - 1) t) (history ++ events) places more
    kept_after more stays same =
        record {
          in_order = in_order_after g processes (p - 1) t s kept.in_order within is stays;
          lawful = subst (λ (u : World). IsLawful g u) (sym makes) law;
          run = subst (λ (u : World). HasRun g u) (sym makes) runs;
          processes_fit = kept.processes_fit;
          history_fits = same ∙ kept.history_fits;
        }

  processes_are : (t : OwnProcess) (a : Process) → process_of t ≡ a → map process_of (set processes (p - 1) t) ≡ put (map process_of processes) p a
  processes_are t a e = map-set process_of processes (p - 1) t ∙ ap (λ (x : Process). set (map process_of processes) (p - 1) x) e ∙ sym (put_before (map process_of processes) p a o.low)

  pub row_size : length s.row.items ≡ g.jobs + 1
  row_size = sound.row_length

  pub row_free : length s.local.state.dones < length s.row.items
  row_free =
      let few : length (process (world_of_processes processes history) p).local.dones ≤ g.jobs = row_room g (process (world_of_processes processes history)) kept.lawful.lawful p o in
      let size = row_size in
      subst (λ (a : Process). length a.local.dones < length s.row.items) process_is (omega arith)

  -- a machine of this worker says that it may leave
  pub may_leave : (v : WorldView) (l : LocalView) (may : Bool) → record { givens = g; world = world_of_processes processes history } ≡ v
      → l ≡ record { givens = v.givens; number = p; state = (process v.world p).local } → may ≡ can_leave l.state.phase → may ≡ true → can_leave s.local.state.phase ≡ true
  may_leave v l may same is can e =
      ap (λ (a : Process). can_leave a.local.phase) (sym process_is) ∙ ap (λ (y : WorldView). can_leave (process y.world p).local.phase) same
      ∙ ap (λ (y : LocalView). can_leave y.state.phase) (sym is) ∙ sym can ∙ e

  module _ (here : (process (world_of_processes processes history) p).gone ≡ false) where
    pub going : wants_nothing s.local.state.phase ≡ false
    going = ⊎_elim (λ t. absurd (true≢false (sym (sound.gone t) ∙ sym (ap (λ (a : Process). a.gone) process_is) ∙ here))) (λ f. f) (cases_Bool (wants_nothing s.local.state.phase))

    -- with the value that the load gives
    module _ (value : ℕ) (loads : value ≡ loaded_value (world_of_processes processes history) (want (process (world_of_processes processes history) p).local)) where
      loads_here : value ≡ loaded_value (world_of_processes processes history) (want s.local.state)
      loads_here = loads ∙ ap (λ (a : Process). loaded_value (world_of_processes processes history) (want a.local)) process_is

      pub hears : MayLoad s.local.givens value (want s.local.state)
      hears = subst (λ x. MayLoad x value (want s.local.state)) (sym own_givens) (subst (λ x. MayLoad g x (want s.local.state)) (sym loads_here) (subst (λ (a : Process). MayLoad g (loaded_value (world_of_processes processes history) (want a.local)) (want a.local)) process_is (may_load g (world_of_processes processes history) kept.lawful p o)))

      pub stores_zero : is_load (want s.local.state) ≡ false → value ≡ 0
      stores_zero h = loads_here ∙ store_zero (world_of_processes processes history) (want s.local.state) h

      module _ (t : OwnProcess) (x : Shown)
          (makes : process_of t ≡ process_after_step s value)
          (answers : x ≡ shown s.local.state.phase t.local.state.phase) where
        record_is : record_after s.local.givens s.local.number value s.local.state ≡ record_after g p (loaded_value (world_of_processes processes history) (want s.local.state)) s.local.state
        record_is = λ i. record_after (own_givens i) (own_number i) (loads_here i) s.local.state

        phase_is : t.local.state.phase ≡ (record_after g p (loaded_value (world_of_processes processes history) (want s.local.state)) s.local.state).phase
        phase_is = ap (λ (a : Process). a.local.phase) makes
            ∙ ap (λ (r : Record). r.phase) (stored_local (want s.local.state) (process_of s) (record_after s.local.givens s.local.number value s.local.state) ∙ record_is)

        pub shown_is : x ≡ turn_shown g (world_of_processes processes history) p
        shown_is = answers ∙ ap (λ y. shown s.local.state.phase y) phase_is
            ∙ ap (λ (a : Process). shown a.local.phase (record_after g p (loaded_value (world_of_processes processes history) (want a.local)) a.local).phase) (sym process_is)

        pub turn_is : world_of_processes (set processes (p - 1) t) (history ++ events_of p x) ≡ world_after_turn g (world_of_processes processes history) p
        turn_is =
            (λ i. record {
              processes = processes_are t (process_after (want s.local.state) (process_of s) (record_after g p (loaded_value (world_of_processes processes history) (want s.local.state)) s.local.state)) (makes ∙ ap (λ r. process_after (want s.local.state) (process_of s) r) record_is) i;
              history = history ++ events_are i;
            })
            ∙ ap (λ (a : Process). world_after_step g (world_of_processes processes history) p a) (sym process_is)
            ∙ sym (ap (λ b. if b then (world_of_processes processes history) else world_after_step g (world_of_processes processes history) p (process (world_of_processes processes history) p)) here)
          where
            events_are : events_of p x ≡ events_of p (shown s.local.state.phase (record_after g p (loaded_value (world_of_processes processes history) (want s.local.state)) s.local.state).phase)
            events_are = ap (λ y. events_of p y) (answers ∙ ap (λ y. shown s.local.state.phase y) phase_is)

        pub turn_room : length history + length (events_of p x) ≤ room
        turn_room = has_room t (events_of p x) (world_after_turn g (world_of_processes processes history) p) (turn_lawful g (world_of_processes processes history) p g.limits kept.lawful) (turn_runs g (world_of_processes processes history) p g.limits kept.lawful kept.run) turn_is

        pub turn_kept : (more : ℕ) → IsSameWorker s t → more ≡ room → IsKept g (set processes (p - 1) t) (history ++ events_of p x) places more
        turn_kept more = kept_after t (events_of p x) (world_after_turn g (world_of_processes processes history) p) (turn_lawful g (world_of_processes processes history) p g.limits kept.lawful) (turn_runs g (world_of_processes processes history) p g.limits kept.lawful kept.run) turn_is more

    -- a halt
    module _ (t : OwnProcess) (makes : process_of t ≡ record (process_of s) { gone = true }) where
      pub halt_is : world_of_processes (set processes (p - 1) t) (history ++ Halted p ∷ []) ≡ world_after_halt (world_of_processes processes history) p
      halt_is =
          ap {B = World} (λ l. record { processes = l; history = history ++ Halted p ∷ [] }) (processes_are t (record (process_of s) { gone = true }) makes)
          ∙ ap (λ (a : Process). world_with (world_of_processes processes history) p (record a { gone = true }) (Halted p ∷ [])) (sym process_is)
          ∙ sym (ap (λ b. if b then (world_of_processes processes history) else world_with (world_of_processes processes history) p (record (process (world_of_processes processes history) p) { gone = true }) (Halted p ∷ [])) here)

      pub halt_room : length history + 1 ≤ room
      halt_room = has_room t (Halted p ∷ []) (world_after_halt (world_of_processes processes history) p) (halt_lawful g (world_of_processes processes history) p kept.lawful) (halt_runs g (world_of_processes processes history) p kept.lawful kept.run) halt_is

      pub halt_kept : (more : ℕ) → IsSameWorker s t → more ≡ room → IsKept g (set processes (p - 1) t) (history ++ Halted p ∷ []) places more
      halt_kept more = kept_after t (Halted p ∷ []) (world_after_halt (world_of_processes processes history) p) (halt_lawful g (world_of_processes processes history) p kept.lawful) (halt_runs g (world_of_processes processes history) p kept.lawful kept.run) halt_is more

    -- a leaving
    module _ (t : OwnProcess) (may : can_leave s.local.state.phase ≡ true) (makes : process_of t ≡ process_after (StoreNext 0) (process_of s) (record_after_leave s.local.state)) where
      pub leave_is : world_of_processes (set processes (p - 1) t) (history ++ LeftEvent p ∷ []) ≡ world_after_leave (world_of_processes processes history) p
      leave_is =
          ap {B = World} (λ l. record { processes = l; history = history ++ LeftEvent p ∷ [] }) (processes_are t (process_after (StoreNext 0) (process_of s) (record_after_leave s.local.state)) makes)
          ∙ ap (λ (a : Process). world_with (world_of_processes processes history) p (process_after (StoreNext 0) a (record_after_leave a.local)) (LeftEvent p ∷ [])) (sym process_is)
          ∙ sym (ap (λ b. if b then stays else (world_of_processes processes history)) (ap (λ (a : Process). can_leave a.local.phase) process_is ∙ may))
          ∙ sym (ap (λ b. if b then (world_of_processes processes history) else (if can_leave (process (world_of_processes processes history) p).local.phase then stays else (world_of_processes processes history))) here)
        where
          stays : World
          stays = world_with (world_of_processes processes history) p (process_after (StoreNext 0) (process (world_of_processes processes history) p) (record_after_leave (process (world_of_processes processes history) p).local)) (LeftEvent p ∷ [])

      pub leave_room : length history + 1 ≤ room
      leave_room = has_room t (LeftEvent p ∷ []) (world_after_leave (world_of_processes processes history) p) (leave_lawful g (world_of_processes processes history) p kept.lawful) (leave_runs g (world_of_processes processes history) p kept.lawful kept.run) leave_is

      pub leave_kept : (more : ℕ) → IsSameWorker s t → more ≡ room → IsKept g (set processes (p - 1) t) (history ++ LeftEvent p ∷ []) places more
      leave_kept more = kept_after t (LeftEvent p ∷ []) (world_after_leave (world_of_processes processes history) p) (leave_lawful g (world_of_processes processes history) p kept.lawful) (leave_runs g (world_of_processes processes history) p kept.lawful kept.run) leave_is more
