-- Commands keep what they have stopped, at each step.
use Rattle.std.proofs.Common.{◌≡◌, inl, inr, ⊎_elim, ℕ, List, [], ◌∷◌, Option, Some, None, refl, sym, ap, ◌∙◌, subst}
use Rattle.std.specs.Prelude.{◌==◌, ◌&&◌, Bool, true, false, if◌then◌else◌}
use Rattle.amo_safety_by_journals.specs.Model.{Handing, IsOneOf, Clearing as ModelClearing, Site, with_at}
use Rattle.amo_operator.specs.Calls.{Request, Call}
use Rattle.amo_operator.specs.Phase.{Enters as Entering}
use Rattle.amo_operator.specs.Protocol.{phase_after}
use Rattle.amo_program_safety.specs.World.{Process, World, Event, HandsOver, Stops as Stopped, handing_of, world_after}
use Rattle.amo_program_safety.specs.Machine.{Operator, Machine, Step, Happens, Begins, Exits, Drops, Enters, Records, Calls, Dies, without, called, has_recorded, recorded, waiting_after, machine_after}
use Rattle.amo_program_safety.specs.Runs.{MayFollow as MayCome}
use Rattle.amo_program_safety.specs.Steps.{MayFollow}
use Rattle.amo_program_safety.proofs.Texts.{of_both}
use Rattle.amo_program_safety.proofs.Standing.{Goes}
use Rattle.amo_program_safety.proofs.Points.{at_number}
use Rattle.amo_program_safety.proofs.Ready.{Ready, is_ready}
use Rattle.amo_program_safety.proofs.Happens.{some_is, freed_other}
use Rattle.amo_program_safety.proofs.Ordering.{Runs}
use Rattle.amo_program_safety.proofs.Stopping.{StopsAt, Stops, Calm, stops_still, other_calm}
use Rattle.amo_program_safety.proofs.StoppingCalls.{own_stops}

-- ---- attempts on the machine

left_by : (h y : Handing) (hs : List Handing) (x : Handing) (b : Bool) → (IsOneOf (without h hs) x → IsOneOf hs x)
    → IsOneOf (if b then without h hs else y ∷ without h hs) x → IsOneOf (y ∷ hs) x
left_by h y hs x true rest one = inr (rest one)
left_by h y hs x false rest (inl e) = inl e
left_by h y hs x false rest (inr more) = inr (rest more)

-- those that are left were there
pub left_of : (h : Handing) (hs : List Handing) (x : Handing) → IsOneOf (without h hs) x → IsOneOf hs x
left_of h [] x one = one
left_of h (y ∷ hs) x one = left_by h y hs x ((y.worker == h.worker) && (y.serial == h.serial)) (left_of h hs x) one

-- what a process hands over is of its worker and of this serial number
pub given_by : (o : Option Process) (p : Process) (serial line : ℕ) (h : Handing) → o ≡ Some p → IsOneOf (handing_of o serial line) h
    → (p.worker ≡ h.worker) × (serial ≡ h.serial)
given_by None p serial line h is one = absurd one
given_by (Some x) p serial line h is (inl e) =
    (ap (λ (y : Process). y.worker) (sym (some_is is)) ∙ ap (λ (y : Handing). y.worker) e, ap (λ (y : Handing). y.serial) e)
given_by (Some x) p serial line h is (inr none) = absurd none

-- the attempt that is handed over is the one that the process holds
pub record Given (w : World) (v : Site) (h : Handing) : Type 0 where
  pub pid : ℕ
  pub guard : w.guard h.worker ≡ Some pid
  pub line : ℕ
  pub seen : List ℕ
  pub stage : v.stage h.worker ≡ ModelClearing h.serial line seen

pub given_at : (w : World) (v : Site) (pid serial line : ℕ) (text : List ℕ) → MayCome w (HandsOver pid serial line text) → Goes w v
    → (h : Handing) → IsOneOf (handing_of (w.process pid) serial line) h → Given w v h
given_at w v pid serial line text may goes h one =
    let p = may.0 in
    let ready : Ready w v pid p p.phase serial line = is_ready w v pid p serial line text may.2 p.phase (goes.stand pid p may.1.0).here may.1.1 in
    let named : (p.worker ≡ h.worker) × (serial ≡ h.serial) = given_by (w.process pid) p serial line h may.1.0 one in
    record {
      pid = pid;
      guard = ap w.guard (sym named.0) ∙ ready.owns.guard;
      line = line;
      seen = ready.seen;
      stage = ap v.stage (sym named.0) ∙ (ready.stage ∙ ap (λ (s : ℕ). ModelClearing s line ready.seen) named.1);
    }

-- ---- steps

-- no command does anything
pub others_stop : (m m' : Machine) → m'.operator ≡ m.operator → ((pid : ℕ) → Calm m m' pid) → Stops m → Stops m'
others_stop m m' same calm stops = record {
  stops = λ pid o is. stops_still m m' pid (calm pid) o.phase (stops.stops pid o (ap (λ (f : ℕ → Option Operator). f pid) (sym same) ∙ is));
}

-- One command does something, or is gone.
pub one_stops : (m m' : Machine) (pid : ℕ) (x : Option Operator) → m'.operator ≡ with_at m.operator pid x
    → ((other : ℕ) → (other ≡ pid → ⊥) → Calm m m' other) → ((o : Operator) → x ≡ Some o → StopsAt m' pid o.phase) → Stops m → Stops m'
one_stops m m' pid x same calm own stops = record {
  stops = λ other o is. at_number (λ (y : Option Operator). y ≡ Some o → StopsAt m' other o.phase) m.operator pid x other
      (λ e at. subst (λ k. StopsAt m' k o.phase) (sym e) (own o at))
      (λ n at. stops_still m m' other (calm other n) o.phase (stops.stops other o at))
      (ap (λ (f : ℕ → Option Operator). f other) (sym same) ∙ is);
}

-- the waiting attempts of workers whose journals a command has locked
waits_still : (m : Machine) (v : Site) (e : Event) → MayFollow m (Happens e) → Runs m v → (pid : ℕ) (h : Handing) → m.held h.worker ≡ Some pid
    → IsOneOf (waiting_after m.world m.waiting e) h → IsOneOf m.waiting h
waits_still m v (HandsOver process serial line text) may runs pid h held one = ⊎_elim
    (λ new.
    let given = given_at m.world v process serial line text may.0 runs.goes h new in
    let taken : m.world.guard h.worker ≡ Some given.pid = given.guard in
    let free : m.world.guard h.worker ≡ None = runs.apart h.worker pid held in
    absurd (cc (taken, free)))
    (λ old. old)
    (of_both (handing_of (m.world.process process) serial line) m.waiting h one)
waits_still m v (Stopped left) may runs pid h held one = absurd one
waits_still m v e may runs pid h held one = one

happens_stops : (m : Machine) (v : Site) (e : Event) → MayFollow m (Happens e) → Runs m v → Stops m → Stops (machine_after m (Happens e))
happens_stops m v (Stopped left) may runs stops = record { stops = λ pid o is. absurd (cc is) }
happens_stops m v e may runs stops =
    others_stop m (record m { world = world_after m.world e; waiting = waiting_after m.world m.waiting e }) refl
    (λ pid. record { held = λ q is. is; waiting = λ h held one. waits_still m v e may runs pid h held one; running = λ h one. inl one }) stops

records_stops : (m : Machine) (pid : ℕ) (r : Request) (x : Option Operator) → m.operator pid ≡ x → Stops m → Stops (has_recorded m pid x r)
records_stops m pid r None is stops = stops
records_stops m pid r (Some o) is stops =
    let m' : Machine = record m { world = recorded m.world r; operator = with_at m.operator pid (Some (record o { writes = Some r })) } in
    let calm : (other : ℕ) → Calm m m' other = λ other. record { held = λ q held. held; waiting = λ h held one. one; running = λ h one. inl one } in
    one_stops m m' pid (Some (record o { writes = Some r })) refl (λ other n. calm other)
    (λ o' e. subst (λ (y : Operator). StopsAt m' pid y.phase) (some_is e) (stops_still m m' pid (calm pid) o.phase (stops.stops pid o is)))
    stops

calls_stops : (m : Machine) (v : Site) (pid : ℕ) (c : Call) → MayFollow m (Calls pid c) → Runs m v → Stops m → Stops (machine_after m (Calls pid c))
calls_stops m v pid c (o, (is, allowed), its, gives) runs stops = subst (λ (x : Option Operator). Stops (called m pid x c)) (sym is)
    (one_stops m (called m pid (Some o) c) pid (Some (record { phase = phase_after o.phase c; writes = None })) refl
    (λ other n. other_calm m pid o c other gives n)
    (λ o' e. subst (λ (y : Operator). StopsAt (called m pid (Some o) c) pid y.phase) (some_is e)
    (own_stops m v pid o o.phase c allowed gives (runs.stands pid o is) (stops.stops pid o is)))
    stops)

pub step_stops : (m : Machine) (v : Site) (s : Step) → MayFollow m s → Runs m v → Stops m → Stops (machine_after m s)
step_stops m v (Happens e) may runs stops = happens_stops m v e may runs stops
step_stops m v (Begins h) may runs stops = others_stop m (machine_after m (Begins h)) refl
    (λ pid. record {
      held = λ q is. is;
      waiting = λ x held one. left_of h m.waiting x one;
      running = λ x one. ⊎_elim (λ e. inr (subst (IsOneOf m.waiting) e may)) (λ old. inl old) one;
    }) stops
step_stops m v (Exits h) may runs stops = others_stop m (machine_after m (Exits h)) refl
    (λ pid. record { held = λ q is. is; waiting = λ x held one. one; running = λ x one. inl (left_of h m.running x one) }) stops
step_stops m v (Drops h) may runs stops = others_stop m (machine_after m (Drops h)) refl
    (λ pid. record { held = λ q is. is; waiting = λ x held one. left_of h m.waiting x one; running = λ x one. inl one }) stops
step_stops m v (Enters pid command) may runs stops =
    one_stops m (machine_after m (Enters pid command)) pid (Some (record { phase = Entering command false; writes = None })) refl
    (λ other n. record { held = λ q is. is; waiting = λ x held one. one; running = λ x one. inl one })
    (λ o e. subst (λ (y : Operator). StopsAt (machine_after m (Enters pid command)) pid y.phase) (some_is e) tt)
    stops
step_stops m v (Records pid r) may runs stops = records_stops m pid r (m.operator pid) refl stops
step_stops m v (Calls pid c) may runs stops = calls_stops m v pid c may runs stops
step_stops m v (Dies pid) may runs stops =
    one_stops m (machine_after m (Dies pid)) pid None refl
    (λ other n. record { held = λ q is. freed_other (m.held q) pid other n is; waiting = λ x held one. one; running = λ x one. inl one })
    (λ o e. absurd (cc e))
    stops
