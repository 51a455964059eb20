-- Workers may run with no operator's command.
use Rattle.std.proofs.Common.{◌≡◌, ℕ, List, [], ◌∷◌, map, None, refl, sym, ap, ◌∙◌, subst}
use Rattle.std.specs.Prelude.{true}
use Rattle.amo_host.specs.declared.model.RunLock.TheVariants.{Guard}
use Rattle.amo_host.specs.Calls.{Tried}
use Rattle.amo_program_safety.specs.World.{Event, Calls, Stops, world_after}
use Rattle.amo_program_safety.specs.Runs.{IsRun, IsRunFrom, world_from, world_of}
use Rattle.amo_program_safety.specs.Machine.{Machine, Happens, first_machine, happened}
use Rattle.amo_program_safety.specs.Steps.{AreOfNoCommand, LockIsFree, IsRun as IsRunOfAll, IsRunFrom as IsRunOfAllFrom, machine_from, machine_of}

-- no command has a lock
abbrev pub HasNoLock : Machine → Type 0
HasNoLock m = (q : ℕ) → m.held q ≡ None

stays_free : (m : Machine) (e : Event) → HasNoLock m → HasNoLock (happened m e)
stays_free m (Stops left) free q = refl
stays_free m e free q = free q

world_is : (m : Machine) (e : Event) → (happened m e).world ≡ world_after m.world e
world_is m (Stops left) = refl
world_is m e = refl

is_free : (m : Machine) (e : Event) → HasNoLock m → LockIsFree m e
is_free m (Calls process (Tried (Guard worker) hold true)) free = free worker
is_free m e free = tt

pub all_run : (es : List Event) (m : Machine) → HasNoLock m → IsRunFrom m.world es → AreOfNoCommand es
    → IsRunOfAllFrom m (map Happens es) × ((machine_from m (map Happens es)).world ≡ world_from m.world es)
all_run [] m free run none = (tt, refl)
all_run (e ∷ es) m free (may, run) (one, none) =
    let rest = all_run es (happened m e) (stays_free m e free) (subst (λ w. IsRunFrom w es) (sym (world_is m e)) run) none in
    (((may, is_free m e free, one), rest.0), rest.1 ∙ ap (λ w. world_from w es) (world_is m e))

pub workers_run_alone : (es : List Event) → IsRun es → AreOfNoCommand es → IsRunOfAll (map Happens es) × ((machine_of (map Happens es)).world ≡ world_of es)
workers_run_alone es run none = all_run es first_machine (λ q. refl) run none
